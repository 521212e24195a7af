-- Numbers of directions that have a table.
use Rattle.std.proofs.Common.{ℕ, ◌<◌, ◌≤◌, ◌^◌, ℤ, pos, negsuc, ◌≤ℤ◌, arith}
use Rattle.std.specs.Int.RustNames.{unsigned_abs}
use Rattle.std.proofs.lemmas.Int.{ints}
use Rattle.std.proofs.lemmas.Bool.Decides.{nat_tests}
use Rattle.direction_set.specs.DirectionTable.{HasTable}

-- a table has at most 32 directions
pub directions_few : (players k : ℕ) → HasTable players k → k ≤ 32
directions_few players k h = grind (arith, nat_tests)

pub unit_few : (x : ℤ) → pos 1 ≤ℤ x → x ≤ℤ pos (2 ^ 100) → unsigned_abs x < 10 ^ 36
unit_few (pos n) h k = omega (arith, ints)
unit_few (negsuc n) h k = absurd (omega (arith, ints))

pub times_few : (x : ℤ) → pos 1 ≤ℤ x → x ≤ℤ pos (2 ^ 20) → unsigned_abs x < 10 ^ 36
times_few (pos n) h k = omega (arith, ints)
times_few (negsuc n) h k = absurd (omega (arith, ints))
