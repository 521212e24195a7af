-- Levels that are numbers: which number, that a small one is kept in 64 bits, and that an opening has small ones.
use Rattle.std.proofs.Common.{◌≡◌, ◌+◌, ◌*◌, ◌^◌, ◌≤◌, subst, arith, ℤ, w64, to_z, of_z}
use Rattle.std.specs.Int.RustNames.{unsigned_abs}
use Rattle.std.proofs.lemmas.Int.{to_z-of_z, fits_signed_from_abs}
use Rattle.exact_algebra.proofs.Order.{abs_within}
use Rattle.level_table.specs.declared.level.Level.TheVariants.{At}
use Rattle.level_table.specs.Problem.{Problem, IsProblem, opening_level}
use Rattle.level_table.specs.Levels.{Table, IsSmall, level_at}
use Rattle.level_table.specs.Tables.{HasSmallOpening, IsOpening}

pub number_at : (x y : ℤ) → At x ≡ At y → x ≡ y
number_at x y e = cc

pub fits_level : (x : ℤ) → unsigned_abs x ≤ 2 ^ 62 → to_z w64 (of_z w64 x) ≡ x
fits_level x h = to_z-of_z w64 x (fits_signed_from_abs w64 x (omega (arith, h)))

pub fits_small : (x : ℤ) → IsSmall (At x) → to_z w64 (of_z w64 x) ≡ x
fits_small x a = fits_level x (omega (arith, abs_within x (2 ^ 50) a.0 a.1))

pub small_opening : (p : Problem) (t : Table) → IsProblem p → IsOpening p t → HasSmallOpening p
small_opening p t ok opening k known =
    let x = opening_level p k in
    let here : level_at t (0 * t.directions + k) ≡ At x = opening.levels 0 k (record { state = omega (arith, ok.game.some_state); direction = known }) in
    let low : IsSmall (At x) = subst IsSmall here (opening.small (0 * t.directions + k)) in
    abs_within x (2 ^ 50) low.0 low.1
