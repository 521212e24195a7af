-- How large numbers get, by the number of variables that are left.
use Rattle.std.specs.Prelude.{ℕ, zero, suc, ◌+◌, ◌^◌, ◌≤◌, ℤ, List, length, slice_index_or, Bool, true, false, All}
use Rattle.std.specs.Int.RustNames.{unsigned_abs}
use Rattle.lp_cert.specs.Program.{entry}
use Rattle.lp_core.specs.declared.reduced.Line.{Line}

abbrev pub one_if : Bool → ℕ
one_if true = 1
one_if false = 0

-- how many of the first k variables are left
abbrev pub live_below : List Bool → ℕ → ℕ
live_below live zero = 0
live_below live (suc k) = live_below live k + one_if (slice_index_or live k false)

-- the number of variables that are left
unfoldable pub level : List Bool → ℕ
level live = live_below live 3

abbrev pub entry_most : ℕ → ℕ
entry_most zero = 648
entry_most (suc zero) = 18
entry_most (suc (suc zero)) = 3
entry_most (suc (suc (suc n))) = 1

abbrev pub side_most : ℕ → ℕ
side_most zero = 2 ^ 74
side_most (suc zero) = 2 ^ 68
side_most (suc (suc zero)) = 2 ^ 65
side_most (suc (suc (suc n))) = 2 ^ 64

abbrev pub objective_most : ℕ → ℕ
objective_most zero = 1769472
objective_most (suc zero) = 49152
objective_most (suc (suc zero)) = 8192
objective_most (suc (suc (suc n))) = 4096

abbrev pub den_most : ℕ → ℕ
den_most zero = 1
den_most (suc zero) = 18
den_most (suc (suc n)) = 54

abbrev pub num_most : ℕ → ℕ
num_most zero = 2 ^ 74
num_most (suc zero) = 2 ^ 81
num_most (suc (suc zero)) = 2 ^ 85
num_most (suc (suc (suc n))) = 2 ^ 88

abbrev pub dual_most : ℕ → ℕ
dual_most zero = 0
dual_most (suc zero) = 49152
dual_most (suc (suc zero)) = 294912
dual_most (suc (suc (suc n))) = 811008

abbrev pub farkas_most : ℕ → ℕ
farkas_most zero = 1
farkas_most (suc zero) = 18
farkas_most (suc (suc zero)) = 108
farkas_most (suc (suc (suc n))) = 324

-- the three entries are at most m in absolute value
pub record AreAtMost (m : ℕ) (c : List ℤ) : Type 0 where
  pub first : unsigned_abs (entry c 0) ≤ m
  pub second : unsigned_abs (entry c 1) ≤ m
  pub third : unsigned_abs (entry c 2) ≤ m

pub record IsSmallLine (m h : ℕ) (x : Line) : Type 0 where
  pub entries : AreAtMost m x.c
  pub side : unsigned_abs x.h ≤ h

pub record AreFew (count most : ℕ) (items : List (ℕ × ℤ)) : Type 0 where
  pub few : length items ≤ count
  pub small : All (λ item. unsigned_abs item.1 ≤ most) items
