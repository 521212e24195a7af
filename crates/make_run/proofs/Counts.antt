-- Sums over the rows of a table.
use Rattle.std.proofs.Common.{◌≡◌, ℕ, zero, suc, ◌+◌, ◌*◌, ◌/◌, ◌%◌, ◌<◌, ◌≤◌, length, ap, subst, ◌∙◌, arith}
use Rattle.std.specs.Prelude.{ℤ, ◌+ℤ◌}
use Rattle.std.proofs.Math.Nat.{div-lt_iff_lt-mul}
use Rattle.std.proofs.lemmas.Int.{ints}
use Rattle.game_model.specs.Game.{states}
use Rattle.game_model.specs.SelfGeneration.{sum_below}
use Rattle.level_table.specs.declared.level.Level.{Level}
use Rattle.level_table.specs.Problem.{Problem}
use Rattle.level_table.specs.Levels.{IsSmall, Table, level_at, levels_in}
use Rattle.level_table.specs.Tables.{IsSmallTable}
use Rattle.make_run.specs.Summary.{sum_of_rows}

sum_more : (g : ℕ → ℤ) (m n : ℕ) → sum_below g (m + n) ≡ sum_below g m +ℤ sum_below (λ k. g (m + k)) n
sum_more g m zero = let e : m + 0 ≡ m = omega arith in ap (sum_below g) e ∙ omega (arith, ints)
sum_more g m (suc n) =
    let e : m + suc n ≡ suc (m + n) = omega arith in
    let h : sum_below g (m + n) ≡ sum_below g m +ℤ sum_below (λ k. g (m + k)) n = sum_more g m n in
    ap (sum_below g) e ∙ omega (arith, ints, h)

sum_by_states : (g : ℕ → ℤ) (d n : ℕ) → sum_below g (n * d) ≡ sum_below (λ s. sum_below (λ k. g (s * d + k)) d) n
sum_by_states g d zero = let e : 0 * d ≡ 0 = omega arith in ap (sum_below g) e
sum_by_states g d (suc n) =
    let e : suc n * d ≡ n * d + d = omega arith in
    ap (sum_below g) e ∙ sum_more g (n * d) d ∙ ap (λ z. z +ℤ sum_below (λ k. g (n * d + k)) d) (sum_by_states g d n)

pub sum_of_all : (p : Problem) (t : Table) (f : Level → ℤ) → IsSmallTable p t → sum_below (λ row. f (level_at t row)) (length t.levels) ≡ sum_of_rows p f (levels_in t)
sum_of_all p t f h =
    ap (sum_below (λ row. f (level_at t row))) h.whole.one_each ∙ sum_by_states (λ row. f (level_at t row)) t.directions t.states
    ∙ ap (λ n. sum_below (λ s. sum_below (λ k. f (levels_in t s k)) t.directions) n) h.sizes.states_agree
    ∙ ap (λ d. sum_below (λ s. sum_below (λ k. f (levels_in t s k)) d) (states p.game)) h.sizes.directions_agree

div_below : (row d n : ℕ) → row < n * d → 1 ≤ d → row / d < n
div_below row d n h some = (div-lt_iff_lt-mul {k = d} {x = row} {y = n} some).1 h

pub small_by_row : (p : Problem) (t : Table) (row : ℕ) → IsSmallTable p t → row < length t.levels → IsSmall (level_at t row)
small_by_row p t row h within =
    let d : ℕ = t.directions in
    let some : 1 ≤ d = h.whole.some_direction in
    let all : length t.levels ≡ t.states * d = h.whole.one_each in
    let place : row / d * d + row % d ≡ row = omega (arith, some) in
    let state : row / d < t.states = div_below row d t.states (omega (arith, all)) some in
    let direction : row % d < d = omega (arith, some) in
    let here = h.small (row / d) (row % d) (record { state = subst (λ n. row / d < n) h.sizes.states_agree state; direction = subst (λ n. row % d < n) h.sizes.directions_agree direction }) in
    subst (λ r. IsSmall (level_at t r)) place here
