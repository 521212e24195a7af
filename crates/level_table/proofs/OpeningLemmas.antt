-- largest payoffs and their sums, one step on, and the table that has the opening levels
use Rattle.std.proofs.Common.{◌≡◌, ℕ, zero, suc, ◌+◌, ◌-◌, ◌*◌, ◌%◌, ◌^◌, ◌≤◌, ◌<◌, ⊎_elim, List, length, get_or, sym, ap, subst, ◌∙◌, arith, add-one, ℤ, pos, ◌+ℤ◌}
use Rattle.std.specs.Int.{int_max}
use Rattle.std.specs.Int.RustNames.{unsigned_abs}
use Rattle.std.proofs.Math.ListN.{get_or-eq_default}
use Rattle.std.proofs.Math.Nat.{mod-lt, mul-le-mul}
use Rattle.std.proofs.lemmas.Bool.{cases_lt}
use Rattle.std.proofs.lemmas.Nat.{mod-mul-add}
use Rattle.game_model.specs.Game.{states}
use Rattle.game_model.specs.SelfGeneration.{sum_below}
use Rattle.exact_algebra.proofs.Order.{within_abs}
use Rattle.level_table.specs.declared.level.Level.{Level}
use Rattle.level_table.specs.declared.level.Level.TheVariants.{Empty, At}
use Rattle.level_table.specs.Problem.{Problem, direction_count, largest, opening_level}
use Rattle.level_table.specs.Levels.{Table, IsSmall, level_at}
use Rattle.level_table.specs.Tables.{IsWhole, IsOpening}

pub largest_more : (f : ℕ → ℤ) (n : ℕ) (x y r : ℤ) → 1 ≤ n → x ≡ largest f (n - 1) → y ≡ f n → r ≡ int_max x y → r ≡ largest f (n + 1 - 1)
largest_more f zero x y r some ex ey er = absurd (omega arith)
largest_more f (suc m) x y r some ex ey er =
    let before : suc m - 1 ≡ m = omega arith in
    let after : suc m + 1 - 1 ≡ suc m = omega arith in
    let old : x ≡ largest f m = ex ∙ ap (largest f) before in
    let new : r ≡ largest f (suc m) = cc in
    new ∙ ap (largest f) (sym after)

pub sum_more : (f : ℕ → ℤ) (n : ℕ) (x y : ℤ) → x ≡ sum_below f n → y ≡ f n → x +ℤ y ≡ sum_below f (n + 1)
sum_more f n x y ex ey =
    let new : x +ℤ y ≡ sum_below f (suc n) = cc in
    new ∙ ap (sum_below f) (sym (add-one n))

-- one of two numbers
pub max_small : (x y r : ℤ) (n : ℕ) → unsigned_abs x ≤ n → unsigned_abs y ≤ n → r ≡ int_max x y → unsigned_abs r ≤ n
max_small x y r n p q e = rw e (grind arith)

-- a table whose rows repeat the opening levels
pub IsOpening-uniform : (p : Problem) (t : Table) (each : List ℤ) (n d : ℕ) → IsWhole t → t.states ≡ n → t.directions ≡ d → n ≡ states p.game → d ≡ direction_count p →
    ((row : ℕ) → row < n * d → level_at t row ≡ At (get_or each (row % d) (pos 0))) →
    ((k : ℕ) → k < direction_count p → get_or each k (pos 0) ≡ opening_level p k) →
    ((k : ℕ) → k < direction_count p → unsigned_abs (opening_level p k) ≤ 2 ^ 50) → IsOpening p t
IsOpening-uniform p t each n d whole tn td en ed rows openings small = record {
  sizes = record { states_agree = tn ∙ en; directions_agree = td ∙ ed };
  levels = λ s k r. rw td (at s k (omega (arith, r.state)) (omega (arith, r.direction)));
  small = λ row. ⊎_elim (λ (h : row < n * d). inside row h) (λ (h : n * d ≤ row). outside row h) (cases_lt row (n * d));
}
  where
    at : (s k : ℕ) → s < n → k < d → level_at t (s * d + k) ≡ At (opening_level p k)
    at s k state direction =
        let row : (s + 1) * d ≤ n * d = mul-le-mul (omega arith) (omega arith) in
        let index : (s * d + k) % d ≡ k = mod-mul-add s d k direction in
        rows (s * d + k) (omega arith) ∙ ap (λ (j : ℕ). At (get_or each j (pos 0))) index ∙ ap At (openings k (omega arith))

    inside : (row : ℕ) → row < n * d → IsSmall (level_at t row)
    inside row h =
        let some : 0 < d = omega (arith, whole.some_direction) in
        let below : row % d < direction_count p = omega (arith, mod-lt row some) in
        let e : level_at t row ≡ At (opening_level p (row % d)) = rows row h ∙ ap At (openings (row % d) below) in
        subst (λ (l : Level). IsSmall l) (sym e) (within_abs (opening_level p (row % d)) (2 ^ 50) (small (row % d) below))

    outside : (row : ℕ) → n * d ≤ row → IsSmall (level_at t row)
    outside row h =
        let size : length t.levels ≡ n * d = rw (← tn, ← td) whole.one_each in
        let e : level_at t row ≡ Empty = get_or-eq_default t.levels Empty {n = row} (omega arith) in
        subst (λ (l : Level). IsSmall l) (sym e) tt
