-- rows of a table by their numbers
use Rattle.std.proofs.Common.{◌≡◌, ◌⊎◌, inl, inr, ⊎_elim, ℕ, ◌+◌, ◌*◌, ◌/◌, ◌%◌, ◌<◌, ◌≤◌, length, sym, ap, ◌∙◌, subst, arith}
use Rattle.std.proofs.Math.Nat.{mod-lt}
use Rattle.std.proofs.lemmas.Nat.{div-mul-add, mod-mul-add, div_below, div-add-mod', mul-add-lt}
use Rattle.std.proofs.lemmas.Bool.{cases_lt, cases_eq}
use Rattle.game_model.specs.Game.{states}
use Rattle.level_table.specs.declared.level.Level.TheVariants.{Empty}
use Rattle.level_table.specs.Problem.{Problem, direction_count}
use Rattle.level_table.specs.Levels.{Table, IsNumber, IsRow, IsSmall, levels_in, level_at}
use Rattle.level_table.specs.Supported.{IsEven}
use Rattle.level_table.specs.Tables.{IsSmallTable}
use Rattle.set_operator.specs.Prepared.{PreparedState}
use Rattle.settle_test.specs.Verdicts.{IsReadyAt, direction_of, state_of}

pub place_below : (p : Problem) (t : Table) (s k : ℕ) → IsSmallTable p t → IsRow p s k → s * t.directions + k < length t.levels
place_below p t s k small row =
    let h : s * t.directions + k < t.directions * t.states = mul-add-lt s t.directions k t.states (omega (arith, row.state, small.sizes.states_agree)) (omega (arith, row.direction, small.sizes.directions_agree)) in
    omega (arith, small.whole.one_each)

pub some_direction : (p : Problem) (t : Table) → IsSmallTable p t → 0 < direction_count p
some_direction p t small = omega (arith, small.whole.some_direction, small.sizes.directions_agree)

pub row_known : (p : Problem) (t : Table) (row : ℕ) → IsSmallTable p t → row < length t.levels → IsRow p (state_of p row) (direction_of p row)
row_known p t row small below =
    let d : t.directions ≡ direction_count p = small.sizes.directions_agree in
    let some : 1 ≤ t.directions = small.whole.some_direction in
    let positive : 0 < t.directions = omega arith in
    let known : row / t.directions < t.states = div_below row t.directions t.states positive (omega (arith, small.whole.one_each)) in
    let dir : row % t.directions < t.directions = mod-lt row positive in
    record {
      state = subst (λ (n : ℕ). row / n < states p.game) d (omega (arith, known, small.sizes.states_agree));
      direction = subst (λ (n : ℕ). row % n < direction_count p) d (omega (arith, dir, d));
    }

pub row_here : (p : Problem) (t : Table) (row : ℕ) → IsSmallTable p t → levels_in t (state_of p row) (direction_of p row) ≡ level_at t row
row_here p t row small =
    subst (λ (n : ℕ). level_at t (row / n * t.directions + row % n) ≡ level_at t row) small.sizes.directions_agree (ap (level_at t) (div-add-mod' row t.directions))

pub row_small : (p : Problem) (t : Table) (row : ℕ) → IsSmallTable p t → row < length t.levels → IsSmall (level_at t row)
row_small p t row small below =
    subst IsSmall (row_here p t row small) (small.small (state_of p row) (direction_of p row) (row_known p t row small below))

-- the next row of the same state
same_state : (d row : ℕ) → 0 < d → ((row + 1) % d ≡ 0 → ⊥) → (row + 1) / d ≡ row / d
same_state d row some inside =
    ⊎_elim
    (λ (lt : row % d + 1 < d).
    let place : row / d * d + (row % d + 1) ≡ row + 1 = omega (arith, div-add-mod' row d) in
    ap (λ (n : ℕ). n / d) (sym place) ∙ div-mul-add (row / d) d (row % d + 1) lt)
    (λ (ge : d ≤ row % d + 1).
    let full : row % d + 1 ≡ d = omega (arith, ge, mod-lt row some) in
    let next : (row / d + 1) * d + 0 ≡ row + 1 = omega (arith, full, div-add-mod' row d) in
    absurd (inside (ap (λ (n : ℕ). n % d) (sym next) ∙ mod-mul-add (row / d + 1) d 0 some)))
    (cases_lt (row % d + 1) d)

same_emptiness : (p : Problem) (t : Table) (row next : ℕ) → IsSmallTable p t → IsEven p (levels_in t) → row < length t.levels → next < length t.levels → state_of p next ≡ state_of p row → level_at t row ≡ Empty → level_at t next ≡ Empty
same_emptiness p t row next small even below next_below same empty =
    let here : IsRow p (state_of p row) (direction_of p row) = row_known p t row small below in
    let there : IsRow p (state_of p next) (direction_of p next) = row_known p t next small next_below in
    ⊎_elim
    (λ (all : (k : ℕ) → k < direction_count p → levels_in t (state_of p row) k ≡ Empty).
    sym (row_here p t next small) ∙ ap (λ (s : ℕ). levels_in t s (direction_of p next)) same ∙ all (direction_of p next) there.direction)
    (λ (numbers : (k : ℕ) → k < direction_count p → IsNumber (levels_in t (state_of p row) k)).
    absurd (subst IsNumber (row_here p t row small ∙ empty) (numbers (direction_of p row) here.direction)))
    (even (state_of p row) here.state)

-- what is ready for a row is for the next one, if that isn't the first of a state
pub ready_next : (p : Problem) (t : Table) (q : PreparedState) (row : ℕ) → IsSmallTable p t → IsEven p (levels_in t) → row < length t.levels → IsReadyAt p t q row
    → row + 1 < length t.levels → ((row + 1) % direction_count p ≡ 0) ⊎ IsReadyAt p t q (row + 1)
ready_next p t q row small even below ready next =
    ⊎_elim
    (λ (first : (row + 1) % direction_count p ≡ 0). inl first)
    (λ (inside : (row + 1) % direction_count p ≡ 0 → ⊥).
    let same : state_of p (row + 1) ≡ state_of p row = same_state (direction_count p) row (some_direction p t small) inside in
    ⊎_elim
    (λ (empty : level_at t row ≡ Empty). inr (inl (same_emptiness p t row (row + 1) small even below next same empty)))
    (λ made. inr (inr (made.0, made.1 ∙ sym same)))
    ready)
    (cases_eq ((row + 1) % direction_count p) 0)
