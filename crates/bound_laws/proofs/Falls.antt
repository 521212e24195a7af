-- How far tables fall, and that they stay at most the iterates.
use Rattle.std.proofs.Common.{◌≡◌, ◌≢◌, ◌⊎◌, inl, inr, ℕ, zero, suc, ◌+◌, ◌<◌, refl, ap, sym, ◌∙◌, subst, arith}
use Rattle.std.specs.Prelude.{ℤ, pos, ◌+ℤ◌, ◌-ℤ◌, ◌*ℤ◌, ◌≤ℤ◌, ◌<ℤ◌, neg_ℤ}
use Rattle.std.proofs.lemmas.Int.{ints, by_lt_z}
use Rattle.std.proofs.lemmas.Bool.{cases_eq}
use Rattle.exact_algebra.proofs.Order.{at_most_self, at_most_below_trans, times_at_most, times_swap}
use Rattle.direction_set.specs.DirectionTable.{opposite_of}
use Rattle.game_model.specs.Game.{states}
use Rattle.game_model.specs.SelfGeneration.{sum_below}
use Rattle.level_table.specs.declared.level.Level.{Level}
use Rattle.level_table.specs.declared.level.Level.TheVariants.{Empty, At}
use Rattle.level_table.specs.Problem.{Problem, direction_count, IsProblem}
use Rattle.level_table.specs.Levels.{Levels, AtMost, IsBelow, IsNumber, IsRow, opening_table}
use Rattle.level_table.specs.Operator.{HasValueAbove, IsRowLevel, value, value_unit}
use Rattle.level_table.specs.Supported.{IsEven}
use Rattle.level_table.specs.Iterates.{number_of, height, row_drop, emptied, drop_of}
use Rattle.level_table.specs.Start.{IsBetween}
use Rattle.bound_laws.specs.Laws.{HasRange}
use Rattle.bound_laws.specs.Falls.{PassesRowLevels, IsBelowIterate, HasFloor, most_drop}
use Rattle.bound_laws.proofs.Directions.{opposite_known}
use Rattle.bound_laws.proofs.Levels.{number_above, level_at_most_trans, at_most_lesser}
use Rattle.bound_laws.proofs.Operator.{value_unit_positive}
use Rattle.bound_laws.proofs.Order.{at_most_along}
use Rattle.bound_laws.proofs.Sums.{sum_below-at_most, sum_below-plus, sum_below-zero}

-- ---- iterates
pub below_first_iterate : (p : Problem) (start t : Levels) → IsBelow p t start → IsBelowIterate p start 0 t
below_first_iterate p start t below iterate h s k row = subst (AtMost (t s k)) (sym (h s k row)) (below s k row)

below_suc_iterate : (p : Problem) (start t u : Levels) (r : ℕ) → IsBelowIterate p start r t → IsBelow p u t → PassesRowLevels p t u → IsBelowIterate p start (suc r) u
below_suc_iterate p start t u r before below passed iterate h s k row =
    let old : IsBelow p t h.0 = before h.0 h.1 in
    let n = h.2 s k row in
    subst (AtMost (u s k)) (sym n.2)
    (at_most_lesser (u s k) (h.0 s k) n.0 (level_at_most_trans (u s k) (t s k) (h.0 s k) (below s k row) (old s k row)) (passed h.0 s k n.0 old row n.1))

pub below_next_iterate : (p : Problem) (start t u : Levels) (r : ℕ) → IsBelowIterate p start r t → IsBelow p u t → PassesRowLevels p t u → IsBelowIterate p start (r + 1) u
below_next_iterate p start t u r before below passed =
    let more : suc r ≡ r + 1 = omega arith in
    subst (λ n. IsBelowIterate p start n u) more (below_suc_iterate p start t u r before below passed)

-- ---- one row and one state
row_drop_grows : (start : Levels) (s k : ℕ) (l m : Level) → AtMost m l → ((x : ℤ) → l ≡ At x → neg_ℤ (number_of (start s (opposite_of k))) ≤ℤ x) → row_drop start s k l ≤ℤ row_drop start s k m
row_drop_grows start s k Empty Empty h floor = at_most_self (height start s k)
row_drop_grows start s k Empty (At y) h floor = absurd h
row_drop_grows start s k (At x) Empty h floor = let f : neg_ℤ (number_of (start s (opposite_of k))) ≤ℤ x = floor x refl in omega (arith, ints)
row_drop_grows start s k (At x) (At y) h floor = omega (arith, ints)

row_drop_most : (start : Levels) (s k : ℕ) (l : Level) → ((x : ℤ) → l ≡ At x → neg_ℤ (number_of (start s (opposite_of k))) ≤ℤ x) → row_drop start s k l ≤ℤ height start s k
row_drop_most start s k Empty floor = at_most_self (height start s k)
row_drop_most start s k (At x) floor = let f : neg_ℤ (number_of (start s (opposite_of k))) ≤ℤ x = floor x refl in omega (arith, ints)

emptied_grows : (a l m : Level) → AtMost m l → emptied a l ≤ℤ emptied a m
emptied_grows Empty l m h = at_most_self (pos 0)
emptied_grows (At x) Empty Empty h = at_most_self (pos 1)
emptied_grows (At x) Empty (At z) h = absurd h
emptied_grows (At x) (At y) Empty h = omega (arith, ints)
emptied_grows (At x) (At y) (At z) h = at_most_self (pos 0)

emptied_most : (a l : Level) → emptied a l ≤ℤ pos 1
emptied_most Empty l = omega (arith, ints)
emptied_most (At x) Empty = at_most_self (pos 1)
emptied_most (At x) (At y) = omega (arith, ints)

emptied_rises : (a l m : Level) → IsNumber a → IsNumber l → m ≡ Empty → (emptied a l +ℤ pos 1) ≤ℤ emptied a m
emptied_rises Empty l m h n e = absurd h
emptied_rises (At x) Empty m h n e = absurd n
emptied_rises (At x) (At y) m h n e = subst (λ i. (pos 0 +ℤ pos 1) ≤ℤ emptied (At x) i) (sym e) (at_most_self (pos 1))

emptied_self : (a : Level) → emptied a a ≡ pos 0
emptied_self Empty = refl
emptied_self (At x) = refl

-- ---- sums
sum_below-rises : (f g : ℕ → ℤ) (n i : ℕ) → i < n → ((j : ℕ) → j < n → f j ≤ℤ g j) → (f i +ℤ pos 1) ≤ℤ g i → (sum_below f n +ℤ pos 1) ≤ℤ sum_below g n
sum_below-rises f g zero i within h rise = absurd (omega arith)
sum_below-rises f g (suc n) i within h rise = elim (cases_eq n i) [
  | inl same ↦ (let before : sum_below f n ≤ℤ sum_below g n = sum_below-at_most f g n (λ j below. h j (omega arith)) in
      let here : (f n +ℤ pos 1) ≤ℤ g n = subst (λ j. (f j +ℤ pos 1) ≤ℤ g j) (sym same) rise in
      omega (arith, ints))
  | inr other ↦ (let ne : n ≢ i = other in
      let before : (sum_below f n +ℤ pos 1) ≤ℤ sum_below g n = sum_below-rises f g n i (omega arith) (λ j below. h j (omega arith)) rise in
      let here : f n ≤ℤ g n = h n (omega arith) in
      omega (arith, ints))
]

sum_below-ones : (n : ℕ) → sum_below (λ i. pos 1) n ≡ pos n
sum_below-ones zero = refl
sum_below-ones (suc n) = let h : sum_below (λ i. pos 1) n ≡ pos n = sum_below-ones n in omega (arith, ints)

-- ---- the drop
first_row : (p : Problem) (s : ℕ) → IsProblem p → s < states p.game → IsRow p s 0
first_row p s ok state = record { state = state; direction = omega (arith, ok.directions.has_axes, ok.game.two_players) }

-- what a state adds to the drop
abbrev state_drop : Problem → Levels → Levels → ℕ → ℤ
state_drop p start t s = sum_below (λ k. row_drop start s k (t s k)) (direction_count p) +ℤ emptied (start s 0) (t s 0)

rows_grow : (p : Problem) (start t u : Levels) (s k : ℕ) → HasFloor p start t → IsBelow p u t → s < states p.game → k < direction_count p → row_drop start s k (t s k) ≤ℤ row_drop start s k (u s k)
rows_grow p start t u s k floor below state within =
    let row : IsRow p s k = record { state = state; direction = within } in
    row_drop_grows start s k (t s k) (u s k) (below s k row) (λ x e. floor s k x row e)

state_grows : (p : Problem) (start t u : Levels) (s : ℕ) → IsProblem p → HasFloor p start t → IsBelow p u t → s < states p.game → state_drop p start t s ≤ℤ state_drop p start u s
state_grows p start t u s ok floor below state =
    let rows : sum_below (λ k. row_drop start s k (t s k)) (direction_count p) ≤ℤ sum_below (λ k. row_drop start s k (u s k)) (direction_count p) =
    sum_below-at_most (λ k. row_drop start s k (t s k)) (λ k. row_drop start s k (u s k)) (direction_count p) (λ k within. rows_grow p start t u s k floor below state within) in
    let empty : emptied (start s 0) (t s 0) ≤ℤ emptied (start s 0) (u s 0) = emptied_grows (start s 0) (t s 0) (u s 0) (below s 0 (first_row p s ok state)) in
    omega (arith, ints)

pub drop_grows : (p : Problem) (start t u : Levels) → IsProblem p → HasFloor p start t → IsBelow p u t → drop_of p start t ≤ℤ drop_of p start u
drop_grows p start t u ok floor below =
    sum_below-at_most (state_drop p start t) (state_drop p start u) (states p.game) (λ s state. state_grows p start t u s ok floor below state)

pub drop_at_most : (p : Problem) (start t : Levels) → HasFloor p start t → drop_of p start t ≤ℤ most_drop p start
drop_at_most p start t floor =
    at_most_along refl (sum_below-plus (λ s. sum_below (λ k. height start s k) (direction_count p)) (λ s. pos 1) (states p.game) ∙ ap (λ z. sum_below (λ s. sum_below (λ k. height start s k) (direction_count p)) (states p.game) +ℤ z) (sum_below-ones (states p.game)))
    (sum_below-at_most (state_drop p start t) (λ s. sum_below (λ k. height start s k) (direction_count p) +ℤ pos 1) (states p.game) each)
  where
    each : (s : ℕ) → s < states p.game → state_drop p start t s ≤ℤ (sum_below (λ k. height start s k) (direction_count p) +ℤ pos 1)
    each s state =
        let rows : sum_below (λ k. row_drop start s k (t s k)) (direction_count p) ≤ℤ sum_below (λ k. height start s k) (direction_count p) =
        sum_below-at_most (λ k. row_drop start s k (t s k)) (λ k. height start s k) (direction_count p)
        (λ k within. row_drop_most start s k (t s k) (λ x e. floor s k x (record { state = state; direction = within }) e)) in
        let empty : emptied (start s 0) (t s 0) ≤ℤ pos 1 = emptied_most (start s 0) (t s 0) in
        omega (arith, ints)

pub no_drop_at_start : (p : Problem) (start : Levels) → IsProblem p → IsEven p start → drop_of p start start ≡ pos 0
no_drop_at_start p start ok even = sum_below-zero (state_drop p start start) (states p.game) each
  where
    in_row : (s k : ℕ) → k < direction_count p → (((j : ℕ) → j < direction_count p → start s j ≡ Empty) ⊎ ((j : ℕ) → j < direction_count p → IsNumber (start s j))) → (l : Level) → start s k ≡ l → row_drop start s k l ≡ pos 0
    in_row s k within (inl empty) Empty e =
        ap (λ l. number_of l +ℤ number_of (start s (opposite_of k))) e ∙ ap (λ l. pos 0 +ℤ number_of l) (empty (opposite_of k) (opposite_known p k ok within))
    in_row s k within (inr number) Empty e = absurd (subst IsNumber e (number k within))
    in_row s k within some (At x) e = let same : number_of (start s k) ≡ x = ap number_of e in omega (arith, ints)

    each : (s : ℕ) → s < states p.game → state_drop p start start s ≡ pos 0
    each s state =
        let rows : sum_below (λ k. row_drop start s k (start s k)) (direction_count p) ≡ pos 0 =
        sum_below-zero (λ k. row_drop start s k (start s k)) (direction_count p) (λ k within. in_row s k within (even s state) (start s k) refl) in
        let empty : emptied (start s 0) (start s 0) ≡ pos 0 = emptied_self (start s 0) in
        omega (arith, ints)

-- ---- a row without a value above its level less the slack
value_above_less : (p : Problem) (t : Levels) (s k : ℕ) (x z : ℤ) → IsProblem p → x ≤ℤ z → HasValueAbove p t s k z → HasValueAbove p t s k x
value_above_less p t s k x z ok h above = record {
  profile = above.profile;
  vector = above.vector;
  known = above.known;
  admissible = above.admissible;
  above = at_most_below_trans (x *ℤ value_unit p above.vector) (z *ℤ value_unit p above.vector) (value p s above.profile k above.vector)
      (at_most_along (times_swap (value_unit p above.vector) x) (times_swap (value_unit p above.vector) z)
      (times_at_most (value_unit p above.vector) x z (let positive : pos 0 <ℤ value_unit p above.vector = value_unit_positive p above.vector ok above.admissible.positive in omega (arith, ints)) h))
      above.above;
}

row_level_less : (p : Problem) (t : Levels) (s k : ℕ) (x m : ℤ) (slack : ℕ) → IsProblem p → 0 < slack → (HasValueAbove p t s k (x -ℤ pos slack) → ⊥) → IsRowLevel p t s k (At m) → m ≤ℤ (x -ℤ pos 1)
row_level_less p t s k x m slack ok some none level =
    by_lt_z (x -ℤ pos 1) m
    (λ h. let up : pos 1 ≤ℤ pos slack = omega (arith, ints) in absurd (none (value_above_less p t s k (x -ℤ pos slack) (m -ℤ pos 1) ok (omega (arith, ints)) level.1)))
    (λ h. h)

same_state_empty : (p : Problem) (u : Levels) (s k j : ℕ) → IsEven p u → IsRow p s k → j < direction_count p → u s k ≡ Empty → u s j ≡ Empty
same_state_empty p u s k j even row within e = elim (even s row.state) [
  | inl empty ↦ empty j within
  | inr number ↦ absurd (subst IsNumber e (number k row.direction))
]

same_state_number : (p : Problem) (t : Levels) (s k j : ℕ) (x : ℤ) → IsEven p t → IsRow p s k → j < direction_count p → t s k ≡ At x → IsNumber (t s j)
same_state_number p t s k j x even row within e = elim (even s row.state) [
  | inl empty ↦ absurd (subst IsNumber (sym e ∙ empty k row.direction) tt)
  | inr number ↦ number j within
]

-- the drop of a state that has become Empty, or of which one row has come down
state_rises : (p : Problem) (start t u : Levels) (s k : ℕ) (x : ℤ) → IsProblem p → IsEven p t → IsEven p u → HasFloor p start t → IsBelow p t start → IsBelow p u t → IsRow p s k
    → t s k ≡ At x → AtMost (u s k) (At (x -ℤ pos 1)) → (state_drop p start t s +ℤ pos 1) ≤ℤ state_drop p start u s
state_rises p start t u s k x ok even_t even_u floor under below row e lower = at (u s k) refl lower
  where
    first : IsRow p s 0
    first = first_row p s ok row.state

    at : (l : Level) → u s k ≡ l → AtMost l (At (x -ℤ pos 1)) → (state_drop p start t s +ℤ pos 1) ≤ℤ state_drop p start u s
    at Empty is h =
        let rows : sum_below (λ k. row_drop start s k (t s k)) (direction_count p) ≤ℤ sum_below (λ k. row_drop start s k (u s k)) (direction_count p) =
        sum_below-at_most (λ j. row_drop start s j (t s j)) (λ j. row_drop start s j (u s j)) (direction_count p) (λ j within. rows_grow p start t u s j floor below row.state within) in
        let old : IsNumber (t s 0) = same_state_number p t s k 0 x even_t row first.direction e in
        let empty : (emptied (start s 0) (t s 0) +ℤ pos 1) ≤ℤ emptied (start s 0) (u s 0) =
        emptied_rises (start s 0) (t s 0) (u s 0) (number_above (t s 0) (start s 0) (under s 0 first) old) old (same_state_empty p u s k 0 even_u row first.direction is) in
        omega (arith, ints)
    at (At y) is h =
        let here : (row_drop start s k (t s k) +ℤ pos 1) ≤ℤ row_drop start s k (u s k) =
        subst (λ l. (row_drop start s k l +ℤ pos 1) ≤ℤ row_drop start s k (u s k)) (sym e) (subst (λ l. (row_drop start s k (At x) +ℤ pos 1) ≤ℤ row_drop start s k l) (sym is) (omega (arith, ints))) in
        let rows : (sum_below (λ j. row_drop start s j (t s j)) (direction_count p) +ℤ pos 1) ≤ℤ sum_below (λ j. row_drop start s j (u s j)) (direction_count p) =
        sum_below-rises (λ j. row_drop start s j (t s j)) (λ j. row_drop start s j (u s j)) (direction_count p) k row.direction (λ j within. rows_grow p start t u s j floor below row.state within) here in
        let empty : emptied (start s 0) (t s 0) ≤ℤ emptied (start s 0) (u s 0) = emptied_grows (start s 0) (t s 0) (u s 0) (below s 0 first) in
        omega (arith, ints)

pub drop_rises : (p : Problem) (start t u : Levels) (s k : ℕ) (x : ℤ) (slack : ℕ) (l : Level) → IsProblem p → IsEven p t → IsEven p u → HasFloor p start t → IsBelow p t start → IsBelow p u t → IsRow p s k
    → t s k ≡ At x → 0 < slack → (HasValueAbove p t s k (x -ℤ pos slack) → ⊥) → IsRowLevel p t s k l → AtMost (u s k) l → (drop_of p start t +ℤ pos 1) ≤ℤ drop_of p start u
drop_rises p start t u s k x slack l ok even_t even_u floor under below row e some none level passed =
    sum_below-rises (state_drop p start t) (state_drop p start u) (states p.game) s row.state
    (λ r state. state_grows p start t u r ok floor below state)
    (state_rises p start t u s k x ok even_t even_u floor under below row e (level_at_most_trans (u s k) l (At (x -ℤ pos 1)) passed (down l level)))
  where
    down : (m : Level) → IsRowLevel p t s k m → AtMost m (At (x -ℤ pos 1))
    down Empty h = tt
    down (At m) h = row_level_less p t s k x m slack ok some none h

-- ---- from the opening
pub range_is_floor : (p : Problem) (t : Levels) → HasRange p t → HasFloor p (opening_table p) t
range_is_floor p t range s k x row e = (subst (IsBetween p k) e (range s k row)).0
