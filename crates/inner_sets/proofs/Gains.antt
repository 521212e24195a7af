-- Points that are added to a list, one by one, and the list in order without repetition.
use Rattle.std.proofs.Common.{◌≡◌, ℕ, ◌+◌, ◌*◌, ◌<◌, ◌≤◌, ◌⊎◌, inl, inr, ⊎_elim, true, List, [], ◌∷◌, ◌++◌, length, get_or, refl, sym, ap, subst, ◌∙◌, arith}
use Rattle.std.specs.Prelude.{ℤ, pos, ◌*ℤ◌, ◌<ℤ◌, All, AllPairs, Contains}
use Rattle.std.specs.Cmp.Lexicographic.{pointwise, slice_cmp, lists_equiv, lists_total, lists_ties}
use Rattle.std.specs.List.{dedup}
use Rattle.std.specs.List.Sorted.{IsPermutation, IsSorted, IsStrictlySortedBy}
use Rattle.std.specs.Ordering.{int_cmp, int_eq, ordering_then, MatchOrdering}
use Rattle.std.specs.declared.cmp.Ordering.{Ordering}
use Rattle.std.specs.declared.cmp.Ordering.TheVariants.{Less, Equal, Greater}
use Rattle.std.proofs.lemmas.Bool.{cases_lt}
use Rattle.std.proofs.lemmas.Bool.Decides.{Decides-int_eq}
use Rattle.std.proofs.lemmas.Cmp.{int_ranked, int_cmp_total, int_eq_equiv}
use Rattle.std.proofs.lemmas.List.{length-append}
use Rattle.std.proofs.lemmas.List.Elements.{All-head, All-tail, All-from_recursion, Contains-append_left, Contains-push, Contains-push_cases, Contains-get_or}
use Rattle.std.proofs.lemmas.List.Kept.{AllPairs-cons, Contains-dedup, Contains-from_dedup, IsStrictlySortedBy-dedup}
use Rattle.std.proofs.lemmas.List.Sorted.{Contains-permutation, IsPermutation-sym}
use Rattle.std.proofs.lemmas.Slice.Eq.{slice_eq-Decides}
use Rattle.game_model.specs.Game.{DynamicGame, counts, profile_count, payoff_at}
use Rattle.game_model.specs.SelfGeneration.{part}
use Rattle.inner_sets.specs.Candidates.{IsRange, IsLatticePart, IsLatticePoint, IsStagePoint, IsCandidate, Precedes, IsAscending}
use Rattle.inner_sets.specs.Gains.{Adds, IsStagePointBelow, IsColumnBelow, IsGridBelow, step_of}
use Rattle.inner_sets.proofs.Ranges.{range_alone}

two_parts : (v w : List ℤ) → length v ≡ 2 → length w ≡ 2 → part v 0 ≡ part w 0 → part v 1 ≡ part w 1 → v ≡ w
two_parts [] w h k e f = absurd (omega arith)
two_parts (a ∷ []) w h k e f = absurd (omega arith)
two_parts (a ∷ b ∷ []) [] h k e f = absurd (omega arith)
two_parts (a ∷ b ∷ []) (c ∷ []) h k e f = absurd (omega arith)
two_parts (a ∷ b ∷ []) (c ∷ d ∷ []) h k e f = ap (λ (x : ℤ). x ∷ b ∷ []) e ∙ ap (λ (y : ℤ). c ∷ y ∷ []) f
two_parts (a ∷ b ∷ []) (c ∷ d ∷ x ∷ w) h k e f = absurd (omega arith)
two_parts (a ∷ b ∷ c ∷ v) w h k e f = absurd (omega arith)

adds_none : (P : List ℤ → Type 0) (old : List (List ℤ)) → ((v : List ℤ) → P v → ⊥) → Adds 0 P old old
adds_none P old none = record {
  kept = λ v h. h;
  added = λ v two h. absurd (none v h);
  only = λ v h. inl h;
  few = omega arith;
}

adds_push : (m : ℕ) (P Q : List ℤ → Type 0) (old now : List (List ℤ)) (w : List ℤ) → length w ≡ 2 → Adds m P old now → Q w → ((v : List ℤ) → P v → Q v)
    → ((v : List ℤ) → Q v → P v ⊎ ((part v 0 ≡ part w 0) × (part v 1 ≡ part w 1))) → Adds (m + 1) Q old (now ++ w ∷ [])
adds_push m P Q old now w two adds here more split = record {
  kept = λ v h. Contains-append_left now (w ∷ []) v (adds.kept v h);
  added = λ v long h. ⊎_elim
      (λ (before : P v). Contains-append_left now (w ∷ []) v (adds.added v long before))
      (λ (same : (part v 0 ≡ part w 0) × (part v 1 ≡ part w 1)). subst (λ (u : List ℤ). Contains (now ++ w ∷ []) u) (sym (two_parts v w long two same.0 same.1)) (Contains-push now w))
      (split v h);
  only = λ v h. ⊎_elim
      (λ (before : Contains now v). ⊎_elim
      (λ (first : Contains old v). inl first)
      (λ (later : (length v ≡ 2) × P v). inr (later.0, more v later.1))
      (adds.only v before))
      (λ (same : w ≡ v). inr (subst (λ (u : List ℤ). (length u ≡ 2) × Q u) same (two, here)))
      (Contains-push_cases now w v h);
  few = omega (arith, adds.few, length-append now (w ∷ []));
}

adds_along : (m : ℕ) (P : List ℤ → Type 0) (old now new : List (List ℤ)) → new ≡ now → Adds m P old now → Adds m P old new
adds_along m P old now new e adds = subst (λ (xs : List (List ℤ)). Adds m P old xs) (sym e) adds

-- ---- stage payoffs
pub stage_none : (g : DynamicGame) (n s : ℕ) (old : List (List ℤ)) → Adds 0 (IsStagePointBelow g n s 0) old old
stage_none g n s old = adds_none (IsStagePointBelow g n s 0) old none
  where
    none : (v : List ℤ) → IsStagePointBelow g n s 0 v → ⊥
    none v (a, below, first, second) = omega arith

pub stage_more : (g : DynamicGame) (n s m : ℕ) (old now new : List (List ℤ)) (x y : ℤ) → Adds m (IsStagePointBelow g n s m) old now → new ≡ now ++ (x ∷ y ∷ []) ∷ []
    → x ≡ pos n *ℤ payoff_at g s m 0 → y ≡ pos n *ℤ payoff_at g s m 1 → Adds (m + 1) (IsStagePointBelow g n s (m + 1)) old new
stage_more g n s m old now new x y adds is e f =
    adds_along (m + 1) (IsStagePointBelow g n s (m + 1)) old (now ++ (x ∷ y ∷ []) ∷ []) new is
    (adds_push m (IsStagePointBelow g n s m) (IsStagePointBelow g n s (m + 1)) old now (x ∷ y ∷ []) refl adds
    (m, omega arith, e, f)
    more
    split)
  where
    more : (v : List ℤ) → IsStagePointBelow g n s m v → IsStagePointBelow g n s (m + 1) v
    more v (a, below, first, second) = (a, omega arith, first, second)

    split : (v : List ℤ) → IsStagePointBelow g n s (m + 1) v → IsStagePointBelow g n s m v ⊎ ((part v 0 ≡ x) × (part v 1 ≡ y))
    split v (a, below, first, second) =
        ⊎_elim
        (λ (lt : a < m). inl (a, lt, first, second))
        (λ (ge : m ≤ a).
        let same : a ≡ m = omega arith in
        inr (first ∙ (ap (λ (b : ℕ). pos n *ℤ payoff_at g s b 0) same ∙ sym e), second ∙ (ap (λ (b : ℕ). pos n *ℤ payoff_at g s b 1) same ∙ sym f)))
        (cases_lt a m)

-- ---- columns
pub column_none : (n : ℕ) (first low high : ℤ) (old : List (List ℤ)) → Adds 0 (IsColumnBelow n first low high 0) old old
column_none n first low high old = adds_none (IsColumnBelow n first low high 0) old (λ v h. none v h)
  where
    none : (v : List ℤ) → IsColumnBelow n first low high 0 v → ⊥
    none v (here, (j, below, is)) = omega arith

pub column_more : (n m : ℕ) (first low high x y : ℤ) (old now new : List (List ℤ)) → Adds m (IsColumnBelow n first low high m) old now → new ≡ now ++ (x ∷ y ∷ []) ∷ []
    → x ≡ first → y ≡ step_of n low high m → Adds (m + 1) (IsColumnBelow n first low high (m + 1)) old new
column_more n m first low high x y old now new adds is e f =
    adds_along (m + 1) (IsColumnBelow n first low high (m + 1)) old (now ++ (x ∷ y ∷ []) ∷ []) new is
    (adds_push m (IsColumnBelow n first low high m) (IsColumnBelow n first low high (m + 1)) old now (x ∷ y ∷ []) refl adds
    (e, (m, omega arith, f))
    more
    split)
  where
    more : (v : List ℤ) → IsColumnBelow n first low high m v → IsColumnBelow n first low high (m + 1) v
    more v (here, (j, below, is)) = (here, (j, omega arith, is))

    split : (v : List ℤ) → IsColumnBelow n first low high (m + 1) v → IsColumnBelow n first low high m v ⊎ ((part v 0 ≡ x) × (part v 1 ≡ y))
    split v (here, (j, below, is)) =
        ⊎_elim
        (λ (lt : j < m). inl (here, (j, lt, is)))
        (λ (ge : m ≤ j).
        let same : j ≡ m = omega arith in
        inr (here ∙ sym e, is ∙ (ap (λ (b : ℕ). step_of n low high b) same ∙ sym f)))
        (cases_lt j m)

pub column_all : (n m : ℕ) (first low high : ℤ) (old new : List (List ℤ)) → n ≤ 16 → m ≡ n + 1 → Adds m (IsColumnBelow n first low high m) old new → Adds 17 (IsColumnBelow n first low high (n + 1)) old new
column_all n m first low high old new few e adds =
    let whole : Adds (n + 1) (IsColumnBelow n first low high (n + 1)) old new = subst (λ (k : ℕ). Adds k (IsColumnBelow n first low high k) old new) e adds in
    record { kept = whole.kept; added = whole.added; only = whole.only; few = omega (arith, whole.few) }

-- ---- the lattice
pub grid_none : (n : ℕ) (low high low_second high_second : ℤ) (old : List (List ℤ)) → Adds 0 (IsGridBelow n low high low_second high_second 0) old old
grid_none n low high low_second high_second old = adds_none (IsGridBelow n low high low_second high_second 0) old (λ v h. none v h)
  where
    none : (v : List ℤ) → IsGridBelow n low high low_second high_second 0 v → ⊥
    none v ((j, below, is), second) = omega arith

pub grid_more : (n m : ℕ) (low high low_second high_second x : ℤ) (old now new : List (List ℤ)) → Adds (17 * m) (IsGridBelow n low high low_second high_second m) old now
    → Adds 17 (IsColumnBelow n x low_second high_second (n + 1)) now new → x ≡ step_of n low high m → Adds (17 * (m + 1)) (IsGridBelow n low high low_second high_second (m + 1)) old new
grid_more n m low high low_second high_second x old now new adds column e = record {
  kept = λ v h. column.kept v (adds.kept v h);
  added = added;
  only = only;
  few = omega (arith, adds.few, column.few);
}
  where
    added : (v : List ℤ) → length v ≡ 2 → IsGridBelow n low high low_second high_second (m + 1) v → Contains new v
    added v two ((j, below, is), second) =
        ⊎_elim
        (λ (lt : j < m). column.kept v (adds.added v two ((j, lt, is), second)))
        (λ (ge : m ≤ j).
        let same : j ≡ m = omega arith in
        column.added v two (is ∙ (ap (λ (b : ℕ). step_of n low high b) same ∙ sym e), second))
        (cases_lt j m)

    before : (v : List ℤ) → IsGridBelow n low high low_second high_second m v → IsGridBelow n low high low_second high_second (m + 1) v
    before v ((j, below, is), second) = ((j, omega arith, is), second)

    only : (v : List ℤ) → Contains new v → Contains old v ⊎ ((length v ≡ 2) × IsGridBelow n low high low_second high_second (m + 1) v)
    only v h =
        ⊎_elim
        (λ (there : Contains now v). ⊎_elim
        (λ (first : Contains old v). inl first)
        (λ (later : (length v ≡ 2) × IsGridBelow n low high low_second high_second m v). inr (later.0, before v later.1))
        (adds.only v there))
        (λ (new_one : (length v ≡ 2) × IsColumnBelow n x low_second high_second (n + 1) v). inr (new_one.0, ((m, omega arith, new_one.1.0 ∙ e), new_one.1.1)))
        (column.only v h)

pub lattice_from_grid : (g : DynamicGame) (n m : ℕ) (low high low_second high_second : ℤ) (old new : List (List ℤ)) → n ≤ 16 → m ≡ n + 1 → IsRange g 0 low high → IsRange g 1 low_second high_second
    → Adds (17 * m) (IsGridBelow n low high low_second high_second m) old new → Adds 289 (IsLatticePoint g n) old new
lattice_from_grid g n m low high low_second high_second old new few e first_range second_range adds = record {
  kept = adds.kept;
  added = λ v two h. adds.added v two (to_grid v h);
  only = λ v h. ⊎_elim
      (λ (first : Contains old v). inl first)
      (λ (later : (length v ≡ 2) × IsGridBelow n low high low_second high_second m v). inr (later.0, from_grid v later.1))
      (adds.only v h);
  few = omega (arith, adds.few);
}
  where
    one_part : (i : ℕ) (low high x : ℤ) → IsRange g i low high → IsLatticePart g n i x → (j : ℕ) × (j < n + 1) × (x ≡ step_of n low high j)
    one_part i low high x range (l, h, j, other, within, is) =
        let same : (l ≡ low) × (h ≡ high) = range_alone g i l h low high other range in
        (j, omega arith, is ∙ (ap (λ (z : ℤ). step_of n z h j) same.0 ∙ ap (λ (z : ℤ). step_of n low z j) same.1))

    to_grid : (v : List ℤ) → IsLatticePoint g n v → IsGridBelow n low high low_second high_second m v
    to_grid v (first, second) =
        let one = one_part 0 low high (part v 0) first_range first in
        ((one.0, omega (arith, one.1, e), one.2), one_part 1 low_second high_second (part v 1) second_range second)

    from_grid : (v : List ℤ) → IsGridBelow n low high low_second high_second m v → IsLatticePoint g n v
    from_grid v ((j, below, is), (k, within, here)) =
        ((low, high, j, first_range, omega arith, is), (low_second, high_second, k, second_range, omega arith, here))

-- ---- in order, each once
greater_apart : Greater ≡ Less → ⊥
greater_apart e = cc

equal_apart : Equal ≡ Less → ⊥
equal_apart e = cc

from_orders : (a b c d : ℤ) (o p : Ordering) → MatchOrdering o (a <ℤ c) (a ≡ c) (c <ℤ a) → MatchOrdering p (b <ℤ d) (b ≡ d) (d <ℤ b) → ordering_then o (ordering_then p Equal) ≡ Less → (a <ℤ c) ⊎ ((a ≡ c) × (b <ℤ d))
from_orders a b c d Less p h k e = inl h
from_orders a b c d Equal Less h k e = inr (h, k)
from_orders a b c d Equal Equal h k e = absurd (equal_apart e)
from_orders a b c d Equal Greater h k e = absurd (greater_apart e)
from_orders a b c d Greater p h k e = absurd (greater_apart e)

less_precedes : (v w : List ℤ) → length v ≡ 2 → length w ≡ 2 → slice_cmp int_cmp v w ≡ Less → Precedes v w
less_precedes [] w h k e = absurd (omega arith)
less_precedes (a ∷ []) w h k e = absurd (omega arith)
less_precedes (a ∷ b ∷ []) [] h k e = absurd (omega arith)
less_precedes (a ∷ b ∷ []) (c ∷ []) h k e = absurd (omega arith)
less_precedes (a ∷ b ∷ []) (c ∷ d ∷ []) h k e = from_orders a b c d (int_cmp a c) (int_cmp b d) (int_ranked a c (int_cmp a c) refl) (int_ranked b d (int_cmp b d) refl) e
less_precedes (a ∷ b ∷ []) (c ∷ d ∷ x ∷ w) h k e = absurd (omega arith)
less_precedes (a ∷ b ∷ c ∷ v) w h k e = absurd (omega arith)

strict_pairs : (xs : List (List ℤ)) → All (λ (v : List ℤ). length v ≡ 2) xs → IsStrictlySortedBy (slice_cmp int_cmp) xs → AllPairs Precedes xs
unfolding IsStrictlySortedBy
strict_pairs [] two h = λ i j d less below. absurd (omega arith)
strict_pairs (x ∷ xs) two h =
    AllPairs-cons Precedes x xs
    (λ k d below. less_precedes x (get_or xs k d) (All-head (λ (v : List ℤ). length v ≡ 2) x xs two) (All-tail (λ (v : List ℤ). length v ≡ 2) x xs two k d below) (All-from_recursion (λ (y : List ℤ). slice_cmp int_cmp x y ≡ Less) xs h.0 k d below))
    (strict_pairs xs (All-tail (λ (v : List ℤ). length v ≡ 2) x xs two) h.1)

same_point : (x y : List ℤ) → pointwise int_eq x y ≡ true → x ≡ y
same_point x y = (slice_eq-Decides Decides-int_eq x y (pointwise int_eq x y) refl).0

module _ (g : DynamicGame) (n s : ℕ) (first all sorted : List (List ℤ)) (stage : Adds (profile_count (counts g s)) (IsStagePoint g n s) [] first) (lattice : Adds 289 (IsLatticePoint g n) first all) (moved : IsPermutation all sorted) where
  from_all : (v : List ℤ) → Contains (dedup (pointwise int_eq) sorted) v → IsCandidate g n s v
  from_all v h =
      let there : Contains all v = Contains-permutation sorted all v (IsPermutation-sym all sorted moved) (Contains-from_dedup (pointwise int_eq) sorted v h) in
      ⊎_elim
      (λ (before : Contains first v). ⊎_elim
      (λ (none : Contains [] v). absurd (nothing v none))
      (λ (is : (length v ≡ 2) × IsStagePoint g n s v). (is.0, inl is.1))
      (stage.only v before))
      (λ (is : (length v ≡ 2) × IsLatticePoint g n v). (is.0, inr is.1))
      (lattice.only v there)
    where
      nothing : (v : List ℤ) → Contains [] v → ⊥
      nothing v (k, below, is) = omega arith

  to_all : (v : List ℤ) → IsCandidate g n s v → Contains (dedup (pointwise int_eq) sorted) v
  to_all v (two, kind) =
      let there : Contains all v =
      ⊎_elim
      (λ (is : IsStagePoint g n s v). lattice.kept v (stage.added v two is))
      (λ (is : IsLatticePoint g n v). lattice.added v two is)
      kind in
      Contains-dedup (lists_equiv int_eq_equiv) same_point sorted v (Contains-permutation all sorted v moved there)

  pub exactly : (v : List ℤ) → (Contains (dedup (pointwise int_eq) sorted) v → IsCandidate g n s v) × (IsCandidate g n s v → Contains (dedup (pointwise int_eq) sorted) v)
  exactly v = (from_all v, to_all v)

  pub ascending : IsSorted (slice_cmp int_cmp) sorted → IsAscending (dedup (pointwise int_eq) sorted)
  ascending h = strict_pairs (dedup (pointwise int_eq) sorted)
      (λ k d below. (from_all (get_or (dedup (pointwise int_eq) sorted) k d) (Contains-get_or (dedup (pointwise int_eq) sorted) k d below)).0)
      (IsStrictlySortedBy-dedup (lists_total int_cmp_total) (lists_ties int_cmp (λ x y. refl)) sorted h)

  pub few : length all ≤ profile_count (counts g s) + 289
  few = omega (arith, stage.few, lattice.few)
