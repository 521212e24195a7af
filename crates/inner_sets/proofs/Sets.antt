-- The entries of settled rows are the inner set, and pass the check.
use Rattle.std.proofs.Common.{◌≡◌, ℕ, zero, suc, ◌+◌, ◌-◌, ◌*◌, ◌/◌, ◌<◌, ◌≤◌, ◌^◌, List, [], ◌∷◌, length, map, get_or, refl, sym, ap, subst, ◌∙◌, arith}
use Rattle.std.specs.Prelude.{ℤ, pos, ◌+ℤ◌, ◌-ℤ◌, ◌*ℤ◌, ◌≤ℤ◌, ◌<ℤ◌, unsigned_abs, slice_index, All}
use Rattle.std.specs.Int.{◌∣◌}
use Rattle.std.proofs.lemmas.Int.{ints}
use Rattle.std.proofs.lemmas.Nat.{div-mul-add}
use Rattle.std.proofs.Math.Nat.{mul-le-mul}
use Rattle.std.proofs.lemmas.List.{length-map, get_or-map, ext_get_or}
use Rattle.std.proofs.lemmas.List.Elements.{All-map, All-head, All-tail}
use Rattle.exact_algebra.specs.Poly.{var, lit, ◌⊕◌, ◌⊖◌, ◌⊗◌}
use Rattle.exact_algebra.proofs.Normal.{ring}
use Rattle.exact_algebra.proofs.Order.{abs_product}
use Rattle.game_model.specs.Game.{DynamicGame, IsGame, states, counts, profile_count, profile_number, IsProfile, payoff_at, successor, IsDeviation, deviation_at, reached}
use Rattle.game_model.specs.SelfGeneration.{Entry, no_entry, part, total_weight, weighted_part, deviation_place, punishment, profile_of, IsGenerated, IsSelfGenerating}
use Rattle.game_model.proofs.Profiles.{EachPositive, profile_number-strategies_of, IsProfile-strategies_of}
use Rattle.hull_weights.specs.Hull.{point_at, x_of, y_of, weighted, IsAverage, IsTriangle}
use Rattle.hull_weights.specs.Hull as hull
use Rattle.selfgen_check.specs.Limits.{IsSmallEntry, KeepsLimits}
use Rattle.inner_sets.specs.declared.item.Item.{Item}
use Rattle.inner_sets.specs.Built.{outcome, outcomes_of, punishing, IsBuilt, AllBuilt, IsReady}
use Rattle.inner_sets.specs.Candidates.{IsAscending, IsCandidate, Precedes}
use Rattle.inner_sets.specs.Choice.{sublist, discount, discounted, remainder, Deters, IsChoice, IsGiven, IsLargestChoice, IsFirstProfile, IsFirstLeast, Meets}
use Rattle.inner_sets.specs.Inner.{IsShortLottery, IsEntry, points_of}
use Rattle.inner_sets.specs.Rows.{points_in, choice_of, no_item, item_at, row_at, AreSettled}
use Rattle.inner_sets.specs.Summaries.{PointSummary, summary_at, IsSummary, AreSummaries, DetersAt}
use Rattle.inner_sets.proofs.Choices.{next_known, reached_known, passes_from}
use Rattle.inner_sets.proofs.Lists.{AllPairs-map, All-at}
use Rattle.inner_sets.proofs.Rounds.{sublist_row, point_in}
use Rattle.inner_sets.proofs.SmallParts.{candidate_small, payoff_small}

-- ---- lotteries
length_outcomes : (items : List (ℕ × ℤ)) → length (outcomes_of items) ≡ length items
length_outcomes [] = refl
length_outcomes (item ∷ items) = ap suc (length_outcomes items)

All-from_map : {X Y : Type 0} (f : X → Y) (P : Y → Type 0) (xs : List X) → All P (map f xs) → All (λ x. P (f x)) xs
All-from_map f P xs h k d below = subst P (get_or-map f xs k d (f d) below) (h k (f d) (omega (arith, length-map xs f)))

positive_abs : (z : ℤ) → pos 0 <ℤ z → 0 < unsigned_abs z
positive_abs z h = omega (arith, ints)

short_lottery : (points : List (List ℤ)) (target : List ℤ) (items : List (ℕ × ℤ)) → IsTriangle points target items → IsShortLottery (outcomes_of items)
short_lottery points target items is =
    record {
      at_most_three = omega (arith, length_outcomes items, is.at_most_three);
      ascending = AllPairs-map outcome (λ (x y : ℕ × ℕ). x.0 < y.0) items is.ascending;
      weights_positive = All-map (λ (o : ℕ × ℕ). 0 < o.1) outcome items (λ k d below. positive_abs (get_or items k d).1 (is.weights_positive k d below));
      no_common_divisor = λ divisor all. is.no_common_divisor divisor (All-from_map outcome (λ (o : ℕ × ℕ). divisor ∣ o.1) items all);
    }

whole_abs : (z : ℤ) → pos 0 ≤ℤ z → z ≡ pos (unsigned_abs z)
whole_abs z h = omega (arith, ints)

one_total : (w rest : ℤ) (m : ℕ) → pos 0 ≤ℤ w → rest ≡ pos m → w *ℤ pos 1 +ℤ rest ≡ pos (unsigned_abs w + m)
one_total w rest m h e = ring (w ∷ rest ∷ []) (var 0 ⊗ lit (pos 1) ⊕ var 1) (var 0 ⊕ var 1) refl ∙ sums w rest m h e
  where
    sums : (w rest : ℤ) (m : ℕ) → pos 0 ≤ℤ w → rest ≡ pos m → w +ℤ rest ≡ pos (unsigned_abs w + m)
    sums w rest m h e = omega (arith, ints, e)

total_is : (items : List (ℕ × ℤ)) → All (λ (item : ℕ × ℤ). pos 0 ≤ℤ item.1) items → hull.total_weight items ≡ pos (total_weight (outcomes_of items))
total_is [] least = refl
total_is (item ∷ items) least =
    one_total item.1 (hull.total_weight items) (total_weight (outcomes_of items)) (All-head (λ (item : ℕ × ℤ). pos 0 ≤ℤ item.1) item items least)
    (total_is items (All-tail (λ (item : ℕ × ℤ). pos 0 ≤ℤ item.1) item items least))

one_share : (w p m r z : ℤ) (u : ℕ) → w ≡ pos u → z ≡ p *ℤ r → w *ℤ (p *ℤ m) +ℤ z ≡ p *ℤ ((pos u *ℤ m) +ℤ r)
one_share w p m r z u e f =
    ap (λ (t : ℤ). w *ℤ (p *ℤ m) +ℤ t) f
    ∙ (ring (w ∷ p ∷ m ∷ r ∷ []) (var 0 ⊗ (var 1 ⊗ var 2) ⊕ var 1 ⊗ var 3) (var 1 ⊗ (var 0 ⊗ var 2 ⊕ var 3)) refl
    ∙ ap (λ (t : ℤ). p *ℤ ((t *ℤ m) +ℤ r)) e)

nought : (p : ℤ) → pos 0 ≡ p *ℤ pos 0
nought p = ring (p ∷ []) (lit (pos 0)) (var 0 ⊗ lit (pos 0)) refl

module _ (g : DynamicGame) (es : List Entry) where
  discounted_at : (k : ℕ) → k < length es → point_at (map (discounted g) (map (λ (e : Entry). e.point) es)) k ≡ discounted g (get_or es k no_entry).point
  discounted_at k below =
      get_or-map (discounted g) (map (λ (e : Entry). e.point) es) k [] [] (omega (arith, length-map es (λ (e : Entry). e.point)))
      ∙ ap (discounted g) (get_or-map (λ (e : Entry). e.point) es k no_entry [] below)

  sum_x : (items : List (ℕ × ℤ)) → All (λ (item : ℕ × ℤ). item.0 < length es) items → All (λ (item : ℕ × ℤ). pos 0 ≤ℤ item.1) items
      → weighted (λ k. x_of (point_at (map (discounted g) (map (λ (e : Entry). e.point) es)) k)) items ≡ pos (discount g 0) *ℤ weighted_part es 0 (outcomes_of items)
  sum_x [] within least = nought (pos (discount g 0))
  sum_x (item ∷ items) within least =
      ap (λ (p : List ℤ). item.1 *ℤ x_of p +ℤ weighted (λ k. x_of (point_at (map (discounted g) (map (λ (e : Entry). e.point) es)) k)) items)
      (discounted_at item.0 (All-head (λ (item : ℕ × ℤ). item.0 < length es) item items within))
      ∙ one_share item.1 (pos (discount g 0)) (part (get_or es item.0 no_entry).point 0) (weighted_part es 0 (outcomes_of items)) (weighted (λ k. x_of (point_at (map (discounted g) (map (λ (e : Entry). e.point) es)) k)) items) (unsigned_abs item.1)
      (whole_abs item.1 (All-head (λ (item : ℕ × ℤ). pos 0 ≤ℤ item.1) item items least))
      (sum_x items (All-tail (λ (item : ℕ × ℤ). item.0 < length es) item items within) (All-tail (λ (item : ℕ × ℤ). pos 0 ≤ℤ item.1) item items least))

  sum_y : (items : List (ℕ × ℤ)) → All (λ (item : ℕ × ℤ). item.0 < length es) items → All (λ (item : ℕ × ℤ). pos 0 ≤ℤ item.1) items
      → weighted (λ k. y_of (point_at (map (discounted g) (map (λ (e : Entry). e.point) es)) k)) items ≡ pos (discount g 1) *ℤ weighted_part es 1 (outcomes_of items)
  sum_y [] within least = nought (pos (discount g 1))
  sum_y (item ∷ items) within least =
      ap (λ (p : List ℤ). item.1 *ℤ y_of p +ℤ weighted (λ k. y_of (point_at (map (discounted g) (map (λ (e : Entry). e.point) es)) k)) items)
      (discounted_at item.0 (All-head (λ (item : ℕ × ℤ). item.0 < length es) item items within))
      ∙ one_share item.1 (pos (discount g 1)) (part (get_or es item.0 no_entry).point 1) (weighted_part es 1 (outcomes_of items)) (weighted (λ k. y_of (point_at (map (discounted g) (map (λ (e : Entry). e.point) es)) k)) items) (unsigned_abs item.1)
      (whole_abs item.1 (All-head (λ (item : ℕ × ℤ). pos 0 ≤ℤ item.1) item items least))
      (sum_y items (All-tail (λ (item : ℕ × ℤ). item.0 < length es) item items within) (All-tail (λ (item : ℕ × ℤ). pos 0 ≤ℤ item.1) item items least))

-- the value of an entry, from its average: d is q - p
value_from : (q p d n w : ℕ) (m u sum total avg : ℤ) → avg ≡ pos p *ℤ sum → total ≡ pos w → avg ≡ total *ℤ (pos q *ℤ m -ℤ pos (d * n) *ℤ u)
    → pos (q * w) *ℤ m ≡ (pos (d * w * n) *ℤ u) +ℤ (pos p *ℤ sum)
value_from q p d n w m u sum total avg is whole average =
    ring (pos q ∷ pos w ∷ pos d ∷ pos n ∷ m ∷ u ∷ []) (var 0 ⊗ var 1 ⊗ var 4) ((var 2 ⊗ var 1 ⊗ var 3) ⊗ var 5 ⊕ var 1 ⊗ (var 0 ⊗ var 4 ⊖ (var 2 ⊗ var 3) ⊗ var 5)) refl
    ∙ ap (λ (z : ℤ). (pos (d * w * n) *ℤ u) +ℤ z) (ap (λ (t : ℤ). t *ℤ (pos q *ℤ m -ℤ pos (d * n) *ℤ u)) (sym whole) ∙ (sym average ∙ is))

module _ (g : DynamicGame) (n : ℕ) (ok : IsGame g) (two : g.players ≡ 2) (some_n : 1 ≤ n) (few_n : n ≤ 16) (rows : List (List Item)) (settled : AreSettled g n rows) (ys : List PointSummary) (are : AreSummaries g (choice_of rows) ys) (entries : List (List Entry)) (built : AllBuilt g n ys rows entries) where
  -- ---- points
  same_row : (s : ℕ) → s < states g → map (λ (e : Entry). e.point) (get_or entries s []) ≡ points_in (row_at rows s)
  same_row s state =
      let b = built.each s state in
      ext_get_or [] (map (λ (e : Entry). e.point) (get_or entries s [])) (points_in (row_at rows s))
      (length-map (get_or entries s []) (λ (e : Entry). e.point) ∙ (b.same_length ∙ sym (length-map (row_at rows s) (λ (x : Item). x.point))))
      (λ k below.
      let inside : k < length (get_or entries s []) = omega (arith, length-map (get_or entries s []) (λ (e : Entry). e.point)) in
      let other : k < length (row_at rows s) = omega (arith, b.same_length) in
      get_or-map (λ (e : Entry). e.point) (get_or entries s []) k no_entry [] inside ∙ ((b.each k other).point ∙ sym (point_in (row_at rows s) k [] other)))

  points_same : points_of entries ≡ choice_of rows
  points_same = ext_get_or [] (points_of entries) (choice_of rows)
      (length-map entries (map (λ (e : Entry). e.point)) ∙ (built.one_each ∙ sym (length-map rows points_in ∙ settled.open_rows.one_each)))
      (λ s below.
      let inside : s < length entries = omega (arith, length-map entries (map (λ (e : Entry). e.point))) in
      get_or-map (map (λ (e : Entry). e.point)) entries s [] [] inside ∙ (same_row s (omega (arith, built.one_each)) ∙ sym (sublist_row rows s)))

  same_sublist : (s : ℕ) → s < states g → sublist (choice_of rows) s ≡ map (λ (e : Entry). e.point) (get_or entries s [])
  same_sublist s state = sublist_row rows s ∙ sym (same_row s state)

  long_sublist : (s : ℕ) → s < states g → length (sublist (choice_of rows) s) ≡ length (get_or entries s [])
  long_sublist s state = ap length (same_sublist s state) ∙ length-map (get_or entries s []) (λ (e : Entry). e.point)

  entry_point : (s k : ℕ) → s < states g → k < length (get_or entries s []) → point_at (sublist (choice_of rows) s) k ≡ (get_or (get_or entries s []) k no_entry).point
  entry_point s k state below = ap (λ (xs : List (List ℤ)). point_at xs k) (same_sublist s state) ∙ get_or-map (λ (e : Entry). e.point) (get_or entries s []) k no_entry [] below

  -- ---- the choice
  is_choice : IsChoice g n (choice_of rows)
  is_choice = record {
    one_list_each = length-map rows points_in ∙ settled.open_rows.one_each;
    ascending = λ s state. subst IsAscending (sym (sublist_row rows s)) (AllPairs-map (λ (x : Item). x.point) Precedes (row_at rows s) (settled.open_rows.each s state).ascending);
    candidates = λ s state. subst (λ (xs : List (List ℤ)). All (IsCandidate g n s) xs) (sym (sublist_row rows s)) (All-map (IsCandidate g n s) (λ (x : Item). x.point) (row_at rows s) (settled.open_rows.each s state).candidates);
    given = λ s state. subst (λ (xs : List (List ℤ)). All (IsGiven g n (choice_of rows) s) xs) (sym (sublist_row rows s))
        (All-map (IsGiven g n (choice_of rows) s) (λ (x : Item). x.point) (row_at rows s) (λ k d below. let h = settled.given s state k d below in ((get_or (row_at rows s) k d).profile, h.0, h.1)));
  }

  largest : IsLargestChoice g n (points_of entries)
  largest = subst (λ (choice : List (List (List ℤ))). IsLargestChoice g n choice) (sym points_same) (record { is_choice = is_choice; largest = settled.open_rows.enough })

  -- ---- one entry: a is its profile
  module _ (s k : ℕ) (state : s < states g) (below : k < length (row_at rows s)) where
    known : (item_at (row_at rows s) k).profile < profile_count (counts g s)
    known = (settled.given s state k no_item below).0

    meets : Meets g n (choice_of rows) s (item_at (row_at rows s) k).profile (item_at (row_at rows s) k).point
    meets = (settled.given s state k no_item below).1

    is_built : IsBuilt g n ys s (item_at (row_at rows s) k).profile (item_at (row_at rows s) k).point (get_or (get_or entries s []) k no_entry)
    is_built = (built.each s state).each k below

    positive : EachPositive (counts g s)
    positive j h = (ok.each_state s state).some_strategy j (omega (arith, (ok.each_state s state).one_each))

    number : profile_of g s (get_or (get_or entries s []) k no_entry) ≡ (item_at (row_at rows s) k).profile
    number = ap (λ (xs : List ℕ). profile_number (counts g s) xs) is_built.profile ∙ profile_number-strategies_of (counts g s) (item_at (row_at rows s) k).profile positive known

    is_profile : IsProfile (counts g s) (get_or (get_or entries s []) k no_entry).profile
    is_profile = subst (λ (xs : List ℕ). IsProfile (counts g s) xs) (sym is_built.profile) (IsProfile-strategies_of (counts g s) (item_at (row_at rows s) k).profile positive)

    is_first : IsFirstProfile g n (choice_of rows) s (item_at (row_at rows s) k).point (item_at (row_at rows s) k).profile
    is_first = record { known = known; meets = meets; none_before = settled.open_rows.failed s state k no_item below }

    punishment_is : (i b : ℕ) → IsDeviation g s (item_at (row_at rows s) k).profile i b → punishment g s (get_or (get_or entries s []) k no_entry) i b ≡ punishing g ys s (item_at (row_at rows s) k).profile i b
    punishment_is i b dev =
        ap (λ (xs : List ℕ). slice_index (get_or (get_or entries s []) k no_entry).punish (deviation_place (counts g s) xs i b)) is_built.profile ∙ is_built.punish.each i b dev

    summary_of : (i b : ℕ) → IsDeviation g s (item_at (row_at rows s) k).profile i b → IsSummary g (sublist (choice_of rows) (reached g s (item_at (row_at rows s) k).profile i b)) (summary_at ys (reached g s (item_at (row_at rows s) k).profile i b))
    summary_of i b dev = are.each (reached g s (item_at (row_at rows s) k).profile i b) (reached_known g s (item_at (row_at rows s) k).profile i b ok state known dev)

    some_point : (i b : ℕ) → IsDeviation g s (item_at (row_at rows s) k).profile i b → 0 < length (sublist (choice_of rows) (reached g s (item_at (row_at rows s) k).profile i b))
    some_point i b dev = let there = meets.deterred i b dev in omega (arith, there.1)

    least_at : (i b : ℕ) → IsDeviation g s (item_at (row_at rows s) k).profile i b → IsFirstLeast i (sublist (choice_of rows) (reached g s (item_at (row_at rows s) k).profile i b)) (punishment g s (get_or (get_or entries s []) k no_entry) i b)
    least_at i b dev =
        subst (λ (h : ℕ). IsFirstLeast i (sublist (choice_of rows) (reached g s (item_at (row_at rows s) k).profile i b)) h) (sym (punishment_is i b dev))
        ((summary_of i b dev).first i (omega (arith, dev.player, two)) (some_point i b dev))

    deters : (i b : ℕ) → IsDeviation g s (item_at (row_at rows s) k).profile i b
        → Deters g n s (deviation_at g s (item_at (row_at rows s) k).profile i b) i (item_at (row_at rows s) k).point
        (part (get_or (get_or entries (reached g s (item_at (row_at rows s) k).profile i b) []) (punishment g s (get_or (get_or entries s []) k no_entry) i b) no_entry).point i)
    deters i b dev =
        let a : ℕ = (item_at (row_at rows s) k).profile in
        let v : List ℤ = (item_at (row_at rows s) k).point in
        let t : ℕ = reached g s a i b in
        let h : ℕ = punishment g s (get_or (get_or entries s []) k no_entry) i b in
        let t_known : t < states g = reached_known g s a i b ok state known dev in
        let passes : DetersAt g n ys s a v i b = (passes_from g n (choice_of rows) ys ok two are s a state known v meets).deterred i b dev in
        let y = summary_at ys t in
        let value : part y.least i ≡ part (point_at (sublist (choice_of rows) t) (slice_index y.first i)) i = (summary_of i b dev).least i (omega (arith, dev.player, two)) (some_point i b dev) in
        let place : slice_index y.first i ≡ h = sym (punishment_is i b dev) in
        let inside : h < length (get_or entries t []) = omega (arith, (least_at i b dev).known, long_sublist t t_known) in
        let same : part y.least i ≡ part (get_or (get_or entries t []) h no_entry).point i =
        value ∙ (ap (λ (j : ℕ). part (point_at (sublist (choice_of rows) t) j) i) place ∙ ap (λ (w : List ℤ). part w i) (entry_point t h t_known inside)) in
        subst (λ (z : ℤ). Deters g n s (deviation_at g s a i b) i v z) same passes.1

    -- ---- the lottery
    next_is : successor g s (item_at (row_at rows s) k).profile < states g
    next_is = next_known g s (item_at (row_at rows s) k).profile ok state known

    next_points : (summary_at ys (successor g s (item_at (row_at rows s) k).profile)).points ≡ map (discounted g) (map (λ (e : Entry). e.point) (get_or entries (successor g s (item_at (row_at rows s) k).profile) []))
    next_points = (are.each (successor g s (item_at (row_at rows s) k).profile) next_is).same ∙ ap (map (discounted g)) (same_sublist (successor g s (item_at (row_at rows s) k).profile) next_is)

    triangle : IsTriangle (map (discounted g) (map (λ (e : Entry). e.point) (get_or entries (successor g s (item_at (row_at rows s) k).profile) []))) (remainder g n s (item_at (row_at rows s) k).profile (item_at (row_at rows s) k).point) is_built.lottery.items
    triangle = subst (λ (xs : List (List ℤ)). IsTriangle xs (remainder g n s (item_at (row_at rows s) k).profile (item_at (row_at rows s) k).point) is_built.lottery.items) next_points is_built.lottery.triangle

    items_within : All (λ (item : ℕ × ℤ). item.0 < length (get_or entries (successor g s (item_at (row_at rows s) k).profile) [])) is_built.lottery.items
    items_within j d h =
        let e : List Entry = get_or entries (successor g s (item_at (row_at rows s) k).profile) [] in
        let one : (get_or is_built.lottery.items j d).0 < length (map (discounted g) (map (λ (e : Entry). e.point) e)) = triangle.average.indices_within j d h in
        omega (arith, one, length-map (map (λ (e : Entry). e.point) e) (discounted g), length-map e (λ (e : Entry). e.point))

    value_at : (i : ℕ) → i < 2 → pos (g.q * total_weight (outcomes_of is_built.lottery.items)) *ℤ part (item_at (row_at rows s) k).point i
        ≡ (pos ((g.q - slice_index g.discounts i) * total_weight (outcomes_of is_built.lottery.items) * n) *ℤ payoff_at g s (item_at (row_at rows s) k).profile i)
        +ℤ (pos (slice_index g.discounts i) *ℤ weighted_part (get_or entries (successor g s (item_at (row_at rows s) k).profile) []) i (outcomes_of is_built.lottery.items))
    value_at zero h = value_from g.q (discount g 0) (g.q - discount g 0) n (total_weight (outcomes_of is_built.lottery.items)) (part (item_at (row_at rows s) k).point 0) (payoff_at g s (item_at (row_at rows s) k).profile 0)
        (weighted_part (get_or entries (successor g s (item_at (row_at rows s) k).profile) []) 0 (outcomes_of is_built.lottery.items)) (hull.total_weight is_built.lottery.items) _
        (sum_x g (get_or entries (successor g s (item_at (row_at rows s) k).profile) []) is_built.lottery.items items_within triangle.average.not_negative)
        (total_is is_built.lottery.items triangle.average.not_negative) triangle.average.average_x
    value_at (suc zero) h = value_from g.q (discount g 1) (g.q - discount g 1) n (total_weight (outcomes_of is_built.lottery.items)) (part (item_at (row_at rows s) k).point 1) (payoff_at g s (item_at (row_at rows s) k).profile 1)
        (weighted_part (get_or entries (successor g s (item_at (row_at rows s) k).profile) []) 1 (outcomes_of is_built.lottery.items)) (hull.total_weight is_built.lottery.items) _
        (sum_y g (get_or entries (successor g s (item_at (row_at rows s) k).profile) []) is_built.lottery.items items_within triangle.average.not_negative)
        (total_is is_built.lottery.items triangle.average.not_negative) triangle.average.average_y
    value_at (suc (suc i)) h = absurd (omega arith)

    lottery_is : (get_or (get_or entries s []) k no_entry).lottery ≡ outcomes_of is_built.lottery.items
    lottery_is = is_built.lottery.same

    candidate : IsCandidate g n s (item_at (row_at rows s) k).point
    candidate = (settled.open_rows.each s state).candidates k no_item below

    parts : length (get_or (get_or entries s []) k no_entry).point ≡ g.players
    parts = ap length is_built.point ∙ (candidate.0 ∙ sym two)

    is_entry : IsEntry g n (choice_of rows) s (get_or (get_or entries s []) k no_entry)
    is_entry =
        let e : Entry = get_or (get_or entries s []) k no_entry in
        record {
          profile = is_profile;
          first = subst (λ (v : List ℤ). IsFirstProfile g n (choice_of rows) s v (profile_of g s e)) (sym is_built.point) (subst (λ (a : ℕ). IsFirstProfile g n (choice_of rows) s (item_at (row_at rows s) k).point a) (sym number) is_first);
          punished = is_built.punish.count;
          punishments = subst (λ (a : ℕ). (i b : ℕ) → IsDeviation g s a i b → IsFirstLeast i (sublist (choice_of rows) (reached g s a i b)) (punishment g s e i b)) (sym number) least_at;
          lottery = subst IsShortLottery (sym lottery_is) (short_lottery (map (discounted g) (map (λ (e : Entry). e.point) (get_or entries (successor g s (item_at (row_at rows s) k).profile) []))) (remainder g n s (item_at (row_at rows s) k).profile (item_at (row_at rows s) k).point) is_built.lottery.items triangle);
        }

    outcome_at : (j : ℕ) → j < length (outcomes_of is_built.lottery.items) → (get_or (outcomes_of is_built.lottery.items) j (0, 0)) ≡ ((get_or is_built.lottery.items j (0, pos 0)).0, unsigned_abs (get_or is_built.lottery.items j (0, pos 0)).1)
    outcome_at j h = get_or-map outcome is_built.lottery.items j (0, pos 0) (0, 0) (omega (arith, length_outcomes is_built.lottery.items))

    outcomes_within : (j : ℕ) → j < length (outcomes_of is_built.lottery.items) → (get_or (outcomes_of is_built.lottery.items) j (0, 0)).0 < length (get_or entries (successor g s (item_at (row_at rows s) k).profile) [])
    outcomes_within j h =
        subst (λ (o : ℕ × ℕ). o.0 < length (get_or entries (successor g s (item_at (row_at rows s) k).profile) [])) (sym (outcome_at j h))
        (items_within j (0, pos 0) (omega (arith, length_outcomes is_built.lottery.items)))

    some_weight : 0 < total_weight (outcomes_of is_built.lottery.items)
    some_weight = above (hull.total_weight is_built.lottery.items) (total_weight (outcomes_of is_built.lottery.items)) triangle.average.total_positive (total_is is_built.lottery.items triangle.average.not_negative)
      where
        above : (z : ℤ) (m : ℕ) → pos 0 <ℤ z → z ≡ pos m → 0 < m
        above z m h e = omega (arith, ints, e)

    is_generated : IsGenerated g (record { scale = n; entries = entries }) s (get_or (get_or entries s []) k no_entry)
    is_generated =
        let e : Entry = get_or (get_or entries s []) k no_entry in
        let x : Item = item_at (row_at rows s) k in
        let o : List (ℕ × ℕ) = outcomes_of is_built.lottery.items in
        record {
          profile = is_profile;
          parts = parts;
          lottery = subst (λ (a : ℕ). (j : ℕ) → j < length e.lottery → (get_or e.lottery j (0, 0)).0 < length (get_or entries (successor g s a) [])) (sym number)
              (subst (λ (l : List (ℕ × ℕ)). (j : ℕ) → j < length l → (get_or l j (0, 0)).0 < length (get_or entries (successor g s x.profile) [])) (sym lottery_is) outcomes_within);
          weights = subst (λ (l : List (ℕ × ℕ)). 0 < total_weight l) (sym lottery_is) some_weight;
          punished = is_built.punish.count;
          punishments = subst (λ (a : ℕ). (i b : ℕ) → IsDeviation g s a i b → punishment g s e i b < length (get_or entries (reached g s a i b) [])) (sym number)
              (λ i b dev. omega (arith, (least_at i b dev).known, long_sublist (reached g s x.profile i b) (reached_known g s x.profile i b ok state known dev)));
          value = λ i h. subst (λ (a : ℕ). pos (g.q * total_weight e.lottery) *ℤ part e.point i
              ≡ (pos ((g.q - slice_index g.discounts i) * total_weight e.lottery * n) *ℤ payoff_at g s a i) +ℤ (pos (slice_index g.discounts i) *ℤ weighted_part (get_or entries (successor g s a) []) i e.lottery)) (sym number)
              (subst (λ (l : List (ℕ × ℕ)). pos (g.q * total_weight l) *ℤ part e.point i
              ≡ (pos ((g.q - slice_index g.discounts i) * total_weight l * n) *ℤ payoff_at g s x.profile i) +ℤ (pos (slice_index g.discounts i) *ℤ weighted_part (get_or entries (successor g s x.profile) []) i l)) (sym lottery_is)
              (subst (λ (v : List ℤ). pos (g.q * total_weight o) *ℤ part v i
              ≡ (pos ((g.q - slice_index g.discounts i) * total_weight o * n) *ℤ payoff_at g s x.profile i) +ℤ (pos (slice_index g.discounts i) *ℤ weighted_part (get_or entries (successor g s x.profile) []) i o)) (sym is_built.point)
              (value_at i (omega (arith, h, two)))));
          incentive = subst (λ (a : ℕ). (i b : ℕ) → IsDeviation g s a i b →
              ((pos ((g.q - slice_index g.discounts i) * n) *ℤ payoff_at g s (deviation_at g s a i b) i) +ℤ (pos (slice_index g.discounts i) *ℤ part (get_or (get_or entries (reached g s a i b) []) (punishment g s e i b) no_entry).point i)) ≤ℤ (pos g.q *ℤ part e.point i)) (sym number)
              (λ i b dev. subst (λ (v : List ℤ). Deters g n s (deviation_at g s x.profile i b) i v (part (get_or (get_or entries (reached g s x.profile i b) []) (punishment g s e i b) no_entry).point i)) (sym is_built.point) (deters i b dev));
        }

    is_small : IsSmallEntry g (get_or (get_or entries s []) k no_entry)
    is_small = record {
      parts = parts;
      strategies = is_profile.0 ∙ (ok.each_state s state).one_each;
      parts_small = λ i h. subst (λ (v : List ℤ). unsigned_abs (part v i) ≤ 2 ^ 30) (sym is_built.point) (candidate_small g n s (item_at (row_at rows s) k).point ok two few_n state candidate i (omega (arith, h, two)));
      few_outcomes = omega (arith, ap length lottery_is, length_outcomes is_built.lottery.items, triangle.at_most_three);
      weights_small = subst (λ (l : List (ℕ × ℕ)). (j : ℕ) → j < length l → (get_or l j (0, 0)).1 ≤ 2 ^ 83) (sym lottery_is)
          (λ j h. subst (λ (o : ℕ × ℕ). o.1 ≤ 2 ^ 83) (sym (outcome_at j h)) (triangle.weights_small j (0, pos 0) (omega (arith, length_outcomes is_built.lottery.items))));
    }

  -- ---- all entries
  self_generating : IsSelfGenerating g (record { scale = n; entries = entries })
  self_generating = record {
    scaled = omega (arith, some_n);
    one_list_each = built.one_each;
    generated = λ s k state below. is_generated s k state (omega (arith, below, (built.each s state).same_length));
  }

  all_entries : (s : ℕ) → s < states g → All (IsEntry g n (points_of entries) s) (get_or entries s [])
  all_entries s state = All-at (IsEntry g n (points_of entries) s) (get_or entries s []) no_entry
      (λ k below. subst (λ (choice : List (List (List ℤ))). IsEntry g n choice s (get_or (get_or entries s []) k no_entry)) (sym points_same) (is_entry s k state (omega (arith, below, (built.each s state).same_length))))

  scale_is : (m : ℕ) → m ≡ unsigned_abs g.denominator * n → m / unsigned_abs g.denominator ≡ n
  scale_is m e =
      let some : 0 < unsigned_abs g.denominator = positive_abs g.denominator (above g.denominator ok.denominator_positive) in
      let order : m ≡ n * unsigned_abs g.denominator + 0 = omega (arith, e) in
      ap (λ (k : ℕ). k / unsigned_abs g.denominator) order ∙ div-mul-add n (unsigned_abs g.denominator) 0 some
    where
      above : (z : ℤ) → pos 1 ≤ℤ z → pos 0 <ℤ z
      above z h = omega (arith, ints)

  limits : (m : ℕ) → m ≡ unsigned_abs g.denominator * n → KeepsLimits g (record { common = m; entries = entries })
  limits m e =
      let some : 1 ≤ unsigned_abs g.denominator = above g.denominator ok.denominator_positive in
      let most : unsigned_abs g.denominator ≤ 2 ^ 40 = below g.denominator (2 ^ 40) ok.denominator_positive ok.denominator_small in
      let least_product : 1 * 1 ≤ unsigned_abs g.denominator * n = mul-le-mul some some_n in
      let most_product : unsigned_abs g.denominator * n ≤ 2 ^ 40 * 16 = mul-le-mul most few_n in
      record {
        positive = omega (arith, e, least_product);
        common_small = omega (arith, e, most_product);
        multiple = e ∙ (turn (unsigned_abs g.denominator) n ∙ ap (λ (k : ℕ). k * unsigned_abs g.denominator) (sym (scale_is m e)));
        payoffs_small = λ s a i state known player. subst (λ (k : ℕ). unsigned_abs (pos k *ℤ payoff_at g s a i) ≤ 2 ^ 30) (sym (scale_is m e)) (abs_product (pos n) (payoff_at g s a i) 16 (2 ^ 26) few_n (payoff_small g s a i ok state known player));
        one_list_each = built.one_each;
        few_entries = λ s state. omega (arith, (built.each s state).few, (built.each s state).same_length);
        small_entries = λ s k state below. is_small s k state (omega (arith, below, (built.each s state).same_length));
      }
    where
      above : (z : ℤ) → pos 1 ≤ℤ z → 1 ≤ unsigned_abs z
      above z h = omega (arith, ints)

      below : (z : ℤ) (m : ℕ) → pos 1 ≤ℤ z → z ≤ℤ pos m → unsigned_abs z ≤ m
      below z m h k = omega (arith, ints)

      turn : (a b : ℕ) → a * b ≡ b * a
      turn a b = omega arith

  pub ready : (m : ℕ) → m ≡ unsigned_abs g.denominator * n → IsReady g n (record { common = m; entries = entries })
  ready m e = record {
    inner = record { common = e; largest = largest; entries = all_entries };
    limits = limits m e;
    self_generating = subst (λ (k : ℕ). IsSelfGenerating g (record { scale = k; entries = entries })) (sym (scale_is m e)) self_generating;
  }
