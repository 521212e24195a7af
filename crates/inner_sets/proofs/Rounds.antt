-- A round: what it takes away is in no choice, and where it takes nothing away all that is left is given.
use Rattle.std.proofs.Common.{◌≡◌, ℕ, zero, suc, ◌<◌, ◌≤◌, ⊎_elim, lt-ltb, ltb-true, List, [], ◌∷◌, length, get_or, refl, sym, ap, subst, ◌∙◌, arith}
use Rattle.std.specs.Prelude.{ℤ, All, AllPairs, Contains, sum_by, nat_lt}
use Rattle.std.proofs.lemmas.Bool.{cases_lt}
use Rattle.std.proofs.lemmas.List.{length-map, get_or-map, get_or_default, get_or_past, ext_get_or}
use Rattle.std.proofs.lemmas.List.Elements.{All-filter, All-contains, filter_passes, Contains-get_or}
use Rattle.std.proofs.lemmas.List.Kept.{AllPairs-filter}
use Rattle.game_model.specs.Game.{DynamicGame, IsGame, states, counts, profile_count}
use Rattle.inner_sets.specs.declared.item.Item.{Item}
use Rattle.inner_sets.specs.Candidates.{IsCandidate, Precedes}
use Rattle.inner_sets.specs.Choice.{sublist, IsChoice, IsGiven, IsWithin, Meets}
use Rattle.inner_sets.specs.Rows.{points_in, choice_of, no_item, item_at, row_at, IsAdvanced, AreAdvanced, alive, AreRefined, AreOpen, AreSettled}
use Rattle.inner_sets.specs.Summaries.{PointSummary, AreSummaries}
use Rattle.inner_sets.proofs.Choices.{meets_within, meets_from, passes_from}
use Rattle.inner_sets.proofs.Lists.{Contains-filter, Contains-map, length-filter_le, filter_whole, All-at, sum_at_most, lengths_from_sum}

-- ---- rows as a choice
pub sublist_row : (rows : List (List Item)) (s : ℕ) → sublist (choice_of rows) s ≡ points_in (row_at rows s)
sublist_row [] s = refl
sublist_row (row ∷ rows) zero = refl
sublist_row (row ∷ rows) (suc s) = sublist_row rows s

pub point_in : (items : List Item) (k : ℕ) (d : List ℤ) → k < length items → get_or (points_in items) k d ≡ (item_at items k).point
point_in items k d below = get_or-map (λ (x : Item). x.point) items k no_item d below

-- a point of a row is that of some item
pub some_item : (P : List ℤ → Type 0) (items : List Item) → ((k : ℕ) → k < length items → P (item_at items k).point) → (v : List ℤ) → Contains (points_in items) v → P v
some_item P items h v (k, below, is) =
    let inside : k < length items = omega (arith, length-map items (λ (x : Item). x.point)) in
    subst P (sym (point_in items k v inside) ∙ is) (h k inside)

pub empty_row : (rows : List (List Item)) (s : ℕ) → length rows ≤ s → row_at rows s ≡ []
empty_row rows s past = get_or_past rows s [] past

nothing : (v : List ℤ) → Contains [] v → ⊥
nothing v (k, below, is) = omega arith

-- what holds of an item of state s that has moved on
record IsMoved (g : DynamicGame) (n : ℕ) (old : List (List Item)) (s : ℕ) (x : Item) : Type 0 where
  here : Contains (points_in (row_at old s)) x.point
  candidate : IsCandidate g n s x.point
  failed : (b : ℕ) → b < x.profile → b < profile_count (counts g s) → Meets g n (choice_of old) s b x.point → ⊥
  passed : x.profile < profile_count (counts g s) → Meets g n (choice_of old) s x.profile x.point

-- what is left in state s
record IsLeft (g : DynamicGame) (n : ℕ) (old : List (List Item)) (s : ℕ) (items : List Item) : Type 0 where
  all : All (IsMoved g n old s) items
  live : All (λ (x : Item). x.profile < profile_count (counts g s)) items
  ascending : AllPairs (λ (x y : Item). Precedes x.point y.point) items
  few : length items ≤ length (row_at old s)
  whole : length items ≡ length (row_at old s) → points_in items ≡ points_in (row_at old s)
  stay : (k : ℕ) → k < length (row_at old s) → IsGiven g n (choice_of old) s (item_at (row_at old s) k).point → Contains (points_in items) (item_at (row_at old s) k).point

module _ (g : DynamicGame) (n : ℕ) (ok : IsGame g) (two : g.players ≡ 2) (old : List (List Item)) (ys : List PointSummary) (open_rows : AreOpen g n old) (are : AreSummaries g (choice_of old) ys) where
  one_moved : (s : ℕ) (moved : List Item) → s < states g → AreAdvanced g n ys s (profile_count (counts g s)) (row_at old s) moved → (k : ℕ) → k < length moved → IsMoved g n old s (item_at moved k)
  one_moved s moved state advanced k below =
      let inside : k < length (row_at old s) = omega (arith, advanced.same_length) in
      let x : Item = item_at (row_at old s) k in
      let y : Item = item_at moved k in
      let step : IsAdvanced g n ys s (profile_count (counts g s)) x y = advanced.each k inside in
      let same : x.point ≡ y.point = sym step.point in
      let P : Item → Type 0 = λ (z : Item). (b : ℕ) → b < z.profile → Meets g n (choice_of old) s b z.point → ⊥ in
      let before : P x = open_rows.failed s state k no_item inside in
      record {
        here = subst (λ (v : List ℤ). Contains (points_in (row_at old s)) v) (point_in (row_at old s) k [] inside ∙ same) (Contains-get_or (points_in (row_at old s)) k [] (omega (arith, length-map (row_at old s) (λ (x : Item). x.point))));
        candidate = subst (λ (v : List ℤ). IsCandidate g n s v) same ((open_rows.each s state).candidates k no_item inside);
        failed = λ b less known meets.
            let back : Meets g n (choice_of old) s b x.point = subst (λ (v : List ℤ). Meets g n (choice_of old) s b v) (sym same) meets in
            ⊎_elim
            (λ (lt : b < x.profile). before b lt back)
            (λ (ge : x.profile ≤ b). step.failed b ge less (passes_from g n (choice_of old) ys ok two are s b state known x.point back))
            (cases_lt b x.profile);
        passed = λ known. subst (λ (v : List ℤ). Meets g n (choice_of old) s y.profile v) same
            (meets_from g n (choice_of old) ys ok two are s y.profile state known x.point (step.passed known));
      }

  all_moved : (s : ℕ) (moved : List Item) → s < states g → AreAdvanced g n ys s (profile_count (counts g s)) (row_at old s) moved → All (IsMoved g n old s) moved
  all_moved s moved state advanced = All-at (IsMoved g n old s) moved no_item (one_moved s moved state advanced)

  -- the points keep their order
  still_ascending : (s : ℕ) (moved : List Item) → s < states g → AreAdvanced g n ys s (profile_count (counts g s)) (row_at old s) moved → AllPairs (λ (x y : Item). Precedes x.point y.point) moved
  still_ascending s moved state advanced i j d less below =
      let inside : j < length (row_at old s) = omega (arith, advanced.same_length) in
      let other : i < length (row_at old s) = omega arith in
      let order : Precedes (item_at (row_at old s) i).point (item_at (row_at old s) j).point = (open_rows.each s state).ascending i j no_item less inside in
      let e : (item_at (row_at old s) i).point ≡ (get_or moved i d).point = sym (advanced.each i other).point ∙ ap (λ (x : Item). x.point) (get_or_default moved i no_item d (omega arith)) in
      let f : (item_at (row_at old s) j).point ≡ (get_or moved j d).point = sym (advanced.each j inside).point ∙ ap (λ (x : Item). x.point) (get_or_default moved j no_item d below) in
      subst (λ (v : List ℤ). Precedes v (get_or moved j d).point) e (subst (λ (w : List ℤ). Precedes (item_at (row_at old s) i).point w) f order)

  -- an item whose point is given stays
  stays : (s : ℕ) (moved : List Item) → s < states g → AreAdvanced g n ys s (profile_count (counts g s)) (row_at old s) moved → (k : ℕ) → k < length (row_at old s) → IsGiven g n (choice_of old) s (item_at (row_at old s) k).point
      → Contains (points_in (alive g s moved)) (item_at (row_at old s) k).point
  stays s moved state advanced k inside (a, known, meets) =
      let below : k < length moved = omega (arith, advanced.same_length) in
      let y : Item = item_at moved k in
      let m : IsMoved g n old s y = one_moved s moved state advanced k below in
      let same : y.point ≡ (item_at (row_at old s) k).point = (advanced.each k inside).point in
      let live : y.profile < profile_count (counts g s) =
      ⊎_elim
      (λ (lt : y.profile < profile_count (counts g s)). lt)
      (λ (ge : profile_count (counts g s) ≤ y.profile). absurd (m.failed a (omega arith) known (subst (λ (v : List ℤ). Meets g n (choice_of old) s a v) (sym same) meets)))
      (cases_lt y.profile (profile_count (counts g s))) in
      let there : Contains (alive g s moved) y = Contains-filter (λ (x : Item). nat_lt x.profile (profile_count (counts g s))) moved y (Contains-get_or moved k no_item below) (lt-ltb y.profile (profile_count (counts g s)) live) in
      subst (λ (v : List ℤ). Contains (points_in (alive g s moved)) v) same (Contains-map (λ (x : Item). x.point) (alive g s moved) y there)

  left_alive : (s : ℕ) (moved : List Item) → s < states g → AreAdvanced g n ys s (profile_count (counts g s)) (row_at old s) moved → IsLeft g n old s (alive g s moved)
  left_alive s moved state advanced =
      record {
        all = All-filter (λ (x : Item). nat_lt x.profile (profile_count (counts g s))) (IsMoved g n old s) moved (all_moved s moved state advanced);
        live = λ k d below. ltb-true (get_or (alive g s moved) k d).profile (profile_count (counts g s)) (filter_passes (λ (x : Item). nat_lt x.profile (profile_count (counts g s))) moved k d below);
        ascending = AllPairs-filter (λ (x y : Item). Precedes x.point y.point) (λ (x : Item). nat_lt x.profile (profile_count (counts g s))) moved (still_ascending s moved state advanced);
        few = omega (arith, advanced.same_length, length-filter_le (λ (x : Item). nat_lt x.profile (profile_count (counts g s))) moved);
        whole = λ e. ap points_in (filter_whole (λ (x : Item). nat_lt x.profile (profile_count (counts g s))) moved (omega (arith, e, advanced.same_length))) ∙ same_points s moved advanced;
        stay = stays s moved state advanced;
      }
    where
      same_points : (s : ℕ) (moved : List Item) → AreAdvanced g n ys s (profile_count (counts g s)) (row_at old s) moved → points_in moved ≡ points_in (row_at old s)
      same_points s moved advanced = ext_get_or [] (points_in moved) (points_in (row_at old s))
          (length-map moved (λ (x : Item). x.point) ∙ (advanced.same_length ∙ sym (length-map (row_at old s) (λ (x : Item). x.point))))
          (λ k below.
          let inside : k < length moved = omega (arith, length-map moved (λ (x : Item). x.point)) in
          let other : k < length (row_at old s) = omega (arith, advanced.same_length) in
          point_in moved k [] inside ∙ ((advanced.each k other).point ∙ sym (point_in (row_at old s) k [] other)))

  module _ (new : List (List Item)) (refined : AreRefined g n ys old new) where
    left : (s : ℕ) → s < states g → IsLeft g n old s (row_at new s)
    left s state =
        subst (λ (items : List Item). IsLeft g n old s items) (sym (refined.each s state).2) (left_alive s (refined.each s state).0 state (refined.each s state).1)

    pub same_points_left : (s : ℕ) → s < states g → length (row_at new s) ≡ length (row_at old s) → points_in (row_at new s) ≡ points_in (row_at old s)
    same_points_left s state = (left s state).whole

    new_length : length new ≡ states g
    new_length = refined.same_length ∙ open_rows.one_each

    within_old : IsWithin (choice_of new) (choice_of old)
    within_old s v there =
        let here : Contains (points_in (row_at new s)) v = subst (λ (xs : List (List ℤ)). Contains xs v) (sublist_row new s) there in
        ⊎_elim
        (λ (state : s < states g). subst (λ (xs : List (List ℤ)). Contains xs v) (sym (sublist_row old s))
        (some_item (λ (w : List ℤ). Contains (points_in (row_at old s)) w) (row_at new s) (λ k below. ((left s state).all k no_item below).here) v here))
        (λ (past : states g ≤ s). absurd (nothing v (subst (λ (items : List Item). Contains (points_in items) v) (empty_row new s (omega (arith, new_length))) here)))
        (cases_lt s (states g))

    enough_left : (other : List (List (List ℤ))) → IsChoice g n other → IsWithin other (choice_of new)
    enough_left other choice s v there =
        ⊎_elim
        (λ (state : s < states g). subst (λ (xs : List (List ℤ)). Contains xs v) (sym (sublist_row new s)) (at_state state))
        (λ (past : states g ≤ s). absurd (nothing v (subst (λ (xs : List (List ℤ)). Contains xs v) (get_or_past other s [] (omega (arith, choice.one_list_each))) there)))
        (cases_lt s (states g))
      where
        at_state : s < states g → Contains (points_in (row_at new s)) v
        at_state state =
            let given : IsGiven g n other s v = All-contains (IsGiven g n other s) (sublist other s) v (choice.given s state) there in
            let in_old : Contains (points_in (row_at old s)) v = subst (λ (xs : List (List ℤ)). Contains xs v) (sublist_row old s) (open_rows.enough other choice s v there) in
            let given_old : IsGiven g n (choice_of old) s v = (given.0, given.1, meets_within g n other (choice_of old) s given.0 v (open_rows.enough other choice) given.2) in
            some_item (λ (w : List ℤ). IsGiven g n (choice_of old) s w → Contains (points_in (row_at new s)) w) (row_at old s) (λ k below. (left s state).stay k below) v in_old given_old

    pub open_after : AreOpen g n new
    open_after = record {
      one_each = new_length;
      each = λ s state. record { ascending = (left s state).ascending; candidates = λ k d below. ((left s state).all k d below).candidate };
      enough = enough_left;
      failed = λ s state k d below b less meets. ((left s state).all k d below).failed b less (omega (arith, less, (left s state).live k d below)) (meets_within g n (choice_of new) (choice_of old) s b (get_or (row_at new s) k d).point within_old meets);
    }

    rows_shrink : (s : ℕ) → s < length old → length (row_at new s) ≤ length (row_at old s)
    rows_shrink s below = (left s (omega (arith, open_rows.one_each))).few

    pub sum_shrinks : sum_by length new ≤ sum_by length old
    sum_shrinks = sum_at_most new old refined.same_length rows_shrink

    same_choice : sum_by length new ≡ sum_by length old → choice_of new ≡ choice_of old
    same_choice sum = ext_get_or [] (choice_of new) (choice_of old)
        (length-map new points_in ∙ (refined.same_length ∙ sym (length-map old points_in)))
        (λ s below.
        let inside : s < length old = omega (arith, length-map new points_in, refined.same_length) in
        sublist_row new s ∙ ((left s (omega (arith, open_rows.one_each))).whole (lengths_from_sum new old refined.same_length rows_shrink sum s inside) ∙ sym (sublist_row old s)))

    pub settled_after : sum_by length new ≡ sum_by length old → AreSettled g n new
    settled_after sum = record {
      open_rows = open_after;
      given = λ s state k d below.
          let live : (get_or (row_at new s) k d).profile < profile_count (counts g s) = (left s state).live k d below in
          (live, subst (λ (choice : List (List (List ℤ))). Meets g n choice s (get_or (row_at new s) k d).profile (get_or (row_at new s) k d).point) (sym (same_choice sum)) (((left s state).all k d below).passed live));
    }
