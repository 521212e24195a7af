-- States that needn't be looked at again: what their points passes stays so where the next states keep all points.
use Rattle.std.proofs.Common.{◌≡◌, ◌≢◌, ℕ, ◌+◌, ◌<◌, ◌≤◌, ⊎_elim, Bool, true, false, lt-ltb, ltb-true, List, [], ◌∷◌, length, get_or, cond, refl, sym, ap, subst, ◌∙◌, arith}
use Rattle.std.specs.Prelude.{ℤ, All, filter, nat_lt, map, slice_index_or}
use Rattle.std.proofs.Math.ListN.{set}
use Rattle.std.proofs.lemmas.Bool.{cases_eq, cases_lt}
use Rattle.std.proofs.lemmas.List.{length-map, length-set, get_or-set_same, get_or-set_other}
use Rattle.std.proofs.lemmas.List.Elements.{All-cons, All-filter, All-head, All-tail, filter_passes}
use Rattle.game_model.specs.Game.{DynamicGame, IsGame, states, counts, profile_count, successor, IsDeviation, deviation_at, reached}
use Rattle.hull_weights.specs.Hull.{IsInHull}
use Rattle.inner_sets.specs.declared.item.Item.{Item}
use Rattle.inner_sets.specs.Choice.{sublist, discounted, remainder}
use Rattle.inner_sets.specs.Rounds.{AreMarked, AreRenewed, HasAll, IsUnmoved}
use Rattle.inner_sets.specs.Rows.{points_in, choice_of, no_item, item_at, row_at, IsAdvanced, AreAdvanced, IsRefined, AreRefined, AreOpen, IsHeld, AreHeld, alive}
use Rattle.inner_sets.specs.Summaries.{PointSummary, no_summary, summary_at, IsSummary, AreSummaries, IsDeterredBy, Passes}
use Rattle.inner_sets.proofs.Choices.{deviation_known, next_known}
use Rattle.inner_sets.proofs.Lists.{All-at, filter_whole, length-filter_le}
use Rattle.inner_sets.proofs.Rounds.{sublist_row, same_points_left}

-- ---- a filter that each item passes
kept : (x : Item) (xs : List Item) (b : Bool) → b ≡ true → cond b (x ∷ xs) xs ≡ x ∷ xs
kept x xs true e = refl
kept x xs false e = absurd (apart e)
  where
    apart : false ≡ true → ⊥
    apart t = cc

all_alive : (m : ℕ) (xs : List Item) → All (λ (x : Item). x.profile < m) xs → filter (λ (x : Item). nat_lt x.profile m) xs ≡ xs
all_alive m [] h = refl
all_alive m (x ∷ xs) h =
    ap (λ (ys : List Item). cond (nat_lt x.profile m) (x ∷ ys) ys) (all_alive m xs (All-tail (λ (x : Item). x.profile < m) x xs h))
    ∙ kept x xs (nat_lt x.profile m) (lt-ltb x.profile m (All-head (λ (x : Item). x.profile < m) x xs h))

module _ (g : DynamicGame) (n : ℕ) where
  -- ---- a row that is held needs no round
  stays_advanced : (ys : List PointSummary) (s : ℕ) (items : List Item) → IsHeld g n ys s items → AreAdvanced g n ys s (profile_count (counts g s)) items items
  stays_advanced ys s items held = record {
    same_length = refl;
    each = λ k below. record {
      point = refl;
      failed = λ b from less. absurd (omega (arith, from, less));
      passed = λ known. (held k no_item below).1;
    };
  }

  pub refined_held : (ys : List PointSummary) (s : ℕ) (items : List Item) → IsHeld g n ys s items → IsRefined g n ys s items items
  refined_held ys s items held = (items, stays_advanced ys s items held, sym (all_alive (profile_count (counts g s)) items (λ k d below. (held k d below).0)))

  -- ---- a round leaves held rows
  abbrev Passing : List PointSummary → ℕ → Item → Type 0
  Passing ys s x = x.profile < profile_count (counts g s) → Passes g n ys s x.profile x.point

  one_passing : (ys : List PointSummary) (s : ℕ) (x y : Item) → IsAdvanced g n ys s (profile_count (counts g s)) x y → Passing ys s y
  one_passing ys s x y advanced known = subst (Passes g n ys s y.profile) (sym advanced.point) (advanced.passed known)

  pub held_after : (ys : List PointSummary) (s : ℕ) (old new : List Item) → IsRefined g n ys s old new → IsHeld g n ys s new
  held_after ys s old new (moved, advanced, is) = subst (IsHeld g n ys s) (sym is) held
    where
      passing : All (Passing ys s) (alive g s moved)
      passing = All-filter (λ (x : Item). nat_lt x.profile (profile_count (counts g s))) (Passing ys s) moved
          (All-at (Passing ys s) moved no_item (λ k below. one_passing ys s (item_at old k) (item_at moved k) (advanced.each k (omega (arith, below, advanced.same_length)))))

      held : IsHeld g n ys s (alive g s moved)
      held k d below =
          let known : (get_or (alive g s moved) k d).profile < profile_count (counts g s) = ltb-true (get_or (alive g s moved) k d).profile (profile_count (counts g s)) (filter_passes (λ (x : Item). nat_lt x.profile (profile_count (counts g s))) moved k d below) in
          (known, passing k d below known)

  -- ---- what passes still passes where the next states have the same summaries
  passes_kept : (old new : List PointSummary) (s a : ℕ) (v : List ℤ) → IsGame g → s < states g → a < profile_count (counts g s) → ((b : ℕ) → b < profile_count (counts g s) → summary_at new (successor g s b) ≡ summary_at old (successor g s b))
      → Passes g n old s a v → Passes g n new s a v
  passes_kept old new s a v ok state known same passes = record {
    continuation = subst (λ (y : PointSummary). Goes y) (sym (same a known)) passes.continuation;
    deterred = λ i b dev. subst (λ (y : PointSummary). Held y i b) (sym (same (deviation_at g s a i b) (deviation_known g s a i b ok state known dev))) (passes.deterred i b dev);
  }
    where
      Goes : PointSummary → Type 0
      Goes y = IsInHull y.points (remainder g n s a v)

      Held : PointSummary → ℕ → ℕ → Type 0
      Held y i b = IsDeterredBy g n y s (deviation_at g s a i b) i v

  -- ---- between rounds
  module _ (ok : IsGame g) (two : g.players ≡ 2) (old new : List (List Item)) (ys zs : List PointSummary) (open_rows : AreOpen g n old) (are : AreSummaries g (choice_of old) ys) (refined : AreRefined g n ys old new) (renewed : AreRenewed g new ys zs) where
    -- a row that has as many points as its summary has them all
    old_length : (s : ℕ) → s < states g → length (summary_at ys s).points ≡ length (row_at old s)
    old_length s state =
        ap length (are.each s state).same
        ∙ (length-map (sublist (choice_of old) s) (discounted g)
        ∙ (ap length (sublist_row old s) ∙ length-map (row_at old s) (λ (x : Item). x.point)))

    all_points : (s : ℕ) → s < states g → HasAll new ys s → sublist (choice_of old) s ≡ sublist (choice_of new) s
    all_points s state all = sublist_row old s ∙ (sym (same_points_left g n ok two old ys open_rows are new refined s state (all ∙ old_length s state)) ∙ sym (sublist_row new s))

    pub summaries_after : AreSummaries g (choice_of new) zs
    summaries_after = record {
      one_each = renewed.same_length ∙ are.one_each;
      each = λ s state.
          ⊎_elim
          (λ (all : HasAll new ys s).
          subst (IsSummary g (sublist (choice_of new) s)) (sym (renewed.kept s state all))
          (subst (λ (points : List (List ℤ)). IsSummary g points (summary_at ys s)) (all_points s state all) (are.each s state)))
          (λ (lost : HasAll new ys s → ⊥).
          subst (λ (points : List (List ℤ)). IsSummary g points (summary_at zs s)) (sym (sublist_row new s)) (renewed.made s state lost))
          (cases_eq (length (row_at new s)) (length (summary_at ys s).points));
    }

    pub held_again : (stale : List Bool) → AreMarked g new ys stale → AreHeld g n zs stale new
    held_again stale marked = record {
      one_flag_each = marked.one_each;
      held = λ s state flag k d below.
          let here = held_after ys s (row_at old s) (row_at new s) (refined.each s state) k d below in (
            here.0,
            passes_kept ys zs s (get_or (row_at new s) k d).profile (get_or (row_at new s) k d).point ok state here.0
                (λ b known. renewed.kept (successor g s b) (next_known g s b ok state known) (marked.unmoved s state flag b known)) here.1,
          );
    }

-- ---- summaries made anew one by one
-- what holds where those of states below k are made
pub record AreRenewedBelow (g : DynamicGame) (rows : List (List Item)) (initial : List PointSummary) (k : ℕ) (now : List PointSummary) : Type 0 where
  pub count : length now ≡ length initial
  pub kept : (t : ℕ) → t < k → HasAll rows initial t → summary_at now t ≡ summary_at initial t
  pub made : (t : ℕ) → t < k → (HasAll rows initial t → ⊥) → IsSummary g (points_in (row_at rows t)) (summary_at now t)
  pub rest : (t : ℕ) → k ≤ t → summary_at now t ≡ summary_at initial t

module _ (g : DynamicGame) (rows : List (List Item)) (initial now : List PointSummary) (k : ℕ) (below : AreRenewedBelow g rows initial k now) where
  pub renewed_same : HasAll rows initial k → AreRenewedBelow g rows initial (k + 1) now
  renewed_same all = record {
    count = below.count;
    kept = λ t less has.
        ⊎_elim (λ (lt : t < k). below.kept t lt has) (λ (ge : k ≤ t). below.rest t ge) (cases_lt t k);
    made = λ t less lost.
        ⊎_elim
        (λ (lt : t < k). below.made t lt lost)
        (λ (ge : k ≤ t).
        let same : k ≡ t = omega arith in
        absurd (lost (subst (HasAll rows initial) same all)))
        (cases_lt t k);
    rest = λ t past. below.rest t (omega (arith, past));
  }

  pub renewed_more : (y : PointSummary) → k < length now → (HasAll rows initial k → ⊥) → IsSummary g (points_in (row_at rows k)) y → AreRenewedBelow g rows initial (k + 1) (set now k y)
  renewed_more y inside lost is = record {
    count = length-set now k y ∙ below.count;
    kept = λ t less has.
        ⊎_elim
        (λ (lt : t < k).
        let ne : t ≢ k = omega arith in
        get_or-set_other now k t y no_summary ne ∙ below.kept t lt has)
        (λ (ge : k ≤ t).
        let same : t ≡ k = omega arith in
        absurd (lost (subst (HasAll rows initial) same has)))
        (cases_lt t k);
    made = λ t less lost.
        ⊎_elim
        (λ (lt : t < k).
        let ne : t ≢ k = omega arith in
        subst (IsSummary g (points_in (row_at rows t))) (sym (get_or-set_other now k t y no_summary ne)) (below.made t lt lost))
        (λ (ge : k ≤ t).
        let same : k ≡ t = omega arith in
        subst (λ (t : ℕ). IsSummary g (points_in (row_at rows t)) (summary_at (set now k y) t)) same
        (subst (IsSummary g (points_in (row_at rows k))) (sym (get_or-set_same now k y no_summary inside)) is))
        (cases_lt t k);
    rest = λ t past.
        let ne : t ≢ k = omega (arith, past) in
        get_or-set_other now k t y no_summary ne ∙ below.rest t (omega (arith, past));
  }
