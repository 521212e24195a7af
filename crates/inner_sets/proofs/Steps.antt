-- Steps of loops over items and rows, and sides of inequalities as the code forms them.
use Rattle.std.proofs.Common.{◌≡◌, ◌≢◌, ℕ, ◌+◌, ◌<◌, ◌≤◌, ◌^◌, ⊎_elim, Bool, List, [], ◌∷◌, ◌++◌, length, take, get_or, refl, sym, ap, subst, ◌∙◌, arith}
use Rattle.std.specs.Prelude.{ℤ, pos, ◌+ℤ◌, ◌*ℤ◌, ◌≤ℤ◌, ◌<ℤ◌, ◌↔◌, All, filter, unsigned_abs}
use Rattle.std.proofs.Math.ListN.{set}
use Rattle.std.proofs.lemmas.Bool.{cases_lt, cases_eq}
use Rattle.std.proofs.lemmas.Int.{ints}
use Rattle.std.proofs.lemmas.List.{get_or-set_same, get_or-set_other, get_or_append_left, get_or_push}
use Rattle.std.proofs.lemmas.List.Elements.{All-filter}
use Rattle.exact_algebra.specs.Poly.{var, ◌⊗◌}
use Rattle.exact_algebra.proofs.Normal.{ring}
use Rattle.exact_algebra.proofs.Order.{product_above_zero}
use Rattle.game_model.specs.Game.{DynamicGame, IsGame, states, counts, profile_count, strategies_of, successor}
use Rattle.game_model.specs.SelfGeneration.{Entry, part}
use Rattle.inner_sets.specs.declared.item.Item.{Item}
use Rattle.inner_sets.specs.Built.{IsLotteryOf, ArePunishments, IsBuilt}
use Rattle.inner_sets.specs.Rows.{choice_of, no_item, item_at, row_at, IsSmallRow, IsTried, AreTried, IsAdvanced, AreAdvanced, IsRefined, AreSettled}
use Rattle.inner_sets.specs.Choice.{remainder}
use Rattle.inner_sets.specs.Summaries.{PointSummary, summary_at, AreSummaries, Passes}
use Rattle.inner_sets.proofs.Choices.{passes_from}
use Rattle.inner_sets.proofs.Lists.{All-at, length-filter_le}

pub share_along : (q r : ℕ) (a b : ℤ) → q ≡ r → a ≡ b → pos q *ℤ a ≡ pos r *ℤ b
share_along q r a b h k = rw (h, k) refl

pub product_swap : (a b : ℤ) → a *ℤ b ≡ b *ℤ a
product_swap a b = ring (a ∷ b ∷ []) (var 0 ⊗ var 1) (var 1 ⊗ var 0) refl

pub sides_along : (x y z a b d : ℤ) → x ≡ a → y ≡ b → z ≡ d → ((x +ℤ y) ≤ℤ z) ↔ ((a +ℤ b) ≤ℤ d)
sides_along x y z a b d e f h = rw (e, f, h) (λ k. k, λ k. k)

pub common_positive : (den : ℤ) (n : ℕ) → pos 1 ≤ℤ den → 1 ≤ n → pos 0 <ℤ (den *ℤ pos n)
common_positive den n h k = product_above_zero den (pos n) (omega (arith, ints)) (omega (arith, ints))

pub small_filter : (p : Item → Bool) (items : List Item) → IsSmallRow items → IsSmallRow (filter p items)
small_filter p items h =
    let each : All (λ (x : Item). (i : ℕ) → i < 2 → unsigned_abs (part x.point i) ≤ 2 ^ 30) items =
    All-at (λ (x : Item). (i : ℕ) → i < 2 → unsigned_abs (part x.point i) ≤ 2 ^ 30) items no_item (λ k below i player. h.small k i below player) in
    record {
      few = omega (arith, length-filter_le p items, h.few);
      small = λ k i below player. All-filter p (λ (x : Item). (i : ℕ) → i < 2 → unsigned_abs (part x.point i) ≤ 2 ^ 30) items each k no_item below i player;
    }

-- ---- one item written, or none
module _ (R : Item → Item → Type 0) (initial now : List Item) (k : ℕ) (same : length now ≡ length initial) (below : k < length now) where
  pub items_more : (y : Item) → ((j : ℕ) → j < k → R (item_at initial j) (item_at now j)) → ((j : ℕ) → k ≤ j → item_at now j ≡ item_at initial j) → R (item_at now k) y
      → (j : ℕ) → j < k + 1 → R (item_at initial j) (item_at (set now k y) j)
  items_more y done rest here j less =
      ⊎_elim
      (λ (lt : j < k).
      let ne : j ≢ k = omega arith in
      subst (λ (x : Item). R (item_at initial j) x) (sym (get_or-set_other now k j y no_item ne)) (done j lt))
      (λ (ge : k ≤ j).
      let e : k ≡ j = omega arith in
      subst (λ (i : ℕ). R (item_at initial i) (item_at (set now k y) i)) e
      (subst (λ (x : Item). R (item_at initial k) x) (sym (get_or-set_same now k y no_item below))
      (subst (λ (x : Item). R x y) (rest k (omega arith)) here)))
      (cases_lt j k)

  pub items_rest : (y : Item) → ((j : ℕ) → k ≤ j → item_at now j ≡ item_at initial j) → (j : ℕ) → k + 1 ≤ j → item_at (set now k y) j ≡ item_at initial j
  items_rest y rest j more =
      let ne : j ≢ k = omega arith in
      get_or-set_other now k j y no_item ne ∙ rest j (omega arith)

  pub items_same : ((j : ℕ) → j < k → R (item_at initial j) (item_at now j)) → ((j : ℕ) → k ≤ j → item_at now j ≡ item_at initial j) → R (item_at now k) (item_at now k)
      → (j : ℕ) → j < k + 1 → R (item_at initial j) (item_at now j)
  items_same done rest here j less =
      ⊎_elim
      (done j)
      (λ (ge : k ≤ j).
      let e : k ≡ j = omega arith in
      subst (λ (i : ℕ). R (item_at initial i) (item_at now i)) e (subst (λ (x : Item). R x (item_at now k)) (rest k (omega arith)) here))
      (cases_lt j k)

-- ---- all profiles below m tried, and then profile m
module _ (g : DynamicGame) (n : ℕ) (ys : List PointSummary) (s m : ℕ) where
  one_more : (x y z : Item) → IsAdvanced g n ys s m x y → IsTried g n ys s m y z → IsAdvanced g n ys s (m + 1) x z
  one_more x y z advanced tried =
      ⊎_elim
      (λ (here : y.profile ≡ m). ⊎_elim (λ passed. at_passed here passed.0 passed.1) (λ failed. at_failed here failed.0 failed.1) (tried.here here))
      at_other
      (cases_eq y.profile m)
    where
      point : z.point ≡ x.point
      point = tried.point ∙ advanced.point

      at_passed : y.profile ≡ m → Passes g n ys s m y.point → z.profile ≡ m → IsAdvanced g n ys s (m + 1) x z
      at_passed here passes stays = record {
        point = point;
        failed = λ b from less. advanced.failed b from (omega arith);
        passed = λ below. subst (λ (a : ℕ). Passes g n ys s a x.point) (sym stays) (subst (λ (v : List ℤ). Passes g n ys s m v) advanced.point passes);
      }

      at_failed : y.profile ≡ m → (Passes g n ys s m y.point → ⊥) → z.profile ≡ m + 1 → IsAdvanced g n ys s (m + 1) x z
      at_failed here fails moves = record {
        point = point;
        failed = λ b from less passes.
            ⊎_elim
            (λ (lt : b < y.profile). advanced.failed b from lt passes)
            (λ (ge : y.profile ≤ b).
            let same : b ≡ m = omega arith in
            fails (subst (λ (v : List ℤ). Passes g n ys s m v) (sym advanced.point) (subst (λ (a : ℕ). Passes g n ys s a x.point) same passes)))
            (cases_lt b y.profile);
        passed = λ below. absurd (omega arith);
      }

      at_other : (y.profile ≡ m → ⊥) → IsAdvanced g n ys s (m + 1) x z
      at_other ne =
          let stays : z.profile ≡ y.profile = tried.other ne in
          let off : y.profile ≢ m = ne in
          record {
            point = point;
            failed = λ b from less. advanced.failed b from (omega arith);
            passed = λ below. subst (λ (a : ℕ). Passes g n ys s a x.point) (sym stays) (advanced.passed (omega arith));
          }

  pub one_profile_more : (old mid new : List Item) → AreAdvanced g n ys s m old mid → AreTried g n ys s m mid new → AreAdvanced g n ys s (m + 1) old new
  one_profile_more old mid new advanced tried = record {
    same_length = tried.same_length ∙ advanced.same_length;
    each = λ k below. one_more (item_at old k) (item_at mid k) (item_at new k) (advanced.each k below) (tried.each k (omega (arith, below, advanced.same_length)));
  }

-- ---- one row written
module _ (g : DynamicGame) (n : ℕ) (ys : List PointSummary) (initial now : List (List Item)) (k : ℕ) (y : List Item) (same : length now ≡ length initial) (below : k < length now) where
  pub refined_more : ((t : ℕ) → t < k → IsRefined g n ys t (row_at initial t) (row_at now t)) → ((t : ℕ) → k ≤ t → row_at now t ≡ row_at initial t) → IsRefined g n ys k (row_at now k) y
      → (t : ℕ) → t < k + 1 → IsRefined g n ys t (row_at initial t) (row_at (set now k y) t)
  refined_more done rest here t less =
      ⊎_elim
      (λ (lt : t < k).
      let ne : t ≢ k = omega arith in
      subst (λ (x : List Item). IsRefined g n ys t (row_at initial t) x) (sym (get_or-set_other now k t y [] ne)) (done t lt))
      (λ (ge : k ≤ t).
      let e : k ≡ t = omega arith in
      subst (λ (i : ℕ). IsRefined g n ys i (row_at initial i) (row_at (set now k y) i)) e
      (subst (λ (x : List Item). IsRefined g n ys k (row_at initial k) x) (sym (get_or-set_same now k y [] below))
      (subst (λ (x : List Item). IsRefined g n ys k x y) (rest k (omega arith)) here)))
      (cases_lt t k)

  pub rows_rest : ((t : ℕ) → k ≤ t → row_at now t ≡ row_at initial t) → (t : ℕ) → k + 1 ≤ t → row_at (set now k y) t ≡ row_at initial t
  rows_rest rest t more =
      let ne : t ≢ k = omega arith in
      get_or-set_other now k t y [] ne ∙ rest t (omega arith)

-- ---- an entry
pub built_from : (g : DynamicGame) (n : ℕ) (ys : List PointSummary) (s a : ℕ) (v w : List ℤ) (xs : List ℕ) (l : List (ℕ × ℕ)) (p : List ℕ) (e : Entry) → e ≡ record { point = take (length xs) w; profile = xs; lottery = l; punish = p }
    → xs ≡ strategies_of (counts g s) a → length xs ≡ 2 → take 2 w ≡ v → IsLotteryOf (summary_at ys (successor g s a)).points (remainder g n s a v) l → ArePunishments g ys s a p → IsBuilt g n ys s a v e
built_from g n ys s a v w xs l p e is profile two point lottery punish = subst (λ (e : Entry). IsBuilt g n ys s a v e) (sym is) (record {
  point = ap (λ (k : ℕ). take k w) two ∙ point;
  profile = profile;
  lottery = lottery;
  punish = punish;
})

-- ---- one item pushed
pub push_each : {X : Type 0} (P : ℕ → X → Type 0) (xs : List X) (y d : X) (m : ℕ) → length xs ≡ m → ((t : ℕ) → t < m → P t (get_or xs t d)) → P m y → (t : ℕ) → t < m + 1 → P t (get_or (xs ++ y ∷ []) t d)
push_each P xs y d m long done here t less =
    ⊎_elim
    (λ (lt : t < m). subst (P t) (sym (get_or_append_left xs (y ∷ []) d t (omega arith))) (done t lt))
    (λ (ge : m ≤ t).
    let e : m ≡ t = omega arith in
    subst (λ (i : ℕ). P i (get_or (xs ++ y ∷ []) i d)) e (subst (P m) (sym (get_or_push xs y d m long)) here))
    (cases_lt t m)

-- ---- a settled point passes at its profile
pub settled_passes : (g : DynamicGame) (n : ℕ) (rows : List (List Item)) (ys : List PointSummary) (s k : ℕ) → IsGame g → g.players ≡ 2 → AreSettled g n rows → AreSummaries g (choice_of rows) ys → s < states g → k < length (row_at rows s)
    → ((item_at (row_at rows s) k).profile < profile_count (counts g s)) × Passes g n ys s (item_at (row_at rows s) k).profile (item_at (row_at rows s) k).point
settled_passes g n rows ys s k ok two settled are state below =
    let h = settled.given s state k no_item below in
    (h.0, passes_from g n (choice_of rows) ys ok two are s (item_at (row_at rows s) k).profile state h.0 (item_at (row_at rows s) k).point h.1)
