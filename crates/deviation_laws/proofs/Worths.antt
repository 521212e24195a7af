-- No plan is worth more than the entry's part, by induction on the plan.
use Rattle.std.proofs.Common.{◌≡◌, ℕ, suc, ◌<◌, List, [], ◌∷◌, length, get_or, refl, arith}
use Rattle.std.specs.Prelude.{ℤ, pos, ◌+ℤ◌, ◌*ℤ◌, ◌≤ℤ◌, ◌<ℤ◌, slice_index}
use Rattle.std.proofs.lemmas.Int.{ints}
use Rattle.exact_algebra.specs.Poly.{var, lit, ◌⊕◌, ◌⊗◌}
use Rattle.exact_algebra.proofs.Normal.{ring}
use Rattle.exact_algebra.proofs.Order.{at_most_self, times_at_most, product_above_zero, product_at_least_zero}
use Rattle.game_model.specs.Game.{DynamicGame, IsGame, states}
use Rattle.game_model.specs.SelfGeneration.{Entry, Correspondence, IsSelfGenerating, entries_of, entry_at, part, total_weight, weighted_part}
use Rattle.deviation_laws.specs.declared.plan.DevPlan.{DevPlan, Stop, Play', Row_of-DevPlan, end_of-DevPlan, more_of-DevPlan}
use Rattle.deviation_laws.specs.Fractions.{Fraction, whole, plus, times, divided_by}
use Rattle.deviation_laws.specs.Plans.{Fits, FitEach, worth, worth_of_each, state_after, outcomes_after}
use Rattle.deviation_laws.proofs.Averages.{Follows, follows, now_of}

pub record IsAtMost (x : Fraction) (z : ℤ) : Type 0 where
  pub positive : pos 0 <ℤ x.den
  pub at_most : x.num ≤ℤ (z *ℤ x.den)

whole_at_most : (z : ℤ) → IsAtMost (whole z) z
whole_at_most z = record {
  positive = omega (arith, ints);
  at_most = let e : z *ℤ pos 1 ≡ z = ring (z ∷ []) (var 0 ⊗ lit (pos 1)) (var 0) refl in rw e (at_most_self z);
}

-- a sum, one summand with a weight
sum_at_most : (w v r : ℤ) (x y : Fraction) → pos 0 ≤ℤ w → IsAtMost x v → IsAtMost y r → IsAtMost (plus (times w x) y) ((w *ℤ v) +ℤ r)
sum_at_most w v r x y weight h k =
    let xd : pos 0 <ℤ x.den = h.positive in
    let yd : pos 0 <ℤ y.den = k.positive in
    let a : ((w *ℤ y.den) *ℤ x.num) ≤ℤ ((w *ℤ y.den) *ℤ (v *ℤ x.den)) =
    times_at_most (w *ℤ y.den) x.num (v *ℤ x.den) (product_at_least_zero w y.den weight (omega (arith, ints))) h.at_most in
    let b : (x.den *ℤ y.num) ≤ℤ (x.den *ℤ (r *ℤ y.den)) = times_at_most x.den y.num (r *ℤ y.den) (omega (arith, ints)) k.at_most in
    let l : ((w *ℤ x.num) *ℤ y.den) +ℤ (y.num *ℤ x.den) ≡ ((w *ℤ y.den) *ℤ x.num) +ℤ (x.den *ℤ y.num) =
    ring (w ∷ x.num ∷ y.den ∷ y.num ∷ x.den ∷ []) (((var 0 ⊗ var 1) ⊗ var 2) ⊕ (var 3 ⊗ var 4)) (((var 0 ⊗ var 2) ⊗ var 1) ⊕ (var 4 ⊗ var 3)) refl in
    let t : ((w *ℤ v) +ℤ r) *ℤ (x.den *ℤ y.den) ≡ ((w *ℤ y.den) *ℤ (v *ℤ x.den)) +ℤ (x.den *ℤ (r *ℤ y.den)) =
    ring (w ∷ v ∷ r ∷ x.den ∷ y.den ∷ []) (((var 0 ⊗ var 1) ⊕ var 2) ⊗ (var 3 ⊗ var 4)) (((var 0 ⊗ var 4) ⊗ (var 1 ⊗ var 3)) ⊕ (var 3 ⊗ (var 2 ⊗ var 4))) refl in
    record {
      positive = product_above_zero x.den y.den xd yd;
      at_most = rw (l, t) (omega (arith, ints, a, b));
    }

-- a period: u is q times the discounted payoff, and w the bound of the sum that follows
play_at_most : (q d z : ℕ) (u w n : ℤ) (x : Fraction) → 0 < q → 0 < z → IsAtMost x w → ((u *ℤ pos z) +ℤ (pos d *ℤ w)) ≤ℤ ((pos q *ℤ n) *ℤ pos z) →
    IsAtMost (divided_by (pos q) (plus (whole u) (times (pos d) (divided_by (pos z) x)))) n
play_at_most q d z u w n x positive some h bound =
    let xd : pos 0 <ℤ x.den = h.positive in
    let zd : pos 0 <ℤ (pos z *ℤ x.den) = product_above_zero (pos z) x.den (omega (arith, ints)) xd in
    let a : (pos d *ℤ x.num) ≤ℤ (pos d *ℤ (w *ℤ x.den)) = times_at_most (pos d) x.num (w *ℤ x.den) (omega (arith, ints)) h.at_most in
    let b : (x.den *ℤ ((u *ℤ pos z) +ℤ (pos d *ℤ w))) ≤ℤ (x.den *ℤ ((pos q *ℤ n) *ℤ pos z)) =
    times_at_most x.den ((u *ℤ pos z) +ℤ (pos d *ℤ w)) ((pos q *ℤ n) *ℤ pos z) (omega (arith, ints)) bound in
    let l : (u *ℤ (pos z *ℤ x.den)) +ℤ ((pos d *ℤ x.num) *ℤ pos 1) ≡ (u *ℤ (pos z *ℤ x.den)) +ℤ (pos d *ℤ x.num) =
    ring (u ∷ pos z ∷ x.den ∷ pos d ∷ x.num ∷ []) ((var 0 ⊗ (var 1 ⊗ var 2)) ⊕ ((var 3 ⊗ var 4) ⊗ lit (pos 1))) ((var 0 ⊗ (var 1 ⊗ var 2)) ⊕ (var 3 ⊗ var 4)) refl in
    let m : x.den *ℤ ((u *ℤ pos z) +ℤ (pos d *ℤ w)) ≡ (u *ℤ (pos z *ℤ x.den)) +ℤ (pos d *ℤ (w *ℤ x.den)) =
    ring (u ∷ pos z ∷ x.den ∷ pos d ∷ w ∷ []) (var 2 ⊗ ((var 0 ⊗ var 1) ⊕ (var 3 ⊗ var 4))) ((var 0 ⊗ (var 1 ⊗ var 2)) ⊕ (var 3 ⊗ (var 4 ⊗ var 2))) refl in
    let r : n *ℤ (pos q *ℤ (pos 1 *ℤ (pos z *ℤ x.den))) ≡ x.den *ℤ ((pos q *ℤ n) *ℤ pos z) =
    ring (n ∷ pos q ∷ pos z ∷ x.den ∷ []) (var 0 ⊗ (var 1 ⊗ (lit (pos 1) ⊗ (var 2 ⊗ var 3)))) (var 3 ⊗ ((var 1 ⊗ var 0) ⊗ var 2)) refl in
    let one : pos 1 *ℤ (pos z *ℤ x.den) ≡ pos z *ℤ x.den = ring (pos z ∷ x.den ∷ []) (lit (pos 1) ⊗ (var 0 ⊗ var 1)) (var 0 ⊗ var 1) refl in
    record {
      positive = product_above_zero (pos q) (pos 1 *ℤ (pos z *ℤ x.den)) (omega (arith, ints)) (rw one zd);
      at_most = rw (l, r) (omega (arith, ints, a, b, m));
    }

q_positive : (g : DynamicGame) (i : ℕ) → IsGame g → i < g.players → 0 < g.q
q_positive g i ok player = omega (arith, ok.discounts_below i player)

mutual
  pub plan_at_most : (g : DynamicGame) (c : Correspondence) (i : ℕ) → IsGame g → IsSelfGenerating g c → i < g.players → (s k : ℕ) → s < states g → k < length (entries_of c s) →
      (plan : DevPlan) → Fits g c i s k plan → IsAtMost (worth g c i s k plan) (part (entry_at c s k).point i)
  plan_at_most g c i ok self player s k state within Stop fits = whole_at_most (part (entry_at c s k).point i)
  plan_at_most g c i ok self player s k state within (Play' b shape plans) fits =
      let e : Entry = entry_at c s k in
      let f : Follows g c s (entry_at c s k) i b (outcomes_after g s (entry_at c s k) i b) = follows g c s (entry_at c s k) i b ok state (self.generated s k state within) player fits.0 in
      play_at_most g.q (slice_index g.discounts i) (total_weight (outcomes_after g s (entry_at c s k) i b)) (now_of g c s (entry_at c s k) i b)
      (weighted_part (entries_of c (state_after g s (entry_at c s k) i b)) i (outcomes_after g s (entry_at c s k) i b)) (part (entry_at c s k).point i)
      (worth_of_each g c i (state_after g s (entry_at c s k) i b) (outcomes_after g s (entry_at c s k) i b) plans)
      (q_positive g i ok player) f.weight
      (each_at_most g c i ok self player (state_after g s (entry_at c s k) i b) f.next (outcomes_after g s (entry_at c s k) i b) f.known plans fits.1) f.bound

  each_at_most : (g : DynamicGame) (c : Correspondence) (i : ℕ) → IsGame g → IsSelfGenerating g c → i < g.players → (t : ℕ) → t < states g → (os : List (ℕ × ℕ)) →
      ((j : ℕ) → j < length os → (get_or os j (0, 0)).0 < length (entries_of c t)) → {m : _} (plans : Row_of-DevPlan m) → FitEach g c i t os plans →
      IsAtMost (worth_of_each g c i t os plans) (weighted_part (entries_of c t) i os)
  each_at_most g c i ok self player t state [] known end_of-DevPlan fits = whole_at_most (pos 0)
  each_at_most g c i ok self player t state [] known (more_of-DevPlan plan plans) fits = absurd fits
  each_at_most g c i ok self player t state (o ∷ os) known end_of-DevPlan fits = absurd fits
  each_at_most g c i ok self player t state (o ∷ os) known (more_of-DevPlan plan plans) fits =
      sum_at_most (pos o.1) (part (entry_at c t o.0).point i) (weighted_part (entries_of c t) i os) (worth g c i t o.0 plan) (worth_of_each g c i t os plans)
      (omega (arith, ints))
      (plan_at_most g c i ok self player t o.0 state (known 0 (omega arith)) plan fits.0)
      (each_at_most g c i ok self player t state os (λ j h. known (suc j) (omega arith)) plans fits.1)
