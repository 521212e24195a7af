-- The first best profile, profile by profile.
use Rattle.std.proofs.Common.{◌≡◌, inl, inr, ℕ, ◌+◌, ◌^◌, ◌<◌, ◌≤◌, [], ◌∷◌, refl, sym, ◌∙◌, ap, subst, arith, rules, lit<, to_z, of_z, FitsSigned}
use Rattle.std.specs.Prelude.{Bool, true, false, not, ℤ, pos, negsuc, IsTrue, ◌-ℤ◌, ◌*ℤ◌, ◌≤ℤ◌, ◌<ℤ◌, Option, Some, None, IfSome, IfNone}
use Rattle.std.specs.Int.{w64, w128}
use Rattle.std.specs.Int.Signed.{lt_z}
use Rattle.std.specs.Int.RustNames.{unsigned_abs}
use Rattle.std.proofs.lemmas.Int.{ints, by_lt_z, fits_signed_from_abs, to_z-of_z}
use Rattle.std.proofs.lemmas.Bool.{cases_eq}
use Rattle.exact_algebra.specs.Quotients.{IsCeiling}
use Rattle.exact_algebra.specs.Poly.{var, lit, ◌⊗◌}
use Rattle.exact_algebra.proofs.Normal.{ring}
use Rattle.exact_algebra.proofs.Order.{abs_difference, abs_within, at_most_trans, at_most_below_trans, at_most_from_times, below_from_times, times_at_most, times_below, positive_at_least_zero}
use Rattle.exact_algebra.proofs.Fits.{product_is}
use Rattle.level_table.specs.Problem.{Problem}
use Rattle.level_table.specs.Levels.{Levels}
use Rattle.game_model.specs.Game.{counts, profile_count}
use Rattle.level_table.specs.declared.level.Level.TheVariants.{At}
use Rattle.level_table.specs.Operator.{Fractions, Admissible, HasAdmissible, IsFirstLargest, IsRowLevel, value, value_unit}
use Rattle.pay_frac.specs.Ratio.{Ratio, IsLowest, Equals}
use Rattle.set_operator.specs.declared.best.Best.{Best}
use Rattle.level_table.specs.Reasons.{AreKnown}
use Rattle.set_operator.specs.declared.boxes.ProfileBox.{ProfileBox}
use Rattle.set_operator.specs.declared.row.RowAnswer.{RowAnswer}
use Rattle.set_operator.specs.declared.row.RowAnswer.TheVariants.{Level as LevelAnswer, EmptyState}
use Rattle.set_operator.specs.Answers.{IsLevelAnswer, IsRowAnswer}
use Rattle.set_operator.specs.Boxes.{IsBoxOf, point_of}
use Rattle.set_operator.specs.Prepared.{IsBoxAt}
use Rattle.set_operator.specs.Search.{IsBestOf, HasNoneAbove, IsCeilingOf, IsEarliest, IsLargestBelow, IsLargestSoFar, IsLeader, IsMost, IsReached, IsSmallBest}

weak : (a b : ℤ) → a <ℤ b → a ≤ℤ b
weak a b h = omega (arith, ints)

-- x/d is at most v/e, and v/e is at most w/f
pub cross_trans : (x d v e w f : ℤ) → pos 0 <ℤ d → pos 0 <ℤ e → pos 0 <ℤ f → (x *ℤ e) ≤ℤ (v *ℤ d) → (v *ℤ f) ≤ℤ (w *ℤ e) → (x *ℤ f) ≤ℤ (w *ℤ d)
cross_trans x d v e w f pd pe pf h k =
    let a : (f *ℤ (x *ℤ e)) ≤ℤ (f *ℤ (v *ℤ d)) = times_at_most f (x *ℤ e) (v *ℤ d) (positive_at_least_zero f pf) h in
    let b : (d *ℤ (v *ℤ f)) ≤ℤ (d *ℤ (w *ℤ e)) = times_at_most d (v *ℤ f) (w *ℤ e) (positive_at_least_zero d pd) k in
    let left : f *ℤ (x *ℤ e) ≡ e *ℤ (x *ℤ f) = ring (f ∷ x ∷ e ∷ []) (var 0 ⊗ (var 1 ⊗ var 2)) (var 2 ⊗ (var 1 ⊗ var 0)) refl in
    let mid : f *ℤ (v *ℤ d) ≡ d *ℤ (v *ℤ f) = ring (f ∷ v ∷ d ∷ []) (var 0 ⊗ (var 1 ⊗ var 2)) (var 2 ⊗ (var 1 ⊗ var 0)) refl in
    let right : d *ℤ (w *ℤ e) ≡ e *ℤ (w *ℤ d) = ring (d ∷ w ∷ e ∷ []) (var 0 ⊗ (var 1 ⊗ var 2)) (var 2 ⊗ (var 1 ⊗ var 0)) refl in
    at_most_from_times e (x *ℤ f) (w *ℤ d) pe (at_most_trans (e *ℤ (x *ℤ f)) (d *ℤ (v *ℤ f)) (e *ℤ (w *ℤ d)) (rw (← left, ← mid) a) (rw (← right) b))

-- x/d is at most v/e, and v/e is less than w/f
pub cross_below : (x d v e w f : ℤ) → pos 0 <ℤ d → pos 0 <ℤ e → pos 0 <ℤ f → (x *ℤ e) ≤ℤ (v *ℤ d) → (v *ℤ f) <ℤ (w *ℤ e) → (x *ℤ f) <ℤ (w *ℤ d)
cross_below x d v e w f pd pe pf h k =
    let a : (f *ℤ (x *ℤ e)) ≤ℤ (f *ℤ (v *ℤ d)) = times_at_most f (x *ℤ e) (v *ℤ d) (positive_at_least_zero f pf) h in
    let b : (d *ℤ (v *ℤ f)) <ℤ (d *ℤ (w *ℤ e)) = times_below d (v *ℤ f) (w *ℤ e) pd k in
    let left : f *ℤ (x *ℤ e) ≡ e *ℤ (x *ℤ f) = ring (f ∷ x ∷ e ∷ []) (var 0 ⊗ (var 1 ⊗ var 2)) (var 2 ⊗ (var 1 ⊗ var 0)) refl in
    let mid : f *ℤ (v *ℤ d) ≡ d *ℤ (v *ℤ f) = ring (f ∷ v ∷ d ∷ []) (var 0 ⊗ (var 1 ⊗ var 2)) (var 2 ⊗ (var 1 ⊗ var 0)) refl in
    let right : d *ℤ (w *ℤ e) ≡ e *ℤ (w *ℤ d) = ring (d ∷ w ∷ e ∷ []) (var 0 ⊗ (var 1 ⊗ var 2)) (var 2 ⊗ (var 1 ⊗ var 0)) refl in
    below_from_times e (x *ℤ f) (w *ℤ d) (positive_at_least_zero e pe) (at_most_below_trans (e *ℤ (x *ℤ f)) (d *ℤ (v *ℤ f)) (e *ℤ (w *ℤ d)) (rw (← left, ← mid) a) (rw (← right) b))

-- ---- one profile more
pub so_far_skip : (p : Problem) (t : Levels) (s k n : ℕ) (before : Option Best) → IsLargestSoFar p t s k n before → ((y : Fractions) → Admissible p t s n y → ⊥) → IsLargestSoFar p t s k (n + 1) before
so_far_skip p t s k n None h none = λ b y below adm. elim (cases_eq n b) [
  | inl same ↦ none y (subst (λ m. Admissible p t s m y) (sym same) adm)
  | inr other ↦ h b y (omega arith) adm
]
so_far_skip p t s k n (Some best) h none = record {
  known = h.known;
  best_of = h.best_of;
  largest = λ b y below adm. elim (cases_eq n b) [
    | inl same ↦ absurd (none y (subst (λ m. Admissible p t s m y) (sym same) adm))
    | inr other ↦ h.largest b y (omega arith) adm
  ];
}

pub so_far_first : (p : Problem) (t : Levels) (s k n : ℕ) (here : Best) → n < profile_count (counts p.game s) → IsLargestSoFar p t s k n None → IsBestOf p t s k n here → IsLargestBelow p t s k (n + 1) here
so_far_first p t s k n here within none h = record {
  known = omega (arith, h.profile_is);
  best_of = subst (λ a. IsBestOf p t s k a here) (sym h.profile_is) h;
  largest = λ b y below adm. elim (cases_eq n b) [
    | inl same ↦ subst (λ m. (value p s m k y *ℤ here.point.den) ≤ℤ (here.value *ℤ y.denominator)) same (h.largest y (subst (λ m. Admissible p t s m y) (sym same) adm))
    | inr other ↦ absurd (none b y (omega arith) adm)
  ];
}

pub first_is_earliest : (p : Problem) (t : Levels) (s k n : ℕ) (here : Best) → IsLargestSoFar p t s k n None → IsBestOf p t s k n here → IsEarliest p t s k (Some here)
first_is_earliest p t s k n here none h b y below adm = absurd (none b y (omega (arith, h.profile_is)) adm)

-- a profile none of whose values is above the best
so_far_keep : (p : Problem) (t : Levels) (s k n : ℕ) (best : Best) → IsLargestBelow p t s k n best
    → ((y : Fractions) → Admissible p t s n y → (value p s n k y *ℤ best.point.den) ≤ℤ (best.value *ℤ y.denominator)) → IsLargestBelow p t s k (n + 1) best
so_far_keep p t s k n best h least = record {
  known = h.known;
  best_of = h.best_of;
  largest = λ b y below adm. elim (cases_eq n b) [
    | inl same ↦ subst (λ m. (value p s m k y *ℤ best.point.den) ≤ℤ (best.value *ℤ y.denominator)) same (least y (subst (λ m. Admissible p t s m y) (sym same) adm))
    | inr other ↦ h.largest b y (omega arith) adm
  ];
}

-- a bound that is at most a best
pub none_above : (p : Problem) (t : Levels) (s k a : ℕ) (best : Best) (most : ℤ) → IsSmallBest best → IsMost p t s k a most → (most *ℤ best.point.den) ≤ℤ (best.value *ℤ pos 1) → HasNoneAbove p t s k a best
none_above p t s k a best most small bound low y adm =
    let one : value p s a k y *ℤ pos 1 ≡ value p s a k y = omega (arith, ints) in
    cross_trans (value p s a k y) y.denominator most (pos 1) best.value best.point.den adm.positive (omega (arith, ints)) small.positive
    (rw one (bound y adm)) low

pub so_far_none_above : (p : Problem) (t : Levels) (s k n : ℕ) (found : ProfileBox) (best : Best) → IsLargestBelow p t s k n best → found.state ≡ s → found.profile ≡ n → HasNoneAbove p t found.state k found.profile best
    → IsLargestBelow p t s k (n + 1) best
so_far_none_above p t s k n found best h state profile none =
    so_far_keep p t s k n best h (subst (λ a. HasNoneAbove p t s k a best) profile (subst (λ x. HasNoneAbove p t x k found.profile best) state none))

pub so_far_lower : (p : Problem) (t : Levels) (s k n : ℕ) (best here : Best) → IsLargestBelow p t s k n best → IsBestOf p t s k n here → (here.value *ℤ best.point.den) ≤ℤ (best.value *ℤ here.point.den) → IsLargestBelow p t s k (n + 1) best
so_far_lower p t s k n best here h new low =
    so_far_keep p t s k n best h (λ y adm.
    cross_trans (value p s n k y) y.denominator here.value here.point.den best.value best.point.den adm.positive new.small.positive h.best_of.small.positive (new.largest y adm) low)

pub greater_is_earliest : (p : Problem) (t : Levels) (s k n : ℕ) (best here : Best) → IsLargestBelow p t s k n best → IsBestOf p t s k n here → (best.value *ℤ here.point.den) <ℤ (here.value *ℤ best.point.den)
    → (b : ℕ) (y : Fractions) → b < n → Admissible p t s b y → (value p s b k y *ℤ here.point.den) <ℤ (here.value *ℤ y.denominator)
greater_is_earliest p t s k n best here h new greater b y below adm =
    cross_below (value p s b k y) y.denominator best.value best.point.den here.value here.point.den adm.positive h.best_of.small.positive new.small.positive (h.largest b y below adm) greater

pub so_far_greater : (p : Problem) (t : Levels) (s k n : ℕ) (best here : Best) → n < profile_count (counts p.game s) → IsLargestBelow p t s k n best → IsBestOf p t s k n here → (best.value *ℤ here.point.den) <ℤ (here.value *ℤ best.point.den) → IsLargestBelow p t s k (n + 1) here
so_far_greater p t s k n best here within h new greater = record {
  known = omega (arith, new.profile_is);
  best_of = subst (λ a. IsBestOf p t s k a here) (sym new.profile_is) new;
  largest = λ b y below adm. elim (cases_eq n b) [
    | inl same ↦ subst (λ m. (value p s m k y *ℤ here.point.den) ≤ℤ (here.value *ℤ y.denominator)) same (new.largest y (subst (λ m. Admissible p t s m y) (sym same) adm))
    | inr other ↦ weak (value p s b k y *ℤ here.point.den) (here.value *ℤ y.denominator) (greater_is_earliest p t s k n best here h new greater b y (omega arith) adm)
  ];
}

-- the first profile that admits something
pub so_far_start : (p : Problem) (t : Levels) (s k n : ℕ) (found : Option Best) → n < profile_count (counts p.game s) → IsLargestSoFar p t s k n None → IfSome found (IsBestOf p t s k n)
    → IfNone found ((y : Fractions) → Admissible p t s n y → ⊥) → IsLargestSoFar p t s k (n + 1) found
so_far_start p t s k n None within none some nothing = so_far_skip p t s k n None none nothing
so_far_start p t s k n (Some here) within none some nothing = so_far_first p t s k n here within none some

pub start_is_earliest : (p : Problem) (t : Levels) (s k n : ℕ) (found : Option Best) → IsLargestSoFar p t s k n None → IfSome found (IsBestOf p t s k n) → IsEarliest p t s k found
start_is_earliest p t s k n None none some = tt
start_is_earliest p t s k n (Some here) none some = first_is_earliest p t s k n here none some

pub admissible_known : (p : Problem) (t : Levels) (s a : ℕ) (y : Fractions) → Admissible p t s a y → AreKnown p t s a
admissible_known p t s a y h = record { next = h.next_known; reached_states = λ i b deviation k dir. h.reached_known i b k deviation dir }

pub unknown_admits_nothing : (p : Problem) (t : Levels) (s a : ℕ) (program : Option ProfileBox) → program ≡ None → IsBoxAt p t s a program → (y : Fractions) → Admissible p t s a y → ⊥
unknown_admits_nothing p t s a None e h y adm = h (admissible_known p t s a y adm)
unknown_admits_nothing p t s a (Some b) e h y adm = absurd (cc)

-- the box of a profile that has one
pub box_there : (p : Problem) (t : Levels) (s a : ℕ) (program : Option ProfileBox) (b : ProfileBox) → program ≡ Some b → IsBoxAt p t s a program → (b.state ≡ s) × (b.profile ≡ a) × IsBoxOf p t b
box_there p t s a program b e h = subst (λ o. IsBoxAt p t s a o) e h

pub not_below : (a b : ℤ) → (a <ℤ b → ⊥) → b ≤ℤ a
not_below a b h = by_lt_z a b (λ less. absurd (h less)) (λ least. least)

-- a number of this size comes back from its bits
pub kept_103 : (x : ℤ) → unsigned_abs x ≤ 2 ^ 103 → to_z w128 (of_z w128 x) ≡ x
kept_103 x h = to_z-of_z w128 x (fits_signed_from_abs w128 x (omega arith))

pub kept_80 : (x : ℤ) → unsigned_abs x ≤ 2 ^ 80 → to_z w128 (of_z w128 x) ≡ x
kept_80 x h = kept_103 x (omega arith)

pub kept_den : (x : ℤ) → pos 0 <ℤ x → x ≤ℤ pos (2 ^ 20) → to_z w128 (of_z w128 x) ≡ x
kept_den x positive small = kept_103 x (abs_within x (2 ^ 103) (omega (arith, ints)) (omega (arith, ints)))

pub kept_30 : (x : ℤ) → unsigned_abs x ≤ 2 ^ 30 → to_z w128 (of_z w128 x) ≡ x
kept_30 x h = kept_103 x (omega arith)

-- what the code's quotient is the ceiling of
pub ceiling_by_code : (p : Problem) (best : Best) (unit level : ℤ) → IsSmallBest best → unit ≡ pos p.game.q *ℤ best.point.den → unsigned_abs unit ≤ 2 ^ 30
    → IsCeiling (to_z w128 (of_z w128 best.value)) (to_z w128 (of_z w128 unit)) level → IsCeilingOf p best level
ceiling_by_code p best unit level small is few h =
    subst (λ z. IsCeiling best.value z level) (kept_30 unit few ∙ is) (subst (λ z. IsCeiling z (to_z w128 (of_z w128 unit)) level) (kept_103 best.value small.value_small) h)

-- ---- the answer
-- a value over q that is at most a best, whose value is at most a level
reached_by : (x v level q d e : ℤ) → pos 0 <ℤ d → pos 0 <ℤ e → (x *ℤ e) ≤ℤ (v *ℤ d) → v ≤ℤ (level *ℤ (q *ℤ e)) → x ≤ℤ (level *ℤ (q *ℤ d))
reached_by x v level q d e pd pe h k =
    let one : v *ℤ pos 1 ≡ v = ring (v ∷ []) (var 0 ⊗ lit (pos 1)) (var 0) refl in
    let left : level *ℤ (q *ℤ e) ≡ (level *ℤ q) *ℤ e = ring (level ∷ q ∷ e ∷ []) (var 0 ⊗ (var 1 ⊗ var 2)) ((var 0 ⊗ var 1) ⊗ var 2) refl in
    let right : (level *ℤ q) *ℤ d ≡ level *ℤ (q *ℤ d) = ring (level ∷ q ∷ d ∷ []) ((var 0 ⊗ var 1) ⊗ var 2) (var 0 ⊗ (var 1 ⊗ var 2)) refl in
    let same : x *ℤ pos 1 ≡ x = ring (x ∷ []) (var 0 ⊗ lit (pos 1)) (var 0) refl in
    let most : (v *ℤ pos 1) ≤ℤ ((level *ℤ q) *ℤ e) = rw one (rw left at k) in
    rw (same, right) at (cross_trans x d v e (level *ℤ q) (pos 1) pd pe (omega (arith, ints)) h most)

pub largest_of : (p : Problem) (t : Levels) (s k : ℕ) (best : Best) → IsLargestBelow p t s k (profile_count (counts p.game s)) best → IsEarliest p t s k (Some best) → IsFirstLargest p t s k best.profile (point_of best.point)
largest_of p t s k best h earliest = record {
  known = h.known;
  admissible = h.best_of.admissible;
  largest = λ b z below adm. subst (λ v. (value p s b k z *ℤ best.point.den) ≤ℤ (v *ℤ z.denominator)) (sym h.best_of.here) (h.largest b z below adm);
  first = λ b z below adm. subst (λ v. (value p s b k z *ℤ best.point.den) <ℤ (v *ℤ z.denominator)) (sym h.best_of.here) (earliest b z below adm);
}

pub row_level_of : (p : Problem) (t : Levels) (s k : ℕ) (best : Best) (level : ℤ) → IsBestOf p t s k best.profile best → best.profile < profile_count (counts p.game s)
    → ((b : ℕ) (z : Fractions) → b < profile_count (counts p.game s) → Admissible p t s b z → (value p s b k z *ℤ best.point.den) ≤ℤ (best.value *ℤ z.denominator))
    → IsCeilingOf p best level → IsRowLevel p t s k (At level)
row_level_of p t s k best level h known largest ceiling = (
  λ a z below adm. reached_by (value p s a k z) best.value level (pos p.game.q) z.denominator best.point.den adm.positive h.small.positive (largest a z below adm) ceiling.reaches,
  record {
    profile = best.profile;
    vector = point_of best.point;
    known = known;
    admissible = h.admissible;
    above = subst (λ v. ((level -ℤ pos 1) *ℤ value_unit p (point_of best.point)) <ℤ v) (sym h.here) ceiling.no_less;
  },
)

pub level_answer : (p : Problem) (t : Levels) (s k : ℕ) (best : Best) (level : ℤ) (r : Ratio) → IsLargestBelow p t s k (profile_count (counts p.game s)) best → IsEarliest p t s k (Some best)
    → IsCeilingOf p best level → unsigned_abs level ≤ 2 ^ 62 → IsLowest r → Equals r best.value (pos p.game.q *ℤ best.point.den) → IsLevelAnswer p t s k level best.profile best.point r
level_answer p t s k best level r h earliest ceiling low lowest equal = record {
  level_small = low;
  row_level = row_level_of p t s k best level h.best_of h.known h.largest ceiling;
  first = largest_of p t s k best h earliest;
  reached_lowest = lowest;
  reached_is = subst (λ v. Equals r v (value_unit p (point_of best.point))) (sym h.best_of.here) equal;
  small = record { num_small = h.best_of.small.num_small; den_small = h.best_of.small.den_small };
}

pub answer_by_code : (p : Problem) (t : Levels) (s k : ℕ) (best : Best) (unit level : ℤ) (r : Ratio) → IsLargestBelow p t s k (profile_count (counts p.game s)) best → IsEarliest p t s k (Some best) → unit ≡ pos p.game.q *ℤ best.point.den
    → unsigned_abs unit ≤ 2 ^ 30 → IsCeilingOf p best level → unsigned_abs level ≤ 2 ^ 62 → IsLowest r → Equals r (to_z w128 (of_z w128 best.value)) (to_z w128 (of_z w128 unit)) → IsLevelAnswer p t s k level best.profile best.point r
answer_by_code p t s k best unit level r h earliest is few ceiling low lowest equal =
    level_answer p t s k best level r h earliest ceiling low lowest
    (subst (λ z. Equals r best.value z) (kept_30 unit few ∙ is) (subst (λ z. Equals r z (to_z w128 (of_z w128 unit))) (kept_103 best.value h.best_of.small.value_small) equal))

-- ---- a level that is reached
fits_abs : (x : ℤ) → FitsSigned w64 x → unsigned_abs x ≤ 2 ^ 63
fits_abs (pos n) fits = omega (arith, fits)
fits_abs (negsuc n) fits = omega (arith, fits)

pub lt_test : (a b c d : ℤ) → a ≡ c → b ≡ d → (IsTrue (lt_z a b) → c <ℤ d) × (c <ℤ d → IsTrue (lt_z a b))
lt_test a b c d e f = rw (e, f) (search rules)

level_less_one : (level from : ℤ) → FitsSigned w64 level → from ≡ level → (to_z w128 (of_z w128 from) -ℤ pos 1 ≡ level -ℤ pos 1) × (unsigned_abs (level -ℤ pos 1) ≤ 2 ^ 64)
level_less_one level from fits is =
    let small : unsigned_abs level ≤ 2 ^ 63 = fits_abs level fits in
    let kept : to_z w128 (of_z w128 from) ≡ level = rw is (kept_103 level (omega arith)) in
    (ap (λ z. z -ℤ pos 1) kept, omega (arith, abs_difference level (pos 1) (2 ^ 63) 1 small (omega arith)))

pub reach_by_code : (level from unit : ℤ) → FitsSigned w64 level → from ≡ level → unsigned_abs unit ≤ 2 ^ 30
    → to_z w128 (of_z w128 (to_z w128 (of_z w128 (to_z w128 (of_z w128 from) -ℤ pos 1)) *ℤ to_z w128 (of_z w128 unit))) ≡ (level -ℤ pos 1) *ℤ unit
reach_by_code level from unit fits is few =
    let less = level_less_one level from fits is in
    let one_fits : FitsSigned w128 (level -ℤ pos 1) = fits_signed_from_abs w128 (level -ℤ pos 1) (omega (arith, less.1)) in
    let unit_fits : FitsSigned w128 unit = fits_signed_from_abs w128 unit (omega arith) in
    rw less.0 (product_is w128 (level -ℤ pos 1) unit (2 ^ 64) (2 ^ 30) one_fits unit_fits less.1 few (lit< tt))

pub largest_at : (p : Problem) (t : Levels) (s k n m : ℕ) (best : Option Best) → n ≡ m → IsLargestSoFar p t s k n best → IsLargestSoFar p t s k m best
largest_at p t s k n m best e h = subst (λ j. IsLargestSoFar p t s k j best) e h

pub leader_reaches : (p : Problem) (t : Levels) (s k n : ℕ) (x : ℤ) (before : Option Best) (best : Best) → before ≡ Some best → IsLargestSoFar p t s k n before
    → (((x -ℤ pos 1) *ℤ (pos p.game.q *ℤ best.point.den)) <ℤ best.value) → IsLeader p t s k x best
leader_reaches p t s k n x before best is h above =
    let b : IsLargestBelow p t s k n best = subst (λ o. IsLargestSoFar p t s k n o) is h in
    record { known = b.known; best_of = b.best_of; leads = inr above }

pub leaders : (p : Problem) (t : Levels) (s k n : ℕ) (x : ℤ) (best : Option Best) → n ≡ profile_count (counts p.game s) → IsLargestSoFar p t s k n best → IfSome best (IsLeader p t s k x)
leaders p t s k n x None e h = tt
leaders p t s k n x (Some best) e h = record { known = h.known; best_of = h.best_of; leads = inl (subst (λ j. IsLargestBelow p t s k j best) e h) }

pub no_leader : (p : Problem) (t : Levels) (s k n : ℕ) (best : Option Best) → n ≡ profile_count (counts p.game s) → IsLargestSoFar p t s k n best → IfNone best (IsLargestSoFar p t s k (profile_count (counts p.game s)) None)
no_leader p t s k n None e h = subst (λ j. IsLargestSoFar p t s k j None) e h
no_leader p t s k n (Some best) e h = tt

pub answer_is_empty : (p : Problem) (t : Levels) (s k : ℕ) (answer : RowAnswer) → answer ≡ EmptyState → IsRowAnswer p t s k answer → HasAdmissible p t s → ⊥
answer_is_empty p t s k (LevelAnswer level profile point reached) e h some = absurd (cc)
answer_is_empty p t s k EmptyState e h some = h some.profile some.vector some.known some.admissible

-- a best that reaches the level leads
pub reached_leads : (p : Problem) (t : Levels) (s k n : ℕ) (x : ℤ) (o : Option Best) → IsLargestSoFar p t s k n o → IsReached p x o → IfSome o (IsLeader p t s k x)
reached_leads p t s k n x None h reach = absurd reach
reached_leads p t s k n x (Some best) h reach = leader_reaches p t s k n x (Some best) best refl h reach

pub reached_is_some : (p : Problem) (x : ℤ) (o : Option Best) (X : Type 0) → IsReached p x o → IfNone o X
reached_is_some p x None X reach = absurd reach
reached_is_some p x (Some best) X reach = tt

pub small_so_far : (p : Problem) (t : Levels) (s k n : ℕ) (o : Option Best) → IsLargestSoFar p t s k n o → IfSome o IsSmallBest
small_so_far p t s k n None h = tt
small_so_far p t s k n (Some best) h = h.best_of.small

pub not_both : (b : Bool) → IsTrue b → IsTrue (not b) → ⊥
not_both true h k = absurd (cc)
not_both false h k = absurd (cc)
