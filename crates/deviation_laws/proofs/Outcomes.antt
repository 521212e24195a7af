-- One outcome more, and the payoff of a period with what follows, as the program adds them.
use Rattle.std.proofs.Common.{◌≡◌, ℕ, ◌<◌, [], ◌∷◌, Result, refl, ap, ◌∙◌, arith, unsigned_abs, to_z, of_z, FitsSigned, ◌≤◌, ◌^◌}
use Rattle.std.specs.Prelude.{ℤ, pos, ◌+ℤ◌, ◌-ℤ◌, ◌*ℤ◌, ◌<ℤ◌, ◌≤ℤ◌, neg_ℤ}
use Rattle.std.specs.Int.{w64, w128}
use Rattle.std.proofs.lemmas.Int.{ints, fits_signed_from_abs, to_z-of_z}
use Rattle.exact_algebra.proofs.Order.{abs_neg, product_above_zero, positive_is}
use Rattle.game_model.specs.Game.{DynamicGame}
use Rattle.pay_frac.specs.Ratio.{Ratio, IsLowest, IsSmall, Equals}
use Rattle.deviation_laws.specs.declared.gains.GainBeyond.{GainBeyond}
use Rattle.deviation_laws.specs.Fractions.{Fraction, plus, product}
use Rattle.deviation_laws.specs.Gains.{IsFirstBeyond, Answers, discount, weighed}
use Rattle.deviation_laws.specs.Lists.{held, formed_at, formed_then}
use Rattle.deviation_laws.proofs.Values.{Same, IsPositive, same_trans, product_along, plus_along, small_value, beyond_here, KeptAs, last_kept}

not_negative : (z : ℤ) → pos 0 ≤ℤ z → z ≡ pos (unsigned_abs z)
not_negative z h = omega (arith, ints)

pub of_naturals : (f : Ratio) (w total : ℤ) → pos 0 ≤ℤ w → pos 0 <ℤ total → Equals f w total → Equals f (pos (unsigned_abs w)) (pos (unsigned_abs total))
of_naturals f w total h k e = rw (← not_negative w h, ← positive_is total k) e

abbrev pub share_of : ℕ → ℕ → Fraction
share_of w total = record { num = pos w; den = pos total }

pub share_beyond : (n m w total : ℕ) (sum worth share : Ratio) → 0 < total → IsLowest share → Equals share (pos w) (pos total) → (m ≡ n) × (IsSmall share → ⊥) →
    IsFirstBeyond (formed_at n w total (held sum) (held worth)) m
share_beyond n m w total sum worth share some low equal h =
    beyond_here [] ((n, weighed w total (held worth)) ∷ (n, plus (held sum) (weighed w total (held worth))) ∷ []) n m (share_of w total) share (omega (arith, ints)) tt low equal h

-- the share times the worth, in lowest terms
pub part_equal : (w total : ℕ) (share worth part : Ratio) → IsLowest share → IsLowest worth → Equals share (pos w) (pos total) → Equals part (share.num *ℤ worth.num) (share.den *ℤ worth.den) →
    Same (held part) (weighed w total (held worth))
part_equal w total share worth part low low' equal h =
    same_trans (held part) (product (held share) (held worth)) (weighed w total (held worth)) (product_above_zero share.den worth.den low.positive low'.positive) h
    (product_along (held share) (held worth) (share_of w total) (held worth) equal refl)

pub weighed_positive : (w total : ℕ) (x : Fraction) → 0 < total → IsPositive x → IsPositive (weighed w total x)
weighed_positive w total x some p = product_above_zero (pos total) x.den (omega (arith, ints)) p

pub part_beyond : (n m w total : ℕ) (sum worth share part : Ratio) → 0 < total → IsLowest worth → IsLowest share → Equals share (pos w) (pos total) → IsSmall share →
    IsLowest part → Equals part (share.num *ℤ worth.num) (share.den *ℤ worth.den) → (m ≡ n) × (IsSmall part → ⊥) → IsFirstBeyond (formed_at n w total (held sum) (held worth)) m
part_beyond n m w total sum worth share part some low' low equal small low'' h b =
    beyond_here ((n, share_of w total) ∷ []) ((n, plus (held sum) (weighed w total (held worth))) ∷ []) n m (weighed w total (held worth)) part (weighed_positive w total (held worth) some low'.positive)
    (small_value share (share_of w total) low equal small, tt) low'' (part_equal w total share worth part low low' equal h) b

pub sum_kept : (n w total : ℕ) (sum worth share part new : Ratio) (r : Result Ratio GainBeyond) → 0 < total → IsLowest sum → IsLowest worth → IsLowest share → Equals share (pos w) (pos total) → IsSmall share →
    IsLowest part → Equals part (share.num *ℤ worth.num) (share.den *ℤ worth.den) → IsSmall part → IsLowest new → Equals new ((sum.num *ℤ part.den) +ℤ (part.num *ℤ sum.den)) (sum.den *ℤ part.den) → KeptAs new n r →
    Answers (formed_at n w total (held sum) (held worth)) (plus (held sum) (weighed w total (held worth))) r
sum_kept n w total sum worth share part new r some low0 low' low equal small low'' h small' low''' k kept =
    last_kept ((n, share_of w total) ∷ (n, weighed w total (held worth)) ∷ []) n (plus (held sum) (weighed w total (held worth))) new r
    (product_above_zero sum.den (pos total *ℤ worth.den) low0.positive (weighed_positive w total (held worth) some low'.positive))
    (small_value share (share_of w total) low equal small, (small_value part (weighed w total (held worth)) low'' (part_equal w total share worth part low low' equal h) small', tt))
    low'''
    (same_trans (held new) (plus (held sum) (held part)) (plus (held sum) (weighed w total (held worth))) (product_above_zero sum.den part.den low0.positive low''.positive) k
    (plus_along (held sum) (held part) (held sum) (weighed w total (held worth)) refl (part_equal w total share worth part low low' equal h)))
    kept

-- ---- the payoff of a period and the discounted average
pub discount_positive : (g : DynamicGame) (i : ℕ) (x : Fraction) → 0 < g.q → IsPositive x → IsPositive (product (discount g i) x)
discount_positive g i x some p = product_above_zero (pos g.q) x.den (omega (arith, ints)) p

later_equal : (g : DynamicGame) (i : ℕ) (d average later : Ratio) → IsLowest d → IsLowest average → Equals d (discount g i).num (discount g i).den → Equals later (d.num *ℤ average.num) (d.den *ℤ average.den) →
    Same (held later) (product (discount g i) (held average))
later_equal g i d average later low low' equal h =
    same_trans (held later) (product (held d) (held average)) (product (discount g i) (held average)) (product_above_zero d.den average.den low.positive low'.positive) h
    (product_along (held d) (held average) (discount g i) (held average) equal refl)

pub later_beyond : (g : DynamicGame) (i n m : ℕ) (now average d later : Ratio) → 0 < g.q → IsLowest average → IsLowest d → Equals d (discount g i).num (discount g i).den →
    IsLowest later → Equals later (d.num *ℤ average.num) (d.den *ℤ average.den) → (m ≡ n) × (IsSmall later → ⊥) → IsFirstBeyond (formed_then g i n (held now) (held average)) m
later_beyond g i n m now average d later some low' low equal low'' h b =
    beyond_here [] ((n, held now) ∷ (n, plus (held now) (product (discount g i) (held average))) ∷ []) n m (product (discount g i) (held average)) later (discount_positive g i (held average) some low'.positive)
    tt low'' (later_equal g i d average later low low' equal h) b

pub value_kept : (g : DynamicGame) (i n : ℕ) (now average d later new : Ratio) (r : Result Ratio GainBeyond) → 0 < g.q → IsLowest now → IsSmall now → IsLowest average → IsLowest d → Equals d (discount g i).num (discount g i).den →
    IsLowest later → Equals later (d.num *ℤ average.num) (d.den *ℤ average.den) → IsSmall later → IsLowest new → Equals new ((now.num *ℤ later.den) +ℤ (later.num *ℤ now.den)) (now.den *ℤ later.den) → KeptAs new n r →
    Answers (formed_then g i n (held now) (held average)) (plus (held now) (product (discount g i) (held average))) r
value_kept g i n now average d later new r some low0 small0 low' low equal low'' h small low3 k kept =
    last_kept ((n, product (discount g i) (held average)) ∷ (n, held now) ∷ []) n (plus (held now) (product (discount g i) (held average))) new r
    (product_above_zero now.den (pos g.q *ℤ average.den) low0.positive (discount_positive g i (held average) some low'.positive))
    (small_value later (product (discount g i) (held average)) low'' (later_equal g i d average later low low' equal h) small, (small_value now (held now) low0 refl small0, tt))
    low3
    (same_trans (held new) (plus (held now) (held later)) (plus (held now) (product (discount g i) (held average))) (product_above_zero now.den later.den low0.positive low''.positive) k
    (plus_along (held now) (held later) (held now) (product (discount g i) (held average)) refl (later_equal g i d average later low low' equal h)))
    kept

-- a number of the program, read back
pub read_back : (z : ℤ) (n : ℕ) → z ≡ pos n → n ≤ 2 ^ 85 → unsigned_abs (to_z w128 (of_z w128 z)) ≡ n
read_back z n e h =
    let f : FitsSigned w128 z = fits_signed_from_abs w128 z (rw e (omega (arith, h))) in
    rw (to_z-of_z w128 z f) (ap unsigned_abs e)

pub read_part : (z y : ℤ) → z ≡ y → unsigned_abs z ≤ 2 ^ 30 → to_z w64 (of_z w64 z) ≡ y
read_part z y e h =
    let f : FitsSigned w64 z = fits_signed_from_abs w64 z (omega (arith, h)) in
    to_z-of_z w64 z f ∙ e

-- the same of its negative
pub neg_read : (z y : ℤ) → z ≡ y → unsigned_abs z ≤ 2 ^ 30 → to_z w64 (of_z w64 (pos 0 -ℤ to_z w64 (of_z w64 z))) ≡ neg_ℤ y
neg_read z y e h =
    let f : FitsSigned w64 z = fits_signed_from_abs w64 z (omega (arith, h)) in
    let m : pos 0 -ℤ z ≡ neg_ℤ z = omega (arith, ints) in
    let k : unsigned_abs (neg_ℤ z) ≤ 2 ^ 30 = abs_neg z (2 ^ 30) h in
    let j : FitsSigned w64 (neg_ℤ z) = fits_signed_from_abs w64 (neg_ℤ z) (omega (arith, k)) in
    rw (to_z-of_z w64 z f, m, to_z-of_z w64 (neg_ℤ z) j) (ap neg_ℤ e)
