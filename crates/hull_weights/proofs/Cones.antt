-- How a cone becomes wider.
use Rattle.std.proofs.Common.{◌≡◌, ◌<◌, ◌≢◌, refl, inl, inr, arith}
use Rattle.std.specs.Prelude.{ℤ, pos, ◌≤ℤ◌, ◌<ℤ◌, neg_ℤ}
use Rattle.std.proofs.lemmas.Int.{ints}
use Rattle.exact_algebra.proofs.Order.{positive_at_least_zero}
use Rattle.hull_weights.specs.declared.arrow.Arrow.{Arrow}
use Rattle.hull_weights.specs.declared.cone.Cone.TheVariants.{Ray, Wedge}
use Rattle.hull_weights.specs.Cone.{turn, ahead, IsWider}
use Rattle.hull_weights.proofs.Plane.{turn_turn, ahead_turn, turn_back, turn_self, wider_right, wider_left, beside_positive, beside_negative}

at_most_self_zero : (z : ℤ) → z ≡ pos 0 → (pos 0 ≤ℤ z) × (z ≤ℤ pos 0)
at_most_self_zero z e = (omega (arith, ints), omega (arith, ints))

negative_at_most : (z : ℤ) → z <ℤ pos 0 → z ≤ℤ pos 0
negative_at_most z h = omega (arith, ints)

negative_below_zero : (z s : ℤ) → z <ℤ pos 0 → s ≡ pos 0 → z <ℤ s
negative_below_zero z s h e = omega (arith, ints)

zero_below_positive : (z s : ℤ) → pos 0 <ℤ z → s ≡ pos 0 → s <ℤ z
zero_below_positive z s h e = omega (arith, ints)

neg_of_positive : (z t : ℤ) → t ≡ neg_ℤ z → pos 0 <ℤ z → t <ℤ pos 0
neg_of_positive z t e h = omega (arith, ints)

neg_of_negative : (z t : ℤ) → t ≡ neg_ℤ z → z <ℤ pos 0 → pos 0 <ℤ t
neg_of_negative z t e h = omega (arith, ints)

-- ---- beside a wedge
pub wedge_keeps : (right left arrow : Arrow) → pos 0 <ℤ turn right left.x left.y → right.index ≢ left.index → pos 0 ≤ℤ turn right arrow.x arrow.y → turn left arrow.x arrow.y ≤ℤ pos 0 → turn left arrow.x arrow.y <ℤ turn right arrow.x arrow.y → IsWider (Wedge right left) arrow (Wedge right left)
wedge_keeps right left arrow proper apart from_right from_left strict = record {
  proper = (proper, apart);
  known = (inr (inl refl), inr (inr refl));
  keeps = λ x y h. h;
  takes = (from_right, from_left, strict);
}

pub wedge_right : (right left arrow : Arrow) → pos 0 <ℤ turn right left.x left.y → left.index < arrow.index → turn right arrow.x arrow.y <ℤ pos 0 → turn left arrow.x arrow.y <ℤ pos 0 → IsWider (Wedge right left) arrow (Wedge arrow left)
wedge_right right left arrow proper earlier from_right from_left =
    let side : pos 0 <ℤ turn arrow left.x left.y = neg_of_negative _ _ (turn_back left.x left.y arrow.x arrow.y) from_left in
    let self : turn arrow arrow.x arrow.y ≡ pos 0 = turn_self arrow.x arrow.y in
    record {
      proper = (side, λ e. omega arith);
      known = (inl refl, inr (inr refl));
      keeps = λ x y h.
          let both = wider_right (turn right left.x left.y) (turn arrow left.x left.y) (turn right arrow.x arrow.y) (turn right x y) (turn left x y) (turn arrow x y) proper side from_right h.0 h.1 h.2
          (turn_turn right.x right.y left.x left.y arrow.x arrow.y x y) in
          (both.0, h.1, both.1);
      takes = ((at_most_self_zero _ self).0, negative_at_most _ from_left, negative_below_zero _ _ from_left self);
    }

pub wedge_left : (right left arrow : Arrow) → pos 0 <ℤ turn right left.x left.y → right.index < arrow.index → pos 0 <ℤ turn right arrow.x arrow.y → pos 0 <ℤ turn left arrow.x arrow.y → IsWider (Wedge right left) arrow (Wedge right arrow)
wedge_left right left arrow proper earlier from_right from_left =
    let side : turn arrow left.x left.y <ℤ pos 0 = neg_of_positive _ _ (turn_back left.x left.y arrow.x arrow.y) from_left in
    let self : turn arrow arrow.x arrow.y ≡ pos 0 = turn_self arrow.x arrow.y in
    record {
      proper = (from_right, λ e. omega arith);
      known = (inr (inl refl), inl refl);
      keeps = λ x y h.
          let both = wider_left (turn right left.x left.y) (turn arrow left.x left.y) (turn right arrow.x arrow.y) (turn right x y) (turn left x y) (turn arrow x y) proper side from_right h.0 h.1 h.2
          (turn_turn right.x right.y left.x left.y arrow.x arrow.y x y) in
          (h.0, both.0, both.1);
      takes = (positive_at_least_zero _ from_right, (at_most_self_zero _ self).1, zero_below_positive _ _ from_right self);
    }

-- ---- beside a ray
pub ray_keeps : (only arrow : Arrow) → pos 0 <ℤ ahead only only.x only.y → turn only arrow.x arrow.y ≡ pos 0 → pos 0 <ℤ ahead only arrow.x arrow.y → IsWider (Ray only) arrow (Ray only)
ray_keeps only arrow proper straight front = record {
  proper = proper;
  known = inr refl;
  keeps = λ x y h. h;
  takes = (straight, front);
}

pub ray_left : (only arrow : Arrow) → pos 0 <ℤ ahead only only.x only.y → only.index < arrow.index → pos 0 <ℤ turn only arrow.x arrow.y → IsWider (Ray only) arrow (Wedge only arrow)
ray_left only arrow proper earlier side =
    let back : turn arrow only.x only.y <ℤ pos 0 = neg_of_positive _ _ (turn_back only.x only.y arrow.x arrow.y) side in
    let self : turn arrow arrow.x arrow.y ≡ pos 0 = turn_self arrow.x arrow.y in
    record {
      proper = (side, λ e. omega arith);
      known = (inr refl, inl refl);
      keeps = λ x y h.
          let below : turn arrow x y <ℤ pos 0 = beside_negative (ahead only only.x only.y) (ahead only x y) (turn arrow only.x only.y) (turn only x y) (ahead arrow only.x only.y) (turn arrow x y) proper h.1 h.0
          (ahead_turn only.x only.y arrow.x arrow.y x y) back in
          ((at_most_self_zero _ h.0).0, negative_at_most _ below, negative_below_zero _ _ below h.0);
      takes = (positive_at_least_zero _ side, (at_most_self_zero _ self).1, zero_below_positive _ _ side self);
    }

pub ray_right : (only arrow : Arrow) → pos 0 <ℤ ahead only only.x only.y → only.index < arrow.index → turn only arrow.x arrow.y <ℤ pos 0 → IsWider (Ray only) arrow (Wedge arrow only)
ray_right only arrow proper earlier side =
    let back : pos 0 <ℤ turn arrow only.x only.y = neg_of_negative _ _ (turn_back only.x only.y arrow.x arrow.y) side in
    let self : turn arrow arrow.x arrow.y ≡ pos 0 = turn_self arrow.x arrow.y in
    record {
      proper = (back, λ e. omega arith);
      known = (inl refl, inr refl);
      keeps = λ x y h.
          let above : pos 0 <ℤ turn arrow x y = beside_positive (ahead only only.x only.y) (ahead only x y) (turn arrow only.x only.y) (turn only x y) (ahead arrow only.x only.y) (turn arrow x y) proper h.1 h.0
          (ahead_turn only.x only.y arrow.x arrow.y x y) back in
          (positive_at_least_zero _ above, (at_most_self_zero _ h.0).1, zero_below_positive _ _ above h.0);
      takes = ((at_most_self_zero _ self).0, negative_at_most _ side, negative_below_zero _ _ side self);
    }
