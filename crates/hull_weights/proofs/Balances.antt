-- When arrows cancel.
use Rattle.std.proofs.Common.{◌≡◌, ℕ, ◌<◌, ◌≢◌, refl, ap, ◌∙◌, inl, inr, arith}
use Rattle.std.specs.Prelude.{ℤ, pos, ◌+ℤ◌, ◌*ℤ◌, ◌<ℤ◌, neg_ℤ}
use Rattle.std.proofs.lemmas.Int.{ints}
use Rattle.hull_weights.specs.declared.arrow.Arrow.{Arrow}
use Rattle.hull_weights.specs.declared.cone.Cone.TheVariants.{Ray, Wedge}
use Rattle.hull_weights.specs.Cone.{turn, ahead, IsBalance}
use Rattle.hull_weights.proofs.Sizes.{IsWeight}
use Rattle.hull_weights.proofs.Plane.{wedge_cancels_x, wedge_cancels_y, ray_cancels_x, ray_cancels_y}

counts : (weight : ℕ) (z : ℤ) → pos weight ≡ z → pos 0 <ℤ z → 0 < weight
counts weight z e h = omega (arith, ints)

three : (x y z x' y' z' a b c : ℤ) → x ≡ x' → y ≡ y' → z ≡ z' → x' *ℤ a +ℤ y' *ℤ b +ℤ z' *ℤ c ≡ pos 0 → x *ℤ a +ℤ y *ℤ b +ℤ z *ℤ c ≡ pos 0
three x y z x' y' z' a b c e f g sum =
    ap (λ n. n *ℤ a +ℤ y *ℤ b +ℤ z *ℤ c) e ∙ ap (λ n. x' *ℤ a +ℤ n *ℤ b +ℤ z *ℤ c) f ∙ ap (λ n. x' *ℤ a +ℤ y' *ℤ b +ℤ n *ℤ c) g ∙ sum

pub ray_balance : (only arrow : Arrow) (first last : ℕ) → only.index < arrow.index → pos 0 <ℤ ahead only only.x only.y → turn only arrow.x arrow.y ≡ pos 0 → IsWeight first (neg_ℤ (ahead only arrow.x arrow.y)) → IsWeight last (ahead only only.x only.y) → IsBalance (Ray only) arrow (record { first = only; second = only; last = arrow; first_weight = first; second_weight = 0; last_weight = last })
ray_balance only arrow first last earlier proper straight w0 w2 = record {
  ordered = record {
    last_counts = counts last _ w2.value proper;
    first_before = λ h. earlier;
    second_before = λ h. earlier;
    apart = λ h k. absurd (omega arith);
    first_small = w0.small;
    second_small = omega arith;
    last_small = w2.small;
  };
  first_known = inr refl;
  second_known = inr refl;
  last_is = refl;
  cancels_x = three _ (pos 0) _ _ (pos 0) _ only.x only.x arrow.x w0.value refl w2.value (ray_cancels_x only.x only.y arrow.x arrow.y straight);
  cancels_y = three _ (pos 0) _ _ (pos 0) _ only.y only.y arrow.y w0.value refl w2.value (ray_cancels_y only.x only.y arrow.x arrow.y straight);
}

pub wedge_balance : (right left arrow : Arrow) (first second last : ℕ) → right.index < arrow.index → left.index < arrow.index → right.index ≢ left.index → pos 0 <ℤ turn right left.x left.y → IsWeight first (turn left arrow.x arrow.y) → IsWeight second (neg_ℤ (turn right arrow.x arrow.y)) → IsWeight last (turn right left.x left.y) → IsBalance (Wedge right left) arrow (record { first = right; second = left; last = arrow; first_weight = first; second_weight = second; last_weight = last })
wedge_balance right left arrow first second last right_earlier left_earlier apart proper w0 w1 w2 = record {
  ordered = record {
    last_counts = counts last _ w2.value proper;
    first_before = λ h. right_earlier;
    second_before = λ h. left_earlier;
    apart = λ h k. apart;
    first_small = w0.small;
    second_small = w1.small;
    last_small = w2.small;
  };
  first_known = inr (inl refl);
  second_known = inr (inr refl);
  last_is = refl;
  cancels_x = three _ _ _ _ _ _ right.x left.x arrow.x w0.value w1.value w2.value (wedge_cancels_x right.x right.y left.x left.y arrow.x arrow.y);
  cancels_y = three _ _ _ _ _ _ right.y left.y arrow.y w0.value w1.value w2.value (wedge_cancels_y right.x right.y left.x left.y arrow.x arrow.y);
}
