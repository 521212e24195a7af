-- Sums and products of parts of arrows fit their type.
use Rattle.std.proofs.Common.{◌≡◌, ℕ, ◌^◌, ◌<◌, ◌≤◌, sym, ap, subst, ◌∙◌, arith}
use Rattle.std.specs.Prelude.{ℤ, pos, ◌+ℤ◌, ◌-ℤ◌, ◌*ℤ◌, ◌≤ℤ◌, ◌<ℤ◌, unsigned_abs, neg_ℤ, true, false}
use Rattle.std.specs.Bool.{passes}
use lib.Signed.{lt_z}
use Rattle.std.proofs.lemmas.Int.{to_z-of_z, fits_signed_from_abs, ints}
use Rattle.std.specs.Int.{w128}
use mir.Val.{SFits, to_z, of_z}
use Rattle.exact_algebra.proofs.Order.{abs_product, abs_sum, abs_difference, abs_neg}

-- a number as the code has it
abbrev pub code : ℤ → ℤ
code z = to_z w128 (of_z w128 z)

pub fits : (z : ℤ) (n : ℕ) → unsigned_abs z ≤ n → n < 2 ^ 127 → SFits w128 z
fits z n small room = fits_signed_from_abs w128 z (omega arith)

pub back : (z : ℤ) (n : ℕ) → unsigned_abs z ≤ n → n < 2 ^ 127 → code z ≡ z
back z n small room = to_z-of_z w128 z (fits z n small room)

pub small_product : (a b : ℤ) → unsigned_abs a ≤ 2 ^ 41 → unsigned_abs b ≤ 2 ^ 41 → unsigned_abs (a *ℤ b) ≤ 2 ^ 82
small_product a b h k = abs_product a b (2 ^ 41) (2 ^ 41) h k

pub product : (a b : ℤ) → unsigned_abs a ≤ 2 ^ 41 → unsigned_abs b ≤ 2 ^ 41 → code (code a *ℤ code b) ≡ a *ℤ b
product a b h k =
    ap (λ z. code (z *ℤ code b)) (back a (2 ^ 41) h (omega arith))
    ∙ ap (λ z. code (a *ℤ z)) (back b (2 ^ 41) k (omega arith))
    ∙ back (a *ℤ b) (2 ^ 82) (small_product a b h k) (omega arith)

pub small_difference : (a b c d : ℤ) → unsigned_abs a ≤ 2 ^ 41 → unsigned_abs b ≤ 2 ^ 41 → unsigned_abs c ≤ 2 ^ 41 → unsigned_abs d ≤ 2 ^ 41 → unsigned_abs (a *ℤ b -ℤ c *ℤ d) ≤ 2 ^ 83
small_difference a b c d h k l m = abs_difference (a *ℤ b) (c *ℤ d) (2 ^ 82) (2 ^ 82) (small_product a b h k) (small_product c d l m)

pub small_sum : (a b c d : ℤ) → unsigned_abs a ≤ 2 ^ 41 → unsigned_abs b ≤ 2 ^ 41 → unsigned_abs c ≤ 2 ^ 41 → unsigned_abs d ≤ 2 ^ 41 → unsigned_abs (a *ℤ b +ℤ c *ℤ d) ≤ 2 ^ 83
small_sum a b c d h k l m = abs_sum (a *ℤ b) (c *ℤ d) (2 ^ 82) (2 ^ 82) (small_product a b h k) (small_product c d l m)

-- what the code computes for a difference and for a sum of two products
pub difference_inside : (a b c d : ℤ) → unsigned_abs a ≤ 2 ^ 41 → unsigned_abs b ≤ 2 ^ 41 → unsigned_abs c ≤ 2 ^ 41 → unsigned_abs d ≤ 2 ^ 41 → code (code a *ℤ code b) -ℤ code (code c *ℤ code d) ≡ a *ℤ b -ℤ c *ℤ d
difference_inside a b c d h k l m =
    ap (λ z. z -ℤ code (code c *ℤ code d)) (product a b h k) ∙ ap (λ z. a *ℤ b -ℤ z) (product c d l m)

pub sum_inside : (a b c d : ℤ) → unsigned_abs a ≤ 2 ^ 41 → unsigned_abs b ≤ 2 ^ 41 → unsigned_abs c ≤ 2 ^ 41 → unsigned_abs d ≤ 2 ^ 41 → code (code a *ℤ code b) +ℤ code (code c *ℤ code d) ≡ a *ℤ b +ℤ c *ℤ d
sum_inside a b c d h k l m =
    ap (λ z. z +ℤ code (code c *ℤ code d)) (product a b h k) ∙ ap (λ z. a *ℤ b +ℤ z) (product c d l m)

-- a number that is small, and that the code computes by way of `inside`
pub fits_inside : (inside z : ℤ) → inside ≡ z → unsigned_abs z ≤ 2 ^ 83 → SFits w128 inside
fits_inside inside z e small = subst (λ (y : ℤ). SFits w128 y) (sym e) (fits z (2 ^ 83) small (omega arith))

pub code_inside : (inside z : ℤ) → inside ≡ z → unsigned_abs z ≤ 2 ^ 83 → code inside ≡ z
code_inside inside z e small = ap code e ∙ back z (2 ^ 83) small (omega arith)

pub small_inside : (inside z : ℤ) → inside ≡ z → unsigned_abs z ≤ 2 ^ 83 → unsigned_abs (code inside) ≤ 2 ^ 83
small_inside inside z e small = subst (λ (y : ℤ). unsigned_abs y ≤ 2 ^ 83) (sym (code_inside inside z e small)) small

pub pos_abs : (z : ℤ) → pos 0 ≤ℤ z → pos (unsigned_abs z) ≡ z
pos_abs z h = omega (arith, ints)

pub neg_abs : (z : ℤ) → z ≤ℤ pos 0 → pos (unsigned_abs z) ≡ neg_ℤ z
neg_abs z h = omega (arith, ints)

pub part_difference : (a b : ℤ) → unsigned_abs a ≤ 2 ^ 40 → unsigned_abs b ≤ 2 ^ 40 → code (code a -ℤ code b) ≡ a -ℤ b
part_difference a b h k =
    ap (λ z. code (z -ℤ code b)) (back a (2 ^ 40) h (omega arith))
    ∙ ap (λ z. code (a -ℤ z)) (back b (2 ^ 40) k (omega arith))
    ∙ back (a -ℤ b) (2 ^ 41) (abs_difference a b (2 ^ 40) (2 ^ 40) h k) (omega arith)

pub arrow_difference : (a b : ℤ) → unsigned_abs a ≤ 2 ^ 41 → unsigned_abs b ≤ 2 ^ 41 → code (code a -ℤ code b) ≡ a -ℤ b
arrow_difference a b h k =
    ap (λ z. code (z -ℤ code b)) (back a (2 ^ 41) h (omega arith))
    ∙ ap (λ z. code (a -ℤ z)) (back b (2 ^ 41) k (omega arith))
    ∙ back (a -ℤ b) (2 ^ 42) (abs_difference a b (2 ^ 41) (2 ^ 41) h k) (omega arith)

pub arrow_difference_small : (a b : ℤ) → unsigned_abs a ≤ 2 ^ 41 → unsigned_abs b ≤ 2 ^ 41 → unsigned_abs (code (code a -ℤ code b)) ≤ 2 ^ 42
arrow_difference_small a b h k =
    subst (λ (z : ℤ). unsigned_abs z ≤ 2 ^ 42) (sym (arrow_difference a b h k)) (abs_difference a b (2 ^ 41) (2 ^ 41) h k)

from_zero : (a : ℤ) → pos 0 -ℤ a ≡ neg_ℤ a
from_zero a = omega (arith, ints)

pub arrow_neg : (a : ℤ) → unsigned_abs a ≤ 2 ^ 41 → code (pos 0 -ℤ code a) ≡ neg_ℤ a
arrow_neg a h =
    ap (λ z. code (pos 0 -ℤ z)) (back a (2 ^ 41) h (omega arith)) ∙ ap code (from_zero a)
    ∙ back (neg_ℤ a) (2 ^ 41) (abs_neg a (2 ^ 41) h) (omega arith)

pub arrow_neg_small : (a : ℤ) → unsigned_abs a ≤ 2 ^ 41 → unsigned_abs (code (pos 0 -ℤ code a)) ≤ 2 ^ 42
arrow_neg_small a h =
    let small : unsigned_abs (neg_ℤ a) ≤ 2 ^ 41 = abs_neg a (2 ^ 41) h in
    subst (λ (z : ℤ). unsigned_abs z ≤ 2 ^ 42) (sym (arrow_neg a h)) (omega arith)

-- ---- what the code's tests say of a small number r that is z
pub is_above : (r z : ℤ) → r ≡ z → unsigned_abs r ≤ 2 ^ 83 → lt_z (pos 0) (code r) ≡ true → pos 0 <ℤ z
is_above r z e small test = subst (λ (y : ℤ). pos 0 <ℤ y) (back r (2 ^ 83) small (omega arith) ∙ e) (record { lt = passes (lt_z (pos 0) (code r)) test })

pub is_below : (r z : ℤ) → r ≡ z → unsigned_abs r ≤ 2 ^ 83 → lt_z (code r) (pos 0) ≡ true → z <ℤ pos 0
is_below r z e small test = subst (λ (y : ℤ). y <ℤ pos 0) (back r (2 ^ 83) small (omega arith) ∙ e) (record { lt = passes (lt_z (code r) (pos 0)) test })

pub not_above : (r z : ℤ) → r ≡ z → unsigned_abs r ≤ 2 ^ 83 → lt_z (pos 0) (code r) ≡ false → z ≤ℤ pos 0
not_above r z e small test =
    let plain : code r ≡ z = back r (2 ^ 83) small (omega arith) ∙ e in
    let sure : lt_z (pos 0) z ≡ false = subst (λ (y : ℤ). lt_z (pos 0) y ≡ false) plain test in
    omega (arith, ints)

pub not_below : (r z : ℤ) → r ≡ z → unsigned_abs r ≤ 2 ^ 83 → lt_z (code r) (pos 0) ≡ false → pos 0 ≤ℤ z
not_below r z e small test =
    let plain : code r ≡ z = back r (2 ^ 83) small (omega arith) ∙ e in
    let sure : lt_z z (pos 0) ≡ false = subst (λ (y : ℤ). lt_z y (pos 0) ≡ false) plain test in
    omega (arith, ints)

-- ---- weights: the absolute value of a small number r that is z
pub record IsWeight (weight : ℕ) (z : ℤ) : Type 0 where
  pub value : pos weight ≡ z
  pub small : weight ≤ 2 ^ 83

pub weight_above : (weight : ℕ) (r z : ℤ) → weight ≡ unsigned_abs (code r) → r ≡ z → unsigned_abs r ≤ 2 ^ 83 → pos 0 ≤ℤ z → IsWeight weight z
weight_above weight r z is e small least =
    let plain : code r ≡ r = back r (2 ^ 83) small (omega arith) in
    let abs : weight ≡ unsigned_abs r = is ∙ ap unsigned_abs plain in
    record { value = ap pos (abs ∙ ap unsigned_abs e) ∙ pos_abs z least; small = omega arith }

pub weight_below : (weight : ℕ) (r z : ℤ) → weight ≡ unsigned_abs (code r) → r ≡ z → unsigned_abs r ≤ 2 ^ 83 → z ≤ℤ pos 0 → IsWeight weight (neg_ℤ z)
weight_below weight r z is e small most =
    let plain : code r ≡ r = back r (2 ^ 83) small (omega arith) in
    let abs : weight ≡ unsigned_abs r = is ∙ ap unsigned_abs plain in
    record { value = ap pos (abs ∙ ap unsigned_abs e) ∙ neg_abs z most; small = omega arith }

pub straight : (z : ℤ) → z ≤ℤ pos 0 → pos 0 ≤ℤ z → z ≡ pos 0
straight z h k = omega (arith, ints)

pub at_most : (z : ℤ) → z <ℤ pos 0 → z ≤ℤ pos 0
at_most z h = omega (arith, ints)

pub apart_right : (m r : ℤ) → m ≤ℤ pos 0 → pos 0 <ℤ r → m <ℤ r
apart_right m r h k = omega (arith, ints)

pub apart_left : (m r : ℤ) → m <ℤ pos 0 → pos 0 ≤ℤ r → m <ℤ r
apart_left m r h k = omega (arith, ints)
