-- Weights divided by their greatest common divisor.
use Rattle.std.proofs.Common.{◌≡◌, ℕ, zero, suc, ◌*◌, ◌/◌, ◌^◌, ◌<◌, ◌≤◌, List, [], ◌∷◌, ◌++◌, length, refl, sym, ap, subst, ◌∙◌, arith, length-append}
use Rattle.std.specs.Prelude.{ℤ, pos, ◌+ℤ◌, ◌*ℤ◌, ◌<ℤ◌, unsigned_abs, All, AllPairs}
use Rattle.std.specs.Int.{◌∣◌}
use Rattle.std.proofs.lemmas.Int.{ints}
use Rattle.std.proofs.lemmas.List.{append-nil}
use Rattle.std.proofs.lemmas.List.Elements.{All-nil, All-cons, All-append}
use Rattle.std.proofs.lemmas.List.Quantifiers.{all_pairs_push}
use Rattle.std.proofs.lemmas.Nat.Gcd.{dvd-zero, le_of_dvd}
use Rattle.std.proofs.Math.Nat.{pos_of_dvd_of_pos, mul-div_cancel', dvd-mul_right, mul_assoc, div-le_self, mul-le-mul_left}
use Rattle.exact_algebra.specs.Poly.{var, lit, ◌⊕◌, ◌⊗◌}
use Rattle.exact_algebra.proofs.Normal.{ring}
use Rattle.hull_weights.specs.Hull.{weighted}
use Rattle.hull_weights.specs.LowestTerms.{IsLowestTerms, item_of}

-- ---- sums over the items
weighted-append : (value : ℕ → ℤ) (xs ys : List (ℕ × ℤ)) → weighted value (xs ++ ys) ≡ weighted value xs +ℤ weighted value ys
weighted-append value [] ys = ring (weighted value ys ∷ []) (var 0) (lit (pos 0) ⊕ var 0) refl
weighted-append value (x ∷ xs) ys =
    ap (λ z. x.1 *ℤ value x.0 +ℤ z) (weighted-append value xs ys)
    ∙ ring (x.1 ∷ value x.0 ∷ weighted value xs ∷ weighted value ys ∷ []) (var 0 ⊗ var 1 ⊕ (var 2 ⊕ var 3)) ((var 0 ⊗ var 1 ⊕ var 2) ⊕ var 3) refl

weighted-item_of : (value : ℕ → ℤ) (i n : ℕ) → weighted value (item_of i n) ≡ pos n *ℤ value i
weighted-item_of value i zero = ring (value i ∷ []) (lit (pos 0)) (lit (pos 0) ⊗ var 0) refl
weighted-item_of value i (suc n) = ring (pos (suc n) ∷ value i ∷ []) (var 0 ⊗ var 1 ⊕ lit (pos 0)) (var 0 ⊗ var 1) refl

abbrev all_items : ℕ → ℕ → ℕ → ℕ → ℕ → ℕ → List (ℕ × ℤ)
all_items i u j v k w = item_of i u ++ item_of j v ++ item_of k w

weighted-all : (value : ℕ → ℤ) (i u j v k w : ℕ) → weighted value (all_items i u j v k w) ≡ pos u *ℤ value i +ℤ pos v *ℤ value j +ℤ pos w *ℤ value k
weighted-all value i u j v k w =
    weighted-append value (item_of i u ++ item_of j v) (item_of k w)
    ∙ ap (λ z. z +ℤ weighted value (item_of k w)) (weighted-append value (item_of i u) (item_of j v))
    ∙ ap (λ z. z +ℤ weighted value (item_of j v) +ℤ weighted value (item_of k w)) (weighted-item_of value i u)
    ∙ ap (λ z. pos u *ℤ value i +ℤ z +ℤ weighted value (item_of k w)) (weighted-item_of value j v)
    ∙ ap (λ z. pos u *ℤ value i +ℤ pos v *ℤ value j +ℤ z) (weighted-item_of value k w)

multiplied : (g u v w a b c : ℤ) → g *ℤ (u *ℤ a +ℤ v *ℤ b +ℤ w *ℤ c) ≡ (g *ℤ u) *ℤ a +ℤ (g *ℤ v) *ℤ b +ℤ (g *ℤ w) *ℤ c
multiplied g u v w a b c =
    ring (g ∷ u ∷ v ∷ w ∷ a ∷ b ∷ c ∷ [])
    (var 0 ⊗ (var 1 ⊗ var 4 ⊕ var 2 ⊗ var 5 ⊕ var 3 ⊗ var 6))
    ((var 0 ⊗ var 1) ⊗ var 4 ⊕ (var 0 ⊗ var 2) ⊗ var 5 ⊕ (var 0 ⊗ var 3) ⊗ var 6) refl

proportional : (value : ℕ → ℤ) (g i u j v k w : ℕ) → pos g *ℤ weighted value (all_items i u j v k w) ≡ pos (g * u) *ℤ value i +ℤ pos (g * v) *ℤ value j +ℤ pos (g * w) *ℤ value k
proportional value g i u j v k w =
    ap (λ z. pos g *ℤ z) (weighted-all value i u j v k w) ∙ multiplied (pos g) (pos u) (pos v) (pos w) (value i) (value j) (value k)

-- ---- what holds of each item
all_item : (P : ℕ × ℤ → Type 0) (i n : ℕ) → (0 < n → P (i, pos n)) → All P (item_of i n)
all_item P i zero h = All-nil P
all_item P i (suc n) h = All-cons P (i, pos (suc n)) [] (h (omega arith)) (All-nil P)

all_three : (P : ℕ × ℤ → Type 0) (i u j v k w : ℕ) → (0 < u → P (i, pos u)) → (0 < v → P (j, pos v)) → (0 < w → P (k, pos w)) → All P (all_items i u j v k w)
all_three P i u j v k w a b c =
    All-append P (item_of i u ++ item_of j v) (item_of k w)
    (All-append P (item_of i u) (item_of j v) (all_item P i u a) (all_item P j v b))
    (all_item P k w c)

all_left : (P : ℕ × ℤ → Type 0) (xs ys : List (ℕ × ℤ)) → All P (xs ++ ys) → All P xs
all_left P [] ys h = All-nil P
all_left P (x ∷ xs) ys h = All-cons P x xs (h 0 x (omega arith)) (all_left P xs ys (λ k d l. h (suc k) d (omega arith)))

all_right : (P : ℕ × ℤ → Type 0) (xs ys : List (ℕ × ℤ)) → All P (xs ++ ys) → All P ys
all_right P [] ys h = h
all_right P (x ∷ xs) ys h = all_right P xs ys (λ k d l. h (suc k) d (omega arith))

divides_item : (d i n : ℕ) → All (λ item. d ∣ unsigned_abs item.1) (item_of i n) → d ∣ n
divides_item d i zero h = dvd-zero d
divides_item d i (suc n) h = h 0 (i, pos (suc n)) (omega arith)

pairs_item : (R : ℕ × ℤ → ℕ × ℤ → Type 0) (xs : List (ℕ × ℤ)) (i n : ℕ) → AllPairs R xs → (0 < n → All (λ x. R x (i, pos n)) xs) → AllPairs R (xs ++ item_of i n)
pairs_item R xs i zero h k = subst (AllPairs R) (sym (append-nil xs)) h
pairs_item R xs i (suc n) h k = all_pairs_push R xs (i, pos (suc n)) h (λ m d l. k (omega arith) m d l)

no_pairs : (R : ℕ × ℤ → ℕ × ℤ → Type 0) → AllPairs R []
no_pairs R = λ i j d h l. absurd (omega arith)

length-item_of : (i n : ℕ) → length (item_of i n) ≤ 1
length-item_of i zero = omega arith
length-item_of i (suc n) = omega arith

-- ---- divisors
divides_multiple : (g d u : ℕ) → d ∣ u → g * d ∣ g * u
divides_multiple g d u h =
    let e : g * d * (u / d) ≡ g * u = mul_assoc g d (u / d) ∙ ap (λ n. g * n) (mul-div_cancel' d h) in
    subst (λ n. g * d ∣ n) e (dvd-mul_right (g * d) (u / d))

two_at_most : (d : ℕ) → 2 ≤ suc (suc d)
two_at_most d = omega arith

one_at_most : (g d : ℕ) → 0 < g → 0 < d → g * d ≤ g → d ≡ 1
one_at_most g zero g_above d_above most = absurd (omega arith)
one_at_most g (suc zero) g_above d_above most = refl
one_at_most g (suc (suc d)) g_above d_above most = absurd (omega (arith, mul-le-mul_left g (two_at_most d)))

one_from_divisor : (g d : ℕ) → 0 < g → 0 < d → g * d ∣ g → d ≡ 1
one_from_divisor g d g_above d_above h = one_at_most g d g_above d_above (le_of_dvd g_above h)

-- ---- the three quotients
pub record IsDivided (g w u : ℕ) : Type 0 where
  pub exact : g * u ≡ w
  pub at_most : u ≤ w

pub divided : (g w : ℕ) → g ∣ w → IsDivided g w (w / g)
divided g w h = record { exact = mul-div_cancel' g h; at_most = div-le_self w g }

above_zero : (n : ℕ) → 0 < n → pos 0 <ℤ pos n
above_zero n h = omega (arith, ints)

lowest_terms_of : (g i u j v k w a b c : ℕ) → 0 < g → IsDivided g a u → IsDivided g b v → IsDivided g c w → ((d : ℕ) → d ∣ a → d ∣ b → d ∣ c → d ∣ g) → 0 < c → (0 < a → i < k) → (0 < b → j < k) → (0 < a → 0 < b → i < j) → a ≤ 2 ^ 83 → b ≤ 2 ^ 83 → c ≤ 2 ^ 83 → IsLowestTerms (i, a) (j, b) (k, c) (all_items i u j v k w)
lowest_terms_of g i u j v k w a b c g_above first second last greatest c_above first_before second_before in_order a_small b_small c_small = record {
  factor = g;
  factor_positive = g_above;
  proportional = λ value.
      proportional value g i u j v k w
      ∙ ap (λ n. pos n *ℤ value i +ℤ pos (g * v) *ℤ value j +ℤ pos (g * w) *ℤ value k) first.exact
      ∙ ap (λ n. pos a *ℤ value i +ℤ pos n *ℤ value j +ℤ pos (g * w) *ℤ value k) second.exact
      ∙ ap (λ n. pos a *ℤ value i +ℤ pos b *ℤ value j +ℤ pos n *ℤ value k) last.exact;
  at_most_three = omega (arith, length-append (item_of i u ++ item_of j v) (item_of k w), length-append (item_of i u) (item_of j v), length-item_of i u, length-item_of j v, length-item_of k w);
  none_later = all_three (λ item. item.0 ≤ k) i u j v k w (λ h. omega arith) (λ h. omega arith) (λ h. omega arith);
  ascending =
      let R : ℕ × ℤ → ℕ × ℤ → Type 0 = λ x y. x.0 < y.0 in
      pairs_item R (item_of i u ++ item_of j v) k w
      (pairs_item R (item_of i u) j v
      (pairs_item R [] i u (no_pairs R) (λ h. All-nil (λ x. R x (i, pos u))))
      (λ h. all_item (λ x. R x (j, pos v)) i u (λ l. in_order (omega arith) (omega arith))))
      (λ h. All-append (λ x. R x (k, pos w)) (item_of i u) (item_of j v)
      (all_item (λ x. R x (k, pos w)) i u (λ l. first_before (omega arith)))
      (all_item (λ x. R x (k, pos w)) j v (λ l. second_before (omega arith))));
  weights_positive = all_three (λ item. pos 0 <ℤ item.1) i u j v k w (above_zero u) (above_zero v) (above_zero w);
  weights_small = all_three (λ item. unsigned_abs item.1 ≤ 2 ^ 83) i u j v k w (λ h. omega arith) (λ h. omega arith) (λ h. omega arith);
  no_common_divisor = λ d h.
      let P : ℕ × ℤ → Type 0 = λ item. d ∣ unsigned_abs item.1 in
      let both = all_left P (item_of i u ++ item_of j v) (item_of k w) h in
      let divides_u : d ∣ u = divides_item d i u (all_left P (item_of i u) (item_of j v) both) in
      let divides_v : d ∣ v = divides_item d j v (all_right P (item_of i u) (item_of j v) both) in
      let divides_w : d ∣ w = divides_item d k w (all_right P (item_of i u ++ item_of j v) (item_of k w) h) in
      let times = λ (n m : ℕ) (s : d ∣ n) (e : g * n ≡ m). subst (λ l. g * d ∣ l) e (divides_multiple g d n s) in
      one_from_divisor g d g_above (pos_of_dvd_of_pos divides_w (positive_factor g w c last.exact c_above))
      (greatest (g * d) (times u a divides_u first.exact) (times v b divides_v second.exact) (times w c divides_w last.exact));
}
  where
    positive_factor : (g w c : ℕ) → g * w ≡ c → 0 < c → 0 < w
    positive_factor g zero c e h = absurd (omega arith)
    positive_factor g (suc w) c e h = omega arith

pub divisor_positive : (g n : ℕ) → g ∣ n → 0 < n → 0 < g
divisor_positive g n h k = pos_of_dvd_of_pos h k

pub lowest : (g i j k a b c : ℕ) (items : List (ℕ × ℤ)) → g ∣ a → g ∣ b → g ∣ c → ((d : ℕ) → d ∣ a → d ∣ b → d ∣ c → d ∣ g) → 0 < c → (0 < a → i < k) → (0 < b → j < k) → (0 < a → 0 < b → i < j) → a ≤ 2 ^ 83 → b ≤ 2 ^ 83 → c ≤ 2 ^ 83 → items ≡ item_of i (a / g) ++ item_of j (b / g) ++ item_of k (c / g) → IsLowestTerms (i, a) (j, b) (k, c) items
lowest g i j k a b c items first second last greatest c_above first_before second_before in_order a_small b_small c_small is =
    subst (IsLowestTerms (i, a) (j, b) (k, c)) (sym is)
    (lowest_terms_of g i (a / g) j (b / g) k (c / g) a b c (divisor_positive g c last c_above)
    (divided g a first) (divided g b second) (divided g c last) greatest c_above first_before second_before in_order a_small b_small c_small)
