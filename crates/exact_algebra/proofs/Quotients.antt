-- Quotients of signed whole numbers by a positive one, rounded up and down.
use Rattle.std.proofs.Common.{◌≡◌, ℕ, zero, suc, ◌+◌, ◌*◌, ◌-◌, ◌/◌, ◌<◌, ◌≤◌, [], ◌∷◌, refl, sym, subst, arith}
use Rattle.std.specs.Prelude.{ℤ, pos, negsuc, ◌+ℤ◌, ◌-ℤ◌, ◌*ℤ◌, ◌<ℤ◌, ◌≤ℤ◌}
use Rattle.std.specs.Int.RustNames.{int_div, FitsSigned}
use Rattle.std.specs.Int.{Width, int_div_euclid}
use Rattle.std.proofs.Math.Nat.{mod-lt, div-add-mod, div-le_self, zero-div}
use Rattle.std.proofs.lemmas.Int.{ints, by_lt_z}
use lib.IntN.{neg_ℤ}
use Rattle.exact_algebra.specs.Quotients.{IsCeiling, IsFloor}
use Rattle.exact_algebra.specs.Poly.{var, lit, neg, ◌⊕◌, ◌⊖◌, ◌⊗◌}
use Rattle.exact_algebra.proofs.Normal.{ring}
use Rattle.exact_algebra.proofs.Order.{below_from_times, at_most_below_trans, below_at_most_trans, at_most_trans, at_most_from_times, times_at_most, same_from_at_most, times_swap}

-- what a quotient of naturals says of products
below_next : (a d : ℕ) → 0 < d → a < (a / d + 1) * d
below_next a d p = omega (arith, div-add-mod a d, mod-lt a p)

quotient_within : (a d : ℕ) → a / d * d ≤ a
quotient_within a d = omega (arith, div-add-mod a d)

one_less : (k : ℕ) → pos (k + 1) -ℤ pos 1 ≡ pos k
one_less k = omega (arith, ints)

ceiling_of_pos : (a d : ℕ) → 0 < a → 0 < d → IsCeiling (pos a) (pos d) (pos ((a - 1) / d + 1))
ceiling_of_pos a d p q =
    let up_to : a - 1 < ((a - 1) / d + 1) * d = below_next (a - 1) d q in
    let low : (a - 1) / d * d ≤ a - 1 = quotient_within (a - 1) d in
    let below : (pos ((a - 1) / d) *ℤ pos d) <ℤ pos a = omega (arith, ints) in
    record {
      reaches = omega (arith, ints);
      no_less = subst (λ z. (z *ℤ pos d) <ℤ pos a) (sym (one_less ((a - 1) / d))) below;
    }

ceiling_of_neg : (a d : ℕ) → 0 < d → IsCeiling (neg_ℤ (pos a)) (pos d) (neg_ℤ (pos (a / d)))
ceiling_of_neg a d p =
    let q = a / d in
    let up_to : a < (q + 1) * d = below_next a d p in
    let low : q * d ≤ a = quotient_within a d in
    let e : neg_ℤ (pos q) *ℤ pos d ≡ neg_ℤ (pos q *ℤ pos d) = ring (pos q ∷ pos d ∷ []) (neg (var 0) ⊗ var 1) (neg (var 0 ⊗ var 1)) refl in
    let f : (neg_ℤ (pos q) -ℤ pos 1) *ℤ pos d ≡ neg_ℤ ((pos q +ℤ pos 1) *ℤ pos d) =
    ring (pos q ∷ pos d ∷ []) ((neg (var 0) ⊖ lit (pos 1)) ⊗ var 1) (neg ((var 0 ⊕ lit (pos 1)) ⊗ var 1)) refl in
    let h : neg_ℤ (pos a) ≤ℤ neg_ℤ (pos (q * d)) = omega (arith, ints) in
    let k : neg_ℤ (pos ((q + 1) * d)) <ℤ neg_ℤ (pos a) = omega (arith, ints) in
    record {
      reaches = subst (λ z. neg_ℤ (pos a) ≤ℤ z) (sym e) h;
      no_less = subst (λ z. z <ℤ neg_ℤ (pos a)) (sym f) k;
    }

floor_of_pos : (a d : ℕ) → 0 < d → IsFloor (pos a) (pos d) (pos (a / d))
floor_of_pos a d p =
    let up_to : a < (a / d + 1) * d = below_next a d p in
    let low : a / d * d ≤ a = quotient_within a d in
    record { within = omega (arith, ints); no_more = omega (arith, ints) }

next_of_neg : (q : ℕ) → negsuc q +ℤ pos 1 ≡ neg_ℤ (pos q)
next_of_neg q = omega (arith, ints)

floor_of_neg : (a d : ℕ) → 0 < d → IsFloor (negsuc a) (pos d) (negsuc (a / d))
floor_of_neg a d p =
    let q = a / d in
    let up_to : a < (q + 1) * d = below_next a d p in
    let low : q * d ≤ a = quotient_within a d in
    let e : neg_ℤ (pos q) *ℤ pos d ≡ neg_ℤ (pos q *ℤ pos d) = ring (pos q ∷ pos d ∷ []) (neg (var 0) ⊗ var 1) (neg (var 0 ⊗ var 1)) refl in
    let h : negsuc a <ℤ neg_ℤ (pos (q * d)) = omega (arith, ints) in
    let k : neg_ℤ (pos (suc q * d)) ≤ℤ negsuc a = omega (arith, ints) in
    record {
      within = k;
      no_more = subst (λ z. negsuc a <ℤ (z *ℤ pos d)) (sym (next_of_neg q)) (subst (λ z. negsuc a <ℤ z) (sym e) h);
    }

-- ---- of signed numbers
pub ceiling_above : (n d : ℤ) → pos 0 <ℤ n → pos 0 <ℤ d → IsCeiling n d (int_div (n -ℤ pos 1) d +ℤ pos 1)
ceiling_above (pos zero) d p q = absurd (omega (arith, ints))
ceiling_above (pos (suc a)) (pos d) p q =
    let e : pos (suc a) -ℤ pos 1 ≡ pos (suc a - 1) = omega (arith, ints) in
    subst (λ z. IsCeiling (pos (suc a)) (pos d) (int_div z (pos d) +ℤ pos 1)) (sym e) (ceiling_of_pos (suc a) d (omega arith) (omega (arith, ints)))
ceiling_above (pos (suc a)) (negsuc d) p q = absurd (omega (arith, ints))
ceiling_above (negsuc a) d p q = absurd (omega (arith, ints))

pub ceiling_at_most : (n d : ℤ) → n ≤ℤ pos 0 → pos 0 <ℤ d → IsCeiling n d (int_div n d)
ceiling_at_most (pos zero) (pos d) p q =
    subst (λ n. IsCeiling (pos 0) (pos d) (pos n)) (sym (zero-div d)) (subst (λ n. IsCeiling (pos 0) (pos d) (neg_ℤ (pos n))) (zero-div d) (ceiling_of_neg 0 d (omega (arith, ints))))
ceiling_at_most (pos (suc a)) (pos d) p q = absurd (omega (arith, ints))
ceiling_at_most (negsuc a) (pos d) p q = ceiling_of_neg (suc a) d (omega (arith, ints))
ceiling_at_most n (negsuc d) p q = absurd (omega (arith, ints))

pub floor_euclid : (n d : ℤ) → pos 0 <ℤ d → IsFloor n d (int_div_euclid n d)
floor_euclid (pos a) (pos d) q = floor_of_pos a d (omega (arith, ints))
floor_euclid (negsuc a) (pos d) q = floor_of_neg a d (omega (arith, ints))
floor_euclid n (negsuc d) q = absurd (omega (arith, ints))

-- the quotient that is rounded up is no greater than the number
next_fits : (w : Width) (a d : ℕ) → FitsSigned w (pos (suc a)) → FitsSigned w (pos (a / d + 1))
next_fits w a d f = record { sfits = omega (arith, f.sfits, div-le_self a d) }

pub ceiling_fits : (w : Width) (n d : ℤ) → pos 0 <ℤ n → FitsSigned w n → pos 0 <ℤ d → FitsSigned w (int_div (n -ℤ pos 1) d +ℤ pos 1)
ceiling_fits w (pos zero) d p f q = absurd (omega (arith, ints))
ceiling_fits w (pos (suc a)) (pos d) p f q =
    let e : pos (suc a) -ℤ pos 1 ≡ pos a = omega (arith, ints) in
    subst (λ z. FitsSigned w (int_div z (pos d) +ℤ pos 1)) (sym e) (next_fits w a d f)
ceiling_fits w (pos (suc a)) (negsuc d) p f q = absurd (omega (arith, ints))
ceiling_fits w (negsuc a) d p f q = absurd (omega (arith, ints))

pub floor_fits : (w : Width) (n d : ℤ) → FitsSigned w n → pos 0 <ℤ d → FitsSigned w (int_div_euclid n d)
floor_fits w (pos a) (pos d) f q = record { sfits = omega (arith, f.sfits, div-le_self a d) }
floor_fits w (negsuc a) (pos d) f q = record { sfits = omega (arith, f.sfits, div-le_self a d) }
floor_fits w n (negsuc d) f q = absurd (omega (arith, ints))

-- ---- the laws, from the defining inequalities alone
next_at_most : (x y : ℤ) → (x -ℤ pos 1) <ℤ y → x ≤ℤ y
next_at_most x y h = omega (arith, ints)

at_most_next : (x y : ℤ) → x <ℤ (y +ℤ pos 1) → x ≤ℤ y
at_most_next x y h = omega (arith, ints)

-- a number above a fraction less one, and a fraction that is at most another number
pub rounded_up_at_most : (n d x y : ℤ) → pos 0 <ℤ d → ((x -ℤ pos 1) *ℤ d) <ℤ n → n ≤ℤ (y *ℤ d) → x ≤ℤ y
rounded_up_at_most n d x y p h k =
    let l : ((x -ℤ pos 1) *ℤ d) <ℤ (y *ℤ d) = below_at_most_trans ((x -ℤ pos 1) *ℤ d) n (y *ℤ d) h k in
    let m : (d *ℤ (x -ℤ pos 1)) <ℤ (d *ℤ y) = subst (λ z. z <ℤ (d *ℤ y)) (times_swap (x -ℤ pos 1) d) (subst (λ z. ((x -ℤ pos 1) *ℤ d) <ℤ z) (times_swap y d) l) in
    next_at_most x y (below_from_times d (x -ℤ pos 1) y (omega (arith, ints)) m)

-- a number that is at most a fraction, and a fraction below another number's next
pub rounded_down_at_most : (n d x y : ℤ) → pos 0 <ℤ d → (x *ℤ d) ≤ℤ n → n <ℤ ((y +ℤ pos 1) *ℤ d) → x ≤ℤ y
rounded_down_at_most n d x y p h k =
    let l : (x *ℤ d) <ℤ ((y +ℤ pos 1) *ℤ d) = at_most_below_trans (x *ℤ d) n ((y +ℤ pos 1) *ℤ d) h k in
    let m : (d *ℤ x) <ℤ (d *ℤ (y +ℤ pos 1)) = subst (λ z. z <ℤ (d *ℤ (y +ℤ pos 1))) (times_swap x d) (subst (λ z. (x *ℤ d) <ℤ z) (times_swap (y +ℤ pos 1) d) l) in
    at_most_next x y (below_from_times d x (y +ℤ pos 1) (omega (arith, ints)) m)

pub ceiling_at_most_each : (n d q y : ℤ) → pos 0 <ℤ d → IsCeiling n d q → n ≤ℤ (y *ℤ d) → q ≤ℤ y
ceiling_at_most_each n d q y p h k = rounded_up_at_most n d q y p h.no_less k

pub ceiling_unique : (n d q r : ℤ) → pos 0 <ℤ d → IsCeiling n d q → IsCeiling n d r → q ≡ r
ceiling_unique n d q r p h k =
    same_from_at_most q r (rounded_up_at_most n d q r p h.no_less k.reaches) (rounded_up_at_most n d r q p k.no_less h.reaches)

pub floor_unique : (n d q r : ℤ) → pos 0 <ℤ d → IsFloor n d q → IsFloor n d r → q ≡ r
floor_unique n d q r p h k =
    same_from_at_most q r (rounded_down_at_most n d q r p h.within k.no_more) (rounded_down_at_most n d r q p k.within h.no_more)

-- the ceiling of a fraction that is at most another is at most its ceiling
pub ceiling_monotone : (n d m e q r : ℤ) → pos 0 <ℤ d → pos 0 <ℤ e → (n *ℤ e) ≤ℤ (m *ℤ d) → IsCeiling n d q → IsCeiling m e r → q ≤ℤ r
ceiling_monotone n d m e q r p s le h k =
    let a : (d *ℤ m) ≤ℤ (d *ℤ (r *ℤ e)) = times_at_most d m (r *ℤ e) (omega (arith, ints)) k.reaches in
    let f : d *ℤ (r *ℤ e) ≡ e *ℤ (r *ℤ d) = ring (d ∷ r ∷ e ∷ []) (var 0 ⊗ (var 1 ⊗ var 2)) (var 2 ⊗ (var 1 ⊗ var 0)) refl in
    let b : (e *ℤ n) ≤ℤ (e *ℤ (r *ℤ d)) =
    at_most_trans (e *ℤ n) (d *ℤ m) (e *ℤ (r *ℤ d))
    (subst (λ z. z ≤ℤ (d *ℤ m)) (times_swap n e) (subst (λ z. (n *ℤ e) ≤ℤ z) (times_swap m d) le))
    (subst (λ z. (d *ℤ m) ≤ℤ z) f a) in
    rounded_up_at_most n d q r p h.no_less (at_most_from_times e n (r *ℤ d) s b)

-- each fraction has a ceiling and a floor
pub ceiling_exists : (n d : ℤ) → pos 0 <ℤ d → (q : ℤ) × IsCeiling n d q
ceiling_exists n d p =
    by_lt_z (pos 0) n
    (λ h. (int_div (n -ℤ pos 1) d +ℤ pos 1, ceiling_above n d h p))
    (λ h. (int_div n d, ceiling_at_most n d h p))

pub floor_exists : (n d : ℤ) → pos 0 <ℤ d → (q : ℤ) × IsFloor n d q
floor_exists n d p = (int_div_euclid n d, floor_euclid n d p)
