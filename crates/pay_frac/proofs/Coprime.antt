-- Common divisors and multiples of naturals.
use Rattle.std.proofs.Common.{◌≡◌, ℕ, zero, suc, ◌+◌, ◌*◌, ◌/◌, ◌%◌, ◌<◌, ◌≤◌, sym, ap, subst, arith, ⊎_elim}
use Rattle.std.specs.Int.{IsGcd, ◌∣◌}
use Rattle.std.proofs.Math.Nat.{dvd_refl, dvd-zero, dvd_antisymm, le_of_dvd, one-dvd, eq-one_of_dvd-one, dvd-mod_iff, dvd-add_iff_right, dvd-mul_left, dvd-mul_right, mul-dvd-mul_left, dvd_of_mul-dvd-mul_left, mul-div_cancel', mul_comm, mod-lt}
use Rattle.std.proofs.lemmas.Bool.{cases_eq}
use Rattle.std.proofs.lemmas.Nat.{div-add-mod', mul-le}
use Rattle.pay_frac.specs.Whole.{IsLcm}

-- ---- coprime numbers
coprime_step : (a b : ℕ) → IsGcd a b 1 → IsGcd b (a % b) 1
coprime_step a b h = (one-dvd b, one-dvd (a % b), λ d p q. h.2 d ((dvd-mod_iff d p).0 q) p)

one_from_zero : (a : ℕ) → IsGcd a 0 1 → a ≡ 1
one_from_zero a h = eq-one_of_dvd-one (h.2 a (dvd_refl a) (dvd-zero a))

-- b divides what is left of a multiple of a times c
left_over : (a b c : ℕ) → b ∣ a * c → b ∣ (a % b) * c
left_over a b c h =
    let e : a * c ≡ b * (a / b * c) + (a % b) * c = omega (arith, ap (λ n. n * c) (div-add-mod' a b)) in
    (dvd-add_iff_right b (dvd-mul_right b (a / b * c))).1 (subst (λ n. b ∣ n) e h)

gauss_one : (b c : ℕ) → b ≡ 1 → b ∣ c
gauss_one b c o = subst (λ n. n ∣ c) (sym o) (one-dvd c)

gauss_zero : (a b c : ℕ) → b ≡ 0 → IsGcd a b 1 → b ∣ a * c → b ∣ c
gauss_zero a b c z g h =
    let o : a ≡ 1 = one_from_zero a (subst (λ n. IsGcd a n 1) z g) in
    let e : a * c ≡ c = omega (arith, ap (λ n. n * c) o) in
    subst (λ n. b ∣ n) e h

-- r c = b k and r divides k: then b divides c
gauss_step : (b r c k : ℕ) → 0 < r → r * c ≡ b * k → r ∣ k → b ∣ c
gauss_step b r c k p e h =
    let d : b * r ∣ r * c = subst (λ n. b * r ∣ n) (sym e) (mul-dvd-mul_left r b h) in
    dvd_of_mul-dvd-mul_left b p (subst (λ n. n ∣ r * c) (mul_comm b r) d)

gauss_by : (fuel a b c : ℕ) → b ≤ fuel → IsGcd a b 1 → b ∣ a * c → b ∣ c
gauss_by zero a b c f g h = gauss_zero a b c (omega arith) g h
gauss_by (suc fuel) a b c f g h =
    ⊎_elim
    (λ z. gauss_zero a b c z g h)
    (λ (n : b ≡ 0 → ⊥). ⊎_elim
    (λ z. gauss_one b c (one_from_zero b (subst (λ n. IsGcd b n 1) z (coprime_step a b g))))
    (λ (m : a % b ≡ 0 → ⊥).
    let r = a % b in
    let k = r * c / b in
    let p : 0 < b = omega arith in
    let small : r < b = mod-lt a p in
    let e : r * c ≡ b * k = sym (mul-div_cancel' b (left_over a b c h)) in
    gauss_step b r c k (omega arith) e
    (gauss_by fuel b r k (omega arith) (coprime_step a b g) (subst (λ n. r ∣ n) e (dvd-mul_right r c))))
    (cases_eq (a % b) 0))
    (cases_eq b 0)

-- what divides a product and has no divisor in common with one factor divides the other
pub gauss : (a b c : ℕ) → IsGcd a b 1 → b ∣ a * c → b ∣ c
gauss a b c g h = gauss_by b a b c (omega arith) g h

-- numbers divided by their greatest common divisor
pub reduced : (a b g : ℕ) → 0 < g → IsGcd a b g → IsGcd (a / g) (b / g) 1
reduced a b g p h = (
  one-dvd (a / g),
  one-dvd (b / g),
  λ d x y.
      let u : g * d ∣ a = subst (λ n. g * d ∣ n) (mul-div_cancel' g h.0) (mul-dvd-mul_left d g x) in
      let v : g * d ∣ b = subst (λ n. g * d ∣ n) (mul-div_cancel' g h.1) (mul-dvd-mul_left d g y) in
      let w : g * d ∣ g * 1 = subst (λ n. g * d ∣ n) (omega arith) (h.2 (g * d) u v) in
      dvd_of_mul-dvd-mul_left d p w,
)

coprime_swap : (a b : ℕ) → IsGcd a b 1 → IsGcd b a 1
coprime_swap a b h = (h.1, h.0, λ d p q. h.2 d q p)

-- equal fractions in lowest terms have equal parts
pub lowest_den : (m n p q : ℕ) → IsGcd m n 1 → IsGcd p q 1 → m * q ≡ p * n → n ≡ q
lowest_den m n p q g h e =
    dvd_antisymm
    (gauss m n q g (subst (λ k. n ∣ k) (sym e) (dvd-mul_left n p)))
    (gauss p q n h (subst (λ k. q ∣ k) e (dvd-mul_left q m)))

divides_each : (a b g k : ℕ) → 0 < g → g * (a / g) ≡ a → g * (b / g) ≡ b → IsGcd (a / g) (b / g) 1 → a ∣ k → b ∣ k → a * (b / g) ∣ k
divides_each a b g k p ea eb r x y =
    let ex : a * (k / a) ≡ k = mul-div_cancel' a x in
    let e : k ≡ g * (a / g * (k / a)) = omega (arith, ap (λ n. n * (k / a)) ea) in
    let d : g * (b / g) ∣ g * (a / g * (k / a)) = subst (λ n. n ∣ g * (a / g * (k / a))) (sym eb) (subst (λ n. b ∣ n) e y) in
    let f : b / g ∣ k / a = gauss (a / g) (b / g) (k / a) r (dvd_of_mul-dvd-mul_left (b / g) p d) in
    subst (λ n. a * (b / g) ∣ n) ex (mul-dvd-mul_left (b / g) a f)

-- the least common multiple
pub multiple : (a b g : ℕ) → 0 < g → IsGcd a b g → IsLcm a b (a / g * b)
multiple a b g p h =
    let ea : g * (a / g) ≡ a = mul-div_cancel' g h.0 in
    let eb : g * (b / g) ≡ b = mul-div_cancel' g h.1 in
    let e : a / g * b ≡ a * (b / g) = omega (arith, ap (λ n. a / g * n) eb, ap (λ n. n * (b / g)) ea) in
    record {
      of_first = subst (λ n. a ∣ n) (sym e) (dvd-mul_right a (b / g));
      of_second = dvd-mul_left b (a / g);
      least = λ k x y. subst (λ n. n ∣ k) (sym e) (divides_each a b g k p ea eb (reduced a b g p h) x y);
    }

-- no common divisor is as great as what both numbers are below
pub divisor_below : (a b g bound : ℕ) → 0 < a + b → IsGcd a b g → a < bound → b < bound → g < bound
divisor_below a b g bound p h x y =
    ⊎_elim
    (λ (z : a ≡ 0). let q : 0 < b = omega arith in let l : g ≤ b = le_of_dvd q h.1 in omega arith)
    (λ (n : a ≡ 0 → ⊥). let q : 0 < a = omega arith in let l : g ≤ a = le_of_dvd q h.0 in omega arith)
    (cases_eq a 0)

pub same_lcm : (a b m n : ℕ) → IsLcm a b m → IsLcm a b n → m ≡ n
same_lcm a b m n h k = dvd_antisymm (h.least n k.of_first k.of_second) (k.least m h.of_first h.of_second)

pub positive_product : (m n : ℕ) → 0 < m → 0 < n → 0 < m * n
positive_product m n h k = let p : 1 * 1 ≤ m * n = mul-le 1 1 m n h k in omega arith

pub positive_quotient : (a g : ℕ) → 0 < a → 0 < g → g ∣ a → 0 < a / g
positive_quotient a g p q d =
    ⊎_elim
    (λ (z : a / g ≡ 0). absurd (let e : g * (a / g) ≡ a = mul-div_cancel' g d in let f : g * (a / g) ≡ g * 0 = ap (λ n. g * n) z in omega arith))
    (λ (n : a / g ≡ 0 → ⊥). omega arith)
    (cases_eq (a / g) 0)
