-- lemmas on common multiples
use Rattle.std.proofs.Common.{◌≡◌, ◌≢◌, ⊎_elim, ℕ, ◌+◌, ◌*◌, ◌/◌, ◌%◌, ◌<◌, ◌≤◌, List, [], length, get_or, take, sym, ap, ◌∙◌, subst, arith}
use Rattle.std.proofs.Math.Nat.{div-add-mod, mod-lt, add-mul-mod_self_left, mul-mod_right}
use Rattle.std.proofs.lemmas.Bool.{cases_lt, cases_eq}
use Rattle.std.proofs.lemmas.List.{get_or-take, length-take}
use Rattle.game_model.specs.Game.{Divides, IsLeastCommonMultiple}

Divides-trans : (a b c : ℕ) → Divides a b → Divides b c → Divides a c
Divides-trans a b c (k, e) (l, f) = (k * l, f ∙ ap (λ n. n * l) e ∙ omega arith)

Divides-from_mod : (p n : ℕ) → n % p ≡ 0 → Divides p n
Divides-from_mod p n e = (n / p, omega (arith, div-add-mod n p))

-- The first multiple of base that p divides divides each common multiple.
pub first_divides : (base p k c : ℕ) → 0 < k → (base * k) % p ≡ 0 → ((j : ℕ) → 0 < j → j < k → (base * j) % p ≢ 0) → Divides base c → Divides p c → Divides (base * k) c
first_divides base p k c positive hit none (m, of_base) (n, of_p) =
    let t : ℕ = m / k in
    let r : ℕ = m % k in
    let split : k * t + r ≡ m = div-add-mod m k in
    let below : r < k = mod-lt m positive in
    let w : Divides p (base * k) = Divides-from_mod p (base * k) hit in
    let whole : base * (k * t + r) ≡ p * n = rw split (sym of_base ∙ of_p) in
    let front : base * k * t ≡ p * (w.0 * t) = ap (λ x. x * t) w.1 ∙ omega arith in
    let parts : base * r + p * (w.0 * t) ≡ p * n = omega arith in
    let rest : (base * r) % p ≡ 0 = sym (add-mul-mod_self_left (base * r) p (w.0 * t)) ∙ ap (λ x. x % p) parts ∙ mul-mod_right p n in
    ⊎_elim
    (λ (e : m % k ≡ 0). (t, of_base ∙ ap (λ x. base * x) (sym split) ∙ rw e (omega arith)))
    (λ (ne : m % k ≡ 0 → ⊥). absurd (none r (omega arith) below rest))
    (cases_eq r 0)

-- one number more
pub least_more : (ps : List ℕ) (i b r : ℕ) → i < length ps → IsLeastCommonMultiple (take i ps) b → 0 < r → Divides b r → Divides (get_or ps i 0) r →
    ((c : ℕ) → Divides b c → Divides (get_or ps i 0) c → Divides r c) → IsLeastCommonMultiple (take (i + 1) ps) r
least_more ps i b r below so_far positive of_b of_p least =
    let lengths : length (take (i + 1) ps) ≡ i + 1 = omega (arith, length-take (i + 1) ps) in
    let before : length (take i ps) ≡ i = omega (arith, length-take i ps) in
    record {
      positive = positive;
      multiple = λ j h.
          let inside : j < i + 1 = omega arith in
          rw (get_or-take (i + 1) ps j 0 inside) (⊎_elim
          (λ (lt : j < i). Divides-trans (get_or ps j 0) b r (subst (λ (n : ℕ). Divides n b) (get_or-take i ps j 0 lt) (so_far.multiple j (omega arith))) of_b)
          (λ (ge : i ≤ j). let e : i ≡ j = omega arith in subst (λ (n : ℕ). Divides (get_or ps n 0) r) e of_p)
          (cases_lt j i));
      least = λ c each. least c
          (so_far.least c (λ j h.
          let lt : j < i = omega arith in
          let inside : j < i + 1 = omega arith in
          rw (get_or-take i ps j 0 lt) (subst (λ (n : ℕ). Divides n c) (get_or-take (i + 1) ps j 0 inside) (each j (omega arith)))))
          (let inside : i < i + 1 = omega arith in subst (λ (n : ℕ). Divides n c) (get_or-take (i + 1) ps i 0 inside) (each i (omega arith)));
    }

pub least_none : IsLeastCommonMultiple [] 1
least_none = record {
  positive = omega arith;
  multiple = λ j h. absurd (omega arith);
  least = λ c each. (c, omega arith);
}
