-- A polynomial multiplied out is worth the same, so that `ring` proves each identity of polynomials by computing.
use Rattle.std.proofs.Common.{◌≡◌, ℕ, Bool, true, false, ◌&&◌, nat_lt, nat_eq, List, [], ◌∷◌, refl, ap, sym, ◌∙◌, arith}
use Rattle.std.specs.Prelude.{ℤ, pos, negsuc, ◌+ℤ◌, ◌-ℤ◌, ◌*ℤ◌}
use Rattle.std.proofs.lemmas.Bool.{eqb-true}
use lib.IntN.{neg_ℤ}
use Rattle.exact_algebra.specs.Poly.{Poly, var, lit, neg, ◌⊕◌, ◌⊖◌, ◌⊗◌, value_at, value}
use Rattle.exact_algebra.specs.Normal.{Term, product_of, sum_of, insert_var_step, insert_var, merge_vars, same_vars, goes_before, insert_term_step, insert_term, add_terms, scale, multiply, minus_one, normal, is_nought, all_cancel, is_same}
use Rattle.exact_algebra.proofs.Poly.{same}

-- ---- laws of the ring
swap : (a b c : ℤ) → a *ℤ (b *ℤ c) ≡ b *ℤ (a *ℤ c)
swap a b c = same (a ∷ b ∷ c ∷ []) (var 0 ⊗ (var 1 ⊗ var 2)) (var 1 ⊗ (var 0 ⊗ var 2)) (omega arith)

assoc : (a b c : ℤ) → a *ℤ (b *ℤ c) ≡ (a *ℤ b) *ℤ c
assoc a b c = same (a ∷ b ∷ c ∷ []) (var 0 ⊗ (var 1 ⊗ var 2)) ((var 0 ⊗ var 1) ⊗ var 2) (omega arith)

one_times : (a : ℤ) → a ≡ pos 1 *ℤ a
one_times a = same (a ∷ []) (var 0) (lit (pos 1) ⊗ var 0) (omega arith)

merged : (s t p r : ℤ) → (s +ℤ t) *ℤ p +ℤ r ≡ s *ℤ p +ℤ (t *ℤ p +ℤ r)
merged s t p r = same (s ∷ t ∷ p ∷ r ∷ []) ((var 0 ⊕ var 1) ⊗ var 2 ⊕ var 3) (var 0 ⊗ var 2 ⊕ (var 1 ⊗ var 2 ⊕ var 3)) (omega arith)

later : (a b c : ℤ) → a +ℤ (b +ℤ c) ≡ b +ℤ (a +ℤ c)
later a b c = same (a ∷ b ∷ c ∷ []) (var 0 ⊕ (var 1 ⊕ var 2)) (var 1 ⊕ (var 0 ⊕ var 2)) (omega arith)

add_assoc_ℤ : (a b c : ℤ) → a +ℤ (b +ℤ c) ≡ (a +ℤ b) +ℤ c
add_assoc_ℤ a b c = same (a ∷ b ∷ c ∷ []) (var 0 ⊕ (var 1 ⊕ var 2)) ((var 0 ⊕ var 1) ⊕ var 2) (omega arith)

zero_plus : (a : ℤ) → a ≡ pos 0 +ℤ a
zero_plus a = same (a ∷ []) (var 0) (lit (pos 0) ⊕ var 0) (omega arith)

zero_times : (a : ℤ) → pos 0 ≡ pos 0 *ℤ a
zero_times a = same (a ∷ []) (lit (pos 0)) (lit (pos 0) ⊗ var 0) (omega arith)

times_zero : (a : ℤ) → pos 0 ≡ a *ℤ pos 0
times_zero a = same (a ∷ []) (lit (pos 0)) (var 0 ⊗ lit (pos 0)) (omega arith)

-- (s t)(p q) + (s p) r = (s p)(t q + r)
term_times : (s p t q r : ℤ) → (s *ℤ t) *ℤ (p *ℤ q) +ℤ (s *ℤ p) *ℤ r ≡ (s *ℤ p) *ℤ (t *ℤ q +ℤ r)
term_times s p t q r = same (s ∷ p ∷ t ∷ q ∷ r ∷ []) ((var 0 ⊗ var 2) ⊗ (var 1 ⊗ var 3) ⊕ (var 0 ⊗ var 1) ⊗ var 4) ((var 0 ⊗ var 1) ⊗ (var 2 ⊗ var 3 ⊕ var 4)) (omega arith)

distribute : (a b c : ℤ) → a *ℤ c +ℤ b *ℤ c ≡ (a +ℤ b) *ℤ c
distribute a b c = same (a ∷ b ∷ c ∷ []) (var 0 ⊗ var 2 ⊕ var 1 ⊗ var 2) ((var 0 ⊕ var 1) ⊗ var 2) (omega arith)

minus_times : (a : ℤ) → (negsuc 0 *ℤ pos 1) *ℤ a ≡ neg_ℤ a
minus_times a = same (a ∷ []) ((lit (negsuc 0) ⊗ lit (pos 1)) ⊗ var 0) (neg (var 0)) (omega arith)

one_var : (a : ℤ) → pos 1 *ℤ (a *ℤ pos 1) +ℤ pos 0 ≡ a
one_var a = same (a ∷ []) (lit (pos 1) ⊗ (var 0 ⊗ lit (pos 1)) ⊕ lit (pos 0)) (var 0) (omega arith)

one_lit : (a : ℤ) → a *ℤ pos 1 +ℤ pos 0 ≡ a
one_lit a = same (a ∷ []) (var 0 ⊗ lit (pos 1) ⊕ lit (pos 0)) (var 0) (omega arith)

pub equal_if_apart_by_nought : (a b : ℤ) → a -ℤ b ≡ pos 0 → a ≡ b
equal_if_apart_by_nought a b h =
    let e : a ≡ (a -ℤ b) +ℤ b = same (a ∷ b ∷ []) (var 0) ((var 0 ⊖ var 1) ⊕ var 1) (omega arith) in
    e ∙ ap (λ z. z +ℤ b) h ∙ sym (zero_plus b)

-- ---- products of variables
product_of-insert_step : (xs : List ℤ) (b : Bool) (i j : ℕ) (vs rest : List ℕ)
    → product_of xs rest ≡ value_at xs i *ℤ product_of xs vs
    → product_of xs (insert_var_step b i j vs rest) ≡ value_at xs i *ℤ (value_at xs j *ℤ product_of xs vs)
product_of-insert_step xs true i j vs rest h =
    ap (λ z. value_at xs j *ℤ z) h ∙ swap (value_at xs j) (value_at xs i) (product_of xs vs)
product_of-insert_step xs false i j vs rest h = refl

product_of-insert : (xs : List ℤ) (i : ℕ) (vs : List ℕ) → product_of xs (insert_var i vs) ≡ value_at xs i *ℤ product_of xs vs
product_of-insert xs i [] = refl
product_of-insert xs i (j ∷ vs) = product_of-insert_step xs (nat_lt j i) i j vs (insert_var i vs) (product_of-insert xs i vs)

product_of-merge : (xs : List ℤ) (vs ws : List ℕ) → product_of xs (merge_vars vs ws) ≡ product_of xs vs *ℤ product_of xs ws
product_of-merge xs [] ws = one_times (product_of xs ws)
product_of-merge xs (i ∷ vs) ws =
    product_of-insert xs i (merge_vars vs ws) ∙ ap (λ z. value_at xs i *ℤ z) (product_of-merge xs vs ws) ∙ assoc (value_at xs i) (product_of xs vs) (product_of xs ws)

both : (a b : Bool) → a && b ≡ true → (a ≡ true) × (b ≡ true)
both true b h = (refl, h)
both false b h = (h, absurd (cc))

same_product : (xs : List ℤ) (vs ws : List ℕ) → same_vars vs ws ≡ true → product_of xs vs ≡ product_of xs ws
same_product xs [] [] h = refl
same_product xs [] (j ∷ ws) h = cc
same_product xs (i ∷ vs) [] h = cc
same_product xs (i ∷ vs) (j ∷ ws) h =
    let p = both (nat_eq i j) (same_vars vs ws) h in
    let e : i ≡ j = eqb-true i j p.0 in
    ap (λ k. value_at xs k *ℤ product_of xs vs) e ∙ ap (λ z. value_at xs j *ℤ z) (same_product xs vs ws p.1)

-- ---- sums of terms
sum_of-insert_step : (xs : List ℤ) (b d : Bool) (t u : Term) (us rest : List Term)
    → same_vars t.vars u.vars ≡ b
    → sum_of xs rest ≡ t.times *ℤ product_of xs t.vars +ℤ sum_of xs us
    → sum_of xs (insert_term_step b d t u us rest) ≡ t.times *ℤ product_of xs t.vars +ℤ (u.times *ℤ product_of xs u.vars +ℤ sum_of xs us)
sum_of-insert_step xs true d t u us rest e h =
    merged t.times u.times (product_of xs u.vars) (sum_of xs us)
    ∙ ap (λ z. t.times *ℤ z +ℤ (u.times *ℤ product_of xs u.vars +ℤ sum_of xs us)) (sym (same_product xs t.vars u.vars e))
sum_of-insert_step xs false true t u us rest e h = refl
sum_of-insert_step xs false false t u us rest e h =
    ap (λ z. u.times *ℤ product_of xs u.vars +ℤ z) h ∙ later (u.times *ℤ product_of xs u.vars) (t.times *ℤ product_of xs t.vars) (sum_of xs us)

sum_of-insert : (xs : List ℤ) (t : Term) (us : List Term) → sum_of xs (insert_term t us) ≡ t.times *ℤ product_of xs t.vars +ℤ sum_of xs us
sum_of-insert xs t [] = refl
sum_of-insert xs t (u ∷ us) =
    sum_of-insert_step xs (same_vars t.vars u.vars) (goes_before t.vars u.vars) t u us (insert_term t us) refl (sum_of-insert xs t us)

sum_of-add : (xs : List ℤ) (ts us : List Term) → sum_of xs (add_terms ts us) ≡ sum_of xs ts +ℤ sum_of xs us
sum_of-add xs [] us = zero_plus (sum_of xs us)
sum_of-add xs (t ∷ ts) us =
    sum_of-insert xs t (add_terms ts us)
    ∙ ap (λ z. t.times *ℤ product_of xs t.vars +ℤ z) (sum_of-add xs ts us)
    ∙ add_assoc_ℤ (t.times *ℤ product_of xs t.vars) (sum_of xs ts) (sum_of xs us)

sum_of-scale : (xs : List ℤ) (t : Term) (us : List Term) → sum_of xs (scale t us) ≡ (t.times *ℤ product_of xs t.vars) *ℤ sum_of xs us
sum_of-scale xs t [] = times_zero (t.times *ℤ product_of xs t.vars)
sum_of-scale xs t (u ∷ us) =
    sum_of-insert xs (record { times = t.times *ℤ u.times; vars = merge_vars t.vars u.vars }) (scale t us)
    ∙ ap (λ z. (t.times *ℤ u.times) *ℤ z +ℤ sum_of xs (scale t us)) (product_of-merge xs t.vars u.vars)
    ∙ ap (λ z. (t.times *ℤ u.times) *ℤ (product_of xs t.vars *ℤ product_of xs u.vars) +ℤ z) (sum_of-scale xs t us)
    ∙ term_times t.times (product_of xs t.vars) u.times (product_of xs u.vars) (sum_of xs us)

sum_of-multiply : (xs : List ℤ) (ts us : List Term) → sum_of xs (multiply ts us) ≡ sum_of xs ts *ℤ sum_of xs us
sum_of-multiply xs [] us = zero_times (sum_of xs us)
sum_of-multiply xs (t ∷ ts) us =
    sum_of-add xs (scale t us) (multiply ts us)
    ∙ ap (λ z. z +ℤ sum_of xs (multiply ts us)) (sum_of-scale xs t us)
    ∙ ap (λ z. (t.times *ℤ product_of xs t.vars) *ℤ sum_of xs us +ℤ z) (sum_of-multiply xs ts us)
    ∙ distribute (t.times *ℤ product_of xs t.vars) (sum_of xs ts) (sum_of xs us)

sum_of-minus : (xs : List ℤ) (us : List Term) → sum_of xs (scale minus_one us) ≡ neg_ℤ (sum_of xs us)
sum_of-minus xs us = sum_of-scale xs minus_one us ∙ minus_times (sum_of xs us)

pub sum_of-normal : (xs : List ℤ) (e : Poly) → sum_of xs (normal e) ≡ value xs e
sum_of-normal xs (var i) = one_var (value_at xs i)
sum_of-normal xs (lit z) = one_lit z
sum_of-normal xs (neg a) = sum_of-minus xs (normal a) ∙ ap neg_ℤ (sum_of-normal xs a)
sum_of-normal xs (a ⊕ b) =
    sum_of-add xs (normal a) (normal b) ∙ ap (λ z. z +ℤ sum_of xs (normal b)) (sum_of-normal xs a) ∙ ap (λ z. value xs a +ℤ z) (sum_of-normal xs b)
sum_of-normal xs (a ⊖ b) =
    sum_of-add xs (normal a) (scale minus_one (normal b))
    ∙ ap (λ z. z +ℤ sum_of xs (scale minus_one (normal b))) (sum_of-normal xs a)
    ∙ ap (λ z. value xs a +ℤ z) (sum_of-minus xs (normal b))
    ∙ ap (λ z. value xs a -ℤ z) (sum_of-normal xs b)
sum_of-normal xs (a ⊗ b) =
    sum_of-multiply xs (normal a) (normal b) ∙ ap (λ z. z *ℤ sum_of xs (normal b)) (sum_of-normal xs a) ∙ ap (λ z. value xs a *ℤ z) (sum_of-normal xs b)

nought : (z : ℤ) → is_nought z ≡ true → z ≡ pos 0
nought (pos n) h = ap pos (eqb-true n 0 h)
nought (negsuc n) h = cc

sum_of-cancels : (xs : List ℤ) (ts : List Term) → all_cancel ts ≡ true → sum_of xs ts ≡ pos 0
sum_of-cancels xs [] h = refl
sum_of-cancels xs (t ∷ ts) h =
    let p = both (is_nought t.times) (all_cancel ts) h in
    ap (λ z. z *ℤ product_of xs t.vars +ℤ sum_of xs ts) (nought t.times p.0)
    ∙ ap (λ z. pos 0 *ℤ product_of xs t.vars +ℤ z) (sum_of-cancels xs ts p.1)
    ∙ ap (λ z. z +ℤ pos 0) (sym (zero_times (product_of xs t.vars)))

-- two polynomials that are the same, multiplied out, have the same value: the proof of the premise is `refl`
pub ring : (xs : List ℤ) (a b : Poly) → is_same a b ≡ true → value xs a ≡ value xs b
ring xs a b h =
    equal_if_apart_by_nought (value xs a) (value xs b) (sym (sum_of-normal xs (a ⊖ b)) ∙ sum_of-cancels xs (normal (a ⊖ b)) h)
