-- Polynomials multiplied out and sorted, so that two of them can be compared by looking.
use Rattle.std.specs.Prelude.{ℕ, ℤ, pos, negsuc, ◌+ℤ◌, ◌*ℤ◌, Bool, true, false, ◌&&◌, nat_lt, nat_eq, List, [], ◌∷◌}
use Rattle.exact_algebra.specs.Poly.{Poly, var, lit, neg, ◌⊕◌, ◌⊖◌, ◌⊗◌, value_at}

-- a whole number times the product of some variables, in ascending order
pub record Term : Type 0 where
  pub times : ℤ
  pub vars : List ℕ

abbrev pub product_of : List ℤ → List ℕ → ℤ
product_of xs [] = pos 1
product_of xs (i ∷ vs) = value_at xs i *ℤ product_of xs vs

-- what a list of terms is worth
abbrev pub sum_of : List ℤ → List Term → ℤ
sum_of xs [] = pos 0
sum_of xs (t ∷ ts) = t.times *ℤ product_of xs t.vars +ℤ sum_of xs ts

-- ---- products of variables
abbrev pub insert_var_step : Bool → ℕ → ℕ → List ℕ → List ℕ → List ℕ
insert_var_step true i j vs rest = j ∷ rest
insert_var_step false i j vs rest = i ∷ j ∷ vs

abbrev pub insert_var : ℕ → List ℕ → List ℕ
insert_var i [] = i ∷ []
insert_var i (j ∷ vs) = insert_var_step (nat_lt j i) i j vs (insert_var i vs)

abbrev pub merge_vars : List ℕ → List ℕ → List ℕ
merge_vars [] ws = ws
merge_vars (i ∷ vs) ws = insert_var i (merge_vars vs ws)

abbrev pub same_vars : List ℕ → List ℕ → Bool
same_vars [] [] = true
same_vars [] (j ∷ ws) = false
same_vars (i ∷ vs) [] = false
same_vars (i ∷ vs) (j ∷ ws) = nat_eq i j && same_vars vs ws

abbrev pub goes_before_step : Bool → Bool → Bool → Bool
goes_before_step true later rest = true
goes_before_step false true rest = false
goes_before_step false false rest = rest

abbrev pub goes_before : List ℕ → List ℕ → Bool
goes_before [] ws = true
goes_before (i ∷ vs) [] = false
goes_before (i ∷ vs) (j ∷ ws) = goes_before_step (nat_lt i j) (nat_lt j i) (goes_before vs ws)

-- ---- sums of terms
abbrev pub insert_term_step : Bool → Bool → Term → Term → List Term → List Term → List Term
insert_term_step true first t u us rest = record { times = t.times +ℤ u.times; vars = u.vars } ∷ us
insert_term_step false true t u us rest = t ∷ u ∷ us
insert_term_step false false t u us rest = u ∷ rest

abbrev pub insert_term : Term → List Term → List Term
insert_term t [] = t ∷ []
insert_term t (u ∷ us) = insert_term_step (same_vars t.vars u.vars) (goes_before t.vars u.vars) t u us (insert_term t us)

abbrev pub add_terms : List Term → List Term → List Term
add_terms [] us = us
add_terms (t ∷ ts) us = insert_term t (add_terms ts us)

abbrev pub scale : Term → List Term → List Term
scale t [] = []
scale t (u ∷ us) = insert_term (record { times = t.times *ℤ u.times; vars = merge_vars t.vars u.vars }) (scale t us)

abbrev pub multiply : List Term → List Term → List Term
multiply [] us = []
multiply (t ∷ ts) us = add_terms (scale t us) (multiply ts us)

abbrev pub minus_one : Term
minus_one = record { times = negsuc 0; vars = [] }

-- a polynomial multiplied out
abbrev pub normal : Poly → List Term
normal (var i) = record { times = pos 1; vars = i ∷ [] } ∷ []
normal (lit z) = record { times = z; vars = [] } ∷ []
normal (neg a) = scale minus_one (normal a)
normal (a ⊕ b) = add_terms (normal a) (normal b)
normal (a ⊖ b) = add_terms (normal a) (scale minus_one (normal b))
normal (a ⊗ b) = multiply (normal a) (normal b)

abbrev pub is_nought : ℤ → Bool
is_nought (pos n) = nat_eq n 0
is_nought (negsuc n) = false

abbrev pub all_cancel : List Term → Bool
all_cancel [] = true
all_cancel (t ∷ ts) = is_nought t.times && all_cancel ts

-- whether two polynomials are the same, multiplied out
abbrev pub is_same : Poly → Poly → Bool
is_same a b = all_cancel (normal (a ⊖ b))
