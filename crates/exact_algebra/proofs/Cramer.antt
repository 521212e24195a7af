-- Cramer's rule in three unknowns, as an example of how an identity is proved.
use Rattle.std.proofs.Common.{◌≡◌, [], ◌∷◌, refl}
use Rattle.std.specs.Prelude.{ℤ, ◌*ℤ◌}
use Rattle.exact_algebra.specs.Poly.{var, ◌⊕◌, ◌⊖◌, ◌⊗◌}
use Rattle.exact_algebra.specs.Cramer.{Coefficients, sum_at, determinant, with_first}
use Rattle.exact_algebra.proofs.Normal.{ring}

pub cramer : (r s t : Coefficients) (x y z : ℤ)
    → determinant r s t *ℤ x ≡ determinant (with_first (sum_at r x y z) r) (with_first (sum_at s x y z) s) (with_first (sum_at t x y z) t)
cramer r s t x y z =
    ring (r.a ∷ r.b ∷ r.c ∷ s.a ∷ s.b ∷ s.c ∷ t.a ∷ t.b ∷ t.c ∷ x ∷ y ∷ z ∷ [])
    ((var 0 ⊗ (var 4 ⊗ var 8 ⊖ var 5 ⊗ var 7) ⊖ var 1 ⊗ (var 3 ⊗ var 8 ⊖ var 5 ⊗ var 6) ⊕ var 2 ⊗ (var 3 ⊗ var 7 ⊖ var 4 ⊗ var 6)) ⊗ var 9)
    ((var 0 ⊗ var 9 ⊕ var 1 ⊗ var 10 ⊕ var 2 ⊗ var 11) ⊗ (var 4 ⊗ var 8 ⊖ var 5 ⊗ var 7)
    ⊖ var 1 ⊗ ((var 3 ⊗ var 9 ⊕ var 4 ⊗ var 10 ⊕ var 5 ⊗ var 11) ⊗ var 8 ⊖ var 5 ⊗ (var 6 ⊗ var 9 ⊕ var 7 ⊗ var 10 ⊕ var 8 ⊗ var 11))
    ⊕ var 2 ⊗ ((var 3 ⊗ var 9 ⊕ var 4 ⊗ var 10 ⊕ var 5 ⊗ var 11) ⊗ var 7 ⊖ var 4 ⊗ (var 6 ⊗ var 9 ⊕ var 7 ⊗ var 10 ⊕ var 8 ⊗ var 11)))
    refl
