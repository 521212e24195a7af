use Rattle.std.proofs.Common.{◌≡◌, [], ◌∷◌, refl, ap, subst, ◌∙◌, arith}
use Rattle.std.specs.Prelude.{ℤ, pos, ◌+ℤ◌, ◌-ℤ◌, ◌*ℤ◌, ◌<ℤ◌, neg_ℤ}
use Rattle.std.proofs.lemmas.Int.{ints}
use Rattle.exact_algebra.specs.Poly.{var, neg, ◌⊕◌, ◌⊖◌, ◌⊗◌}
use Rattle.exact_algebra.proofs.Normal.{ring}
use Rattle.hull_weights.specs.declared.cone.Cone.{Cone}
use Rattle.hull_weights.specs.Cone.{IsInCone}
use Rattle.hull_weights.proofs.Sizes.{arrow_difference, arrow_difference_small, arrow_neg, arrow_neg_small}
use Rattle.hull_weights.proofs.cone.normal.Goals as goal

behind : (ax ay x y nx ny : ℤ) → nx ≡ neg_ℤ ax → ny ≡ neg_ℤ ay → pos 0 <ℤ (ax *ℤ x +ℤ ay *ℤ y) → (nx *ℤ x +ℤ ny *ℤ y) <ℤ pos 0
behind ax ay x y nx ny e f front =
    let is : nx *ℤ x +ℤ ny *ℤ y ≡ neg_ℤ (ax *ℤ x +ℤ ay *ℤ y) =
    ap (λ z. z *ℤ x +ℤ ny *ℤ y) e ∙ ap (λ z. neg_ℤ ax *ℤ x +ℤ z *ℤ y) f
    ∙ ring (ax ∷ ay ∷ x ∷ y ∷ []) (neg (var 0) ⊗ var 2 ⊕ neg (var 1) ⊗ var 3) (neg (var 0 ⊗ var 2 ⊕ var 1 ⊗ var 3)) refl in
    negative _ _ is front
  where
    negative : (a b : ℤ) → a ≡ neg_ℤ b → pos 0 <ℤ b → a <ℤ pos 0
    negative a b e h = omega (arith, ints)

between : (rx ry lx ly x y nx ny : ℤ) → nx ≡ ry -ℤ ly → ny ≡ lx -ℤ rx → (lx *ℤ y -ℤ ly *ℤ x) <ℤ (rx *ℤ y -ℤ ry *ℤ x) → (nx *ℤ x +ℤ ny *ℤ y) <ℤ pos 0
between rx ry lx ly x y nx ny e f apart =
    let is : nx *ℤ x +ℤ ny *ℤ y ≡ (lx *ℤ y -ℤ ly *ℤ x) -ℤ (rx *ℤ y -ℤ ry *ℤ x) =
    ap (λ z. z *ℤ x +ℤ ny *ℤ y) e ∙ ap (λ z. (ry -ℤ ly) *ℤ x +ℤ z *ℤ y) f
    ∙ ring (rx ∷ ry ∷ lx ∷ ly ∷ x ∷ y ∷ []) ((var 1 ⊖ var 3) ⊗ var 4 ⊕ (var 2 ⊖ var 0) ⊗ var 5) ((var 2 ⊗ var 5 ⊖ var 3 ⊗ var 4) ⊖ (var 0 ⊗ var 5 ⊖ var 1 ⊗ var 4)) refl in
    negative _ _ _ is apart
  where
    negative : (a b d : ℤ) → a ≡ b -ℤ d → b <ℤ d → a <ℤ pos 0
    negative a b d e h = omega (arith, ints)

pub returns-in-Ray-clause-small : goal.returns-in-Ray-clause-small
returns-in-Ray-clause-small c =
    let only = c.in-Ray.only in
    record { x_small = arrow_neg_small only.x only.x_small; y_small = arrow_neg_small only.y only.y_small }

pub returns-in-Ray-clause-behind : goal.returns-in-Ray-clause-behind
returns-in-Ray-clause-behind c x y h =
    let only = c.in-Ray.only in
    behind only.x only.y x y _ _ (arrow_neg only.x only.x_small) (arrow_neg only.y only.y_small)
    (subst (λ (cone : Cone). IsInCone cone x y) c.in-Ray.is h).1

pub returns-in-Wedge-clause-small : goal.returns-in-Wedge-clause-small
returns-in-Wedge-clause-small c =
    let right = c.in-Wedge.right in
    let left = c.in-Wedge.left in
    record {
      x_small = arrow_difference_small right.y left.y right.y_small left.y_small;
      y_small = arrow_difference_small left.x right.x left.x_small right.x_small;
    }

pub returns-in-Wedge-clause-behind : goal.returns-in-Wedge-clause-behind
returns-in-Wedge-clause-behind c x y h =
    let right = c.in-Wedge.right in
    let left = c.in-Wedge.left in
    between right.x right.y left.x left.y x y _ _
    (arrow_difference right.y left.y right.y_small left.y_small) (arrow_difference left.x right.x left.x_small right.x_small)
    (subst (λ (cone : Cone). IsInCone cone x y) c.in-Wedge.is h).2
