use Rattle.std.proofs.Common.{◌≡◌, ◌≤◌, ◌-◌, ◌^◌, [], ◌∷◌, refl, ap, subst, sym, ◌∙◌, arith, rules}
use Rattle.std.specs.Prelude.{ℤ, pos, cond, ◌*ℤ◌, ◌-ℤ◌}
use Rattle.std.specs.Int.{w64}
use Rattle.std.specs.Int.RustNames.{FitsSigned, unsigned_abs}
use Rattle.std.proofs.lemmas.Int.{to_z-of_z}
use Rattle.exact_algebra.specs.Normal.{is_nought}
use Rattle.exact_algebra.specs.Poly.{var, ◌⊖◌, ◌⊗◌}
use Rattle.exact_algebra.proofs.Normal.{ring}
use Rattle.lp_cert.specs.Program.{entry}
use Rattle.lp_core.specs.Planar.{half_line}
use Rattle.lp_core.proofs.Narrow.{difference_within}
use Rattle.lp_core.proofs.edge.Edge.cut.Goals as goal

-- a multiple less a multiple of what has the sign
left : (d f g a b s u v y w : ℤ) → d ≡ f *ℤ a -ℤ u *ℤ y → f ≡ g → a ≡ b → u ≡ v → s *ℤ w ≡ y → d ≡ g *ℤ b -ℤ (s *ℤ v) *ℤ w
left d f g a b s u v y w e i j k h =
    e ∙ ap (λ z. z *ℤ a -ℤ u *ℤ y) i ∙ ap (λ z. g *ℤ z -ℤ u *ℤ y) j ∙ ap (λ z. g *ℤ b -ℤ z *ℤ y) k ∙ ap (λ z. g *ℤ b -ℤ v *ℤ z) (sym h)
    ∙ ring (g ∷ b ∷ s ∷ v ∷ w ∷ []) (var 0 ⊗ var 1 ⊖ var 3 ⊗ (var 2 ⊗ var 4)) (var 0 ⊗ var 1 ⊖ (var 2 ⊗ var 3) ⊗ var 4) refl

pub returns-clause-entry : goal.returns-clause-entry
returns-clause-entry c =
    let e = c.args.self.now in
    let x = c.args.row in
    let own = entry (half_line x).c e.place in
    let f1 : FitsSigned w64 c.at-own.result = record { sfits = c.at-own.type_inv } in
    let f2 : FitsSigned w64 c.factor-factor.result = record { sfits = c.factor-factor.type_inv } in
    let f4 : FitsSigned w64 c.at-other.result = record { sfits = c.at-other.type_inv } in
    let f5 : FitsSigned w64 c.args.self.now.other = search rules in
    let f6 : FitsSigned w64 c.difference.result = record { sfits = c.difference.type_inv } in
    let f7 : FitsSigned w64 c.difference-2.result = record { sfits = c.difference-2.type_inv } in
    let f8 : FitsSigned w64 c.args.row.side = search rules in
    let f9 : FitsSigned w64 c.args.self.now.side = search rules in
    let d1 = simp to_z-of_z at c.difference.ensures in
    let d2 = simp to_z-of_z at c.difference-2.ensures in
    let v = simp to_z-of_z at c.factor-factor.ensures.value in
    let factor : c.factor-factor.result ≡ cond (is_nought own) (pos 1) e.size = v ∙ ap (λ z. cond (is_nought z) (pos 1) e.size) c.at-own.ensures.value in
    simp to_z-of_z (left c.difference.result c.factor-factor.result (cond (is_nought own) (pos 1) e.size) c.at-other.result (entry (half_line x).c (1 - e.place)) e.sign c.at-own.result own e.other (entry (half_line e.row).c (1 - e.place))
    d1 factor c.at-other.ensures.value c.at-own.ensures.value e.is_other)

pub returns-clause-side : goal.returns-clause-side
returns-clause-side c =
    let e = c.args.self.now in
    let x = c.args.row in
    let own = entry (half_line x).c e.place in
    let f1 : FitsSigned w64 c.at-own.result = record { sfits = c.at-own.type_inv } in
    let f2 : FitsSigned w64 c.factor-factor.result = record { sfits = c.factor-factor.type_inv } in
    let f4 : FitsSigned w64 c.at-other.result = record { sfits = c.at-other.type_inv } in
    let f5 : FitsSigned w64 c.args.self.now.other = search rules in
    let f6 : FitsSigned w64 c.difference.result = record { sfits = c.difference.type_inv } in
    let f7 : FitsSigned w64 c.difference-2.result = record { sfits = c.difference-2.type_inv } in
    let f8 : FitsSigned w64 c.args.row.side = search rules in
    let f9 : FitsSigned w64 c.args.self.now.side = search rules in
    let d1 = simp to_z-of_z at c.difference.ensures in
    let d2 = simp to_z-of_z at c.difference-2.ensures in
    let v = simp to_z-of_z at c.factor-factor.ensures.value in
    let factor : c.factor-factor.result ≡ cond (is_nought own) (pos 1) e.size = v ∙ ap (λ z. cond (is_nought z) (pos 1) e.size) c.at-own.ensures.value in
    simp to_z-of_z (left c.difference-2.result c.factor-factor.result (cond (is_nought own) (pos 1) e.size) x.side x.side e.sign c.at-own.result own e.side e.row.side d2 factor refl c.at-own.ensures.value e.is_side)

pub invariant_of-result : goal.invariant_of-result
invariant_of-result c =
    let e = c.args.self.now in
    let x = c.args.row in
    let own = entry (half_line x).c e.place in
    let f1 : FitsSigned w64 c.at-own.result = record { sfits = c.at-own.type_inv } in
    let f2 : FitsSigned w64 c.factor-factor.result = record { sfits = c.factor-factor.type_inv } in
    let f4 : FitsSigned w64 c.at-other.result = record { sfits = c.at-other.type_inv } in
    let f5 : FitsSigned w64 c.args.self.now.other = search rules in
    let f6 : FitsSigned w64 c.difference.result = record { sfits = c.difference.type_inv } in
    let f7 : FitsSigned w64 c.difference-2.result = record { sfits = c.difference-2.type_inv } in
    let f8 : FitsSigned w64 c.args.row.side = search rules in
    let f9 : FitsSigned w64 c.args.self.now.side = search rules in
    let d1 = simp to_z-of_z at c.difference.ensures in
    let d2 = simp to_z-of_z at c.difference-2.ensures in
    let v = simp to_z-of_z at c.factor-factor.ensures.value in
    let factor : c.factor-factor.result ≡ cond (is_nought own) (pos 1) e.size = v ∙ ap (λ z. cond (is_nought z) (pos 1) e.size) c.at-own.ensures.value in
    let s1 = difference_within c.factor-factor.result c.at-other.result c.at-own.result e.other 3 3 3 3 c.factor-factor.ensures.small c.at-other.ensures.small c.at-own.ensures.small e.small_other in
    let s2 = difference_within c.factor-factor.result x.side c.at-own.result e.side 3 (2 ^ 51) 3 (2 ^ 51) c.factor-factor.ensures.small x.small_side c.at-own.ensures.small e.small_side in
    let entry : unsigned_abs c.difference.result ≤ 18 = subst (λ z. unsigned_abs z ≤ 18) (sym d1) s1 in
    let side : unsigned_abs c.difference-2.result ≤ 2 ^ 54 = subst (λ z. unsigned_abs z ≤ 2 ^ 54) (sym d2) (omega (arith, s2)) in
    simp to_z-of_z (record { small_entry = entry; small_side = side })
