use Rattle.std.proofs.Common.{◌≤◌, ◌-◌, [], ◌∷◌, ap, subst, sym, ◌∙◌, refl, rules}
use Rattle.std.specs.Prelude.{◌*ℤ◌, ◌-ℤ◌}
use Rattle.std.specs.Int.{w64}
use Rattle.std.specs.Int.RustNames.{FitsSigned, unsigned_abs}
use Rattle.std.proofs.lemmas.Int.{to_z-of_z}
use Rattle.exact_algebra.specs.Poly.{var, ◌⊖◌, ◌⊗◌}
use Rattle.exact_algebra.proofs.Normal.{ring}
use Rattle.lp_cert.specs.Program.{entry}
use Rattle.lp_core.specs.Planar.{half_line}
use Rattle.lp_core.proofs.Narrow.{difference_within}
use Rattle.lp_core.proofs.edge.Edge.rest.Goals as goal

pub returns-clause-value : goal.returns-clause-value
returns-clause-value c =
    let e = c.args.self.now in
    let o = c.args.objective in
    let k = 1 - e.place in
    let f1 : FitsSigned w64 c.weight-own.result = record { sfits = c.weight-own.type_inv } in
    let f3 : FitsSigned w64 c.weight-other.result = record { sfits = c.weight-other.type_inv } in
    let f4 : FitsSigned w64 c.args.self.now.other = search rules in
    let f5 : FitsSigned w64 c.args.self.now.size = search rules in
    let f6 : FitsSigned w64 c.difference.result = record { sfits = c.difference.type_inv } in
    let d = simp to_z-of_z at c.difference.ensures in
    simp to_z-of_z (d ∙ ap (λ z. e.size *ℤ z -ℤ e.other *ℤ c.weight-own.result) c.weight-other.ensures.value
    ∙ ap (λ z. e.size *ℤ entry o k -ℤ z *ℤ c.weight-own.result) (sym e.is_other)
    ∙ ap (λ z. e.size *ℤ entry o k -ℤ (e.sign *ℤ entry (half_line e.row).c k) *ℤ z) c.weight-own.ensures.value
    ∙ ring (e.size ∷ entry o k ∷ entry (half_line e.row).c k ∷ e.sign ∷ entry o e.place ∷ []) (var 0 ⊗ var 1 ⊖ (var 3 ⊗ var 2) ⊗ var 4) (var 0 ⊗ var 1 ⊖ (var 3 ⊗ var 4) ⊗ var 2) refl)

pub returns-clause-small : goal.returns-clause-small
returns-clause-small c =
    let e = c.args.self.now in
    let f1 : FitsSigned w64 c.weight-own.result = record { sfits = c.weight-own.type_inv } in
    let f3 : FitsSigned w64 c.weight-other.result = record { sfits = c.weight-other.type_inv } in
    let f4 : FitsSigned w64 c.args.self.now.other = search rules in
    let f5 : FitsSigned w64 c.args.self.now.size = search rules in
    let f6 : FitsSigned w64 c.difference.result = record { sfits = c.difference.type_inv } in
    let d = simp to_z-of_z at c.difference.ensures in
    let s = difference_within e.size c.weight-other.result e.other c.weight-own.result 3 8192 3 8192 e.small_size c.weight-other.ensures.small e.small_other c.weight-own.ensures.small in
    simp to_z-of_z (subst (λ z. unsigned_abs z ≤ 49152) (sym d) s)
