use Rattle.std.proofs.Common.{◌≡◌, ◌∙◌, [], ◌∷◌, refl, sym, arith, rules}
use Rattle.std.specs.Prelude.{pos, ◌*ℤ◌}
use Rattle.std.specs.Int.{w64}
use Rattle.std.specs.Int.RustNames.{FitsSigned}
use Rattle.std.proofs.lemmas.Int.{ints, to_z-of_z}
use Rattle.exact_algebra.specs.Poly.{var, lit, ◌⊕◌, ◌⊗◌}
use Rattle.exact_algebra.proofs.Normal.{ring}
use Rattle.lp_core.specs.Lines.{along}
use Rattle.lp_core.specs.Planar.{spot_num}
use Rattle.lp_core.proofs.Along.{along_is}
use Rattle.lp_core.proofs.edge.Spot.meets.Goals as goal

pub returns : goal.returns
returns c =
    let s = c.args.self.now in
    let x = c.args.row in
    let f1 : FitsSigned w64 c.sum.result = record { sfits = c.sum.type_inv } in
    let f2 : FitsSigned w64 c.multiple.result = record { sfits = c.multiple.type_inv } in
    let f3 : FitsSigned w64 c.args.row.first = search rules in
    let f4 : FitsSigned w64 c.args.row.second = search rules in
    let f5 : FitsSigned w64 c.args.row.side = search rules in
    let f6 : FitsSigned w64 c.args.self.now.first = search rules in
    let f7 : FitsSigned w64 c.args.self.now.second = search rules in
    let f8 : FitsSigned w64 c.args.self.now.den = search rules in
    let e1 = simp to_z-of_z at c.sum.ensures in
    let e2 = simp to_z-of_z at c.multiple.ensures in
    let left : c.sum.result ≡ along (x.first ∷ x.second ∷ pos 0 ∷ []) (spot_num s) =
    e1 ∙ ring (x.first ∷ x.second ∷ s.first ∷ s.second ∷ []) (var 0 ⊗ var 2 ⊕ var 1 ⊗ var 3) (var 0 ⊗ var 2 ⊕ (var 1 ⊗ var 3 ⊕ lit (pos 0) ⊗ lit (pos 0))) refl ∙ sym (along_is (x.first ∷ x.second ∷ pos 0 ∷ []) (spot_num s)) in
    let right : c.multiple.result ≡ x.side *ℤ s.den = e2 ∙ ring (s.den ∷ x.side ∷ []) (var 0 ⊗ var 1) (var 1 ⊗ var 0) refl in
    simp to_z-of_z (grind (arith, ints, left, right))
