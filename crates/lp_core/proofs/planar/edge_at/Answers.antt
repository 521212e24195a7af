use Rattle.std.proofs.Common.{◌≡◌, ◌≤◌, ◌^◌, to_z, of_z, subst, [], ◌∷◌, refl, sym, ap, ◌∙◌, arith, rules, lit<, lit≤}
use Rattle.std.specs.Prelude.{ℤ, pos, negsuc, ◌-ℤ◌, ◌*ℤ◌}
use Rattle.std.specs.Int.{w64}
use Rattle.std.specs.Int.RustNames.{FitsSigned, unsigned_abs}
use Rattle.std.proofs.lemmas.Int.{ints, to_z-of_z}
use Rattle.exact_algebra.specs.Poly.{var, lit, ◌⊖◌, ◌⊗◌}
use Rattle.exact_algebra.proofs.Normal.{ring}
use Rattle.lp_core.proofs.Narrow.{narrow}
use Rattle.lp_core.proofs.planar.edge_at.Goals as goal

opposite : (x y : ℤ) → y ≡ x → negsuc 0 *ℤ x ≡ pos 0 -ℤ y
opposite x y e = ring (x ∷ []) (lit (negsuc 0) ⊗ var 0) (lit (pos 0) ⊖ var 0) refl ∙ ap (λ z. pos 0 -ℤ z) (sym e)

pub invariant_of-result-then-entry-lt0 : goal.invariant_of-result-then-entry-lt0
invariant_of-result-then-entry-lt0 c =
    let place = c.requires in
    let s1 = c.at-entry.ensures.small in
    let s2 = c.at-other.ensures.small in
    let s3 = c.args.row.small_side in
    let f1 : FitsSigned w64 c.at-entry.result = record { sfits = c.at-entry.type_inv } in
    let f2 : FitsSigned w64 c.at-other.result = record { sfits = c.at-other.type_inv } in
    let f3 : FitsSigned w64 c.args.row.side = search rules in
    let f4 : FitsSigned w64 (pos 0 -ℤ c.at-entry.result) = narrow _ 3 (omega (arith, ints, s1)) (lit< tt) in
    let f5 : FitsSigned w64 (pos 0 -ℤ c.at-other.result) = narrow _ 3 (omega (arith, ints, s2)) (lit< tt) in
    let f6 : FitsSigned w64 (pos 0 -ℤ c.args.row.side) = narrow _ (2 ^ 51) (omega (arith, ints, s3)) (lit< tt) in
    let q1 : to_z w64 (of_z w64 (pos 0 -ℤ to_z w64 (of_z w64 c.at-entry.result))) ≡ pos 0 -ℤ c.at-entry.result = simp to_z-of_z in
    let q2 : to_z w64 (of_z w64 (pos 0 -ℤ to_z w64 (of_z w64 c.at-other.result))) ≡ pos 0 -ℤ c.at-other.result = simp to_z-of_z in
    let q3 : to_z w64 (of_z w64 (pos 0 -ℤ to_z w64 (of_z w64 c.args.row.side))) ≡ pos 0 -ℤ c.args.row.side = simp to_z-of_z in
    record {
      inside = omega (arith, place);
      planar = place;
      positive = omega (arith, ints);
      small_size = subst (λ z. unsigned_abs z ≤ 3) (sym q1) (omega (arith, ints, s1));
      small_sign = lit≤ tt;
      is_size = opposite _ _ c.at-entry.ensures.value ∙ sym q1;
      is_other = opposite _ _ c.at-other.ensures.value ∙ sym q2;
      is_side = opposite c.args.row.side c.args.row.side refl ∙ sym q3;
      small_other = subst (λ z. unsigned_abs z ≤ 3) (sym q2) (omega (arith, ints, s2));
      small_side = subst (λ z. unsigned_abs z ≤ 2 ^ 51) (sym q3) (omega (arith, ints, s3));
    }
