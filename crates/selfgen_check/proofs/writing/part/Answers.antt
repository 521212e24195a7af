use Rattle.std.specs.Prelude.{pos, ◌<ℤ◌, unsigned_abs, ℤ}
use Rattle.std.proofs.Common.{◌≡◌, ◌++◌, ◌∷◌, [], List, ℕ, ◌<◌, ◌^◌, ◌∙◌, Result, Ok, Err, OnOk, append_assoc, arith, ap, subst}
use Rattle.std.specs.Int.{w64, w128}
use Rattle.std.specs.Int.RustNames.{FitsSigned}
use Rattle.std.proofs.lemmas.Int.{ints, to_z-of_z}
use Rattle.pay_frac.specs.Number.{lowest}
use Rattle.pay_frac.specs.Ratio.{Ratio, Equals}
use Rattle.pay_frac.proofs.Exactly.{lowest_is}
use Rattle.pay_frac.proofs.Laws.{same_number}
use Rattle.nfg_text.specs.Canonical.{ratio_text}
use Rattle.selfgen_check.specs.Canonical.{part_text}
use Rattle.selfgen_check.proofs.writing.part.Goals as goal

on_ok : {A E P Q : Type 0} (r : Result A E) → (P → Q) → OnOk r P → OnOk r Q
on_ok (Ok x) f h = f h
on_ok (Err e) f h = h

written : (out middle after : List ℕ) (f : Ratio) (z : ℤ) (n : ℕ) → f ≡ lowest z n → middle ≡ out ++ 32 ∷ [] → after ≡ middle ++ ratio_text f → after ≡ out ++ part_text n z
written out middle after f z n e g h =
    h ∙ ap (λ (m : List ℕ). m ++ ratio_text f) g ∙ append_assoc out (32 ∷ []) (ratio_text f) ∙ ap (λ (f : Ratio). out ++ 32 ∷ ratio_text f) e

pub returns : goal.returns
returns c =
    let z : ℤ = c.args.units in
    let n = c.args.common in
    let small : unsigned_abs z < 2 ^ 127 = omega (arith, ints, c.ranges.units.sfits) in
    let below : n < 2 ^ 127 = omega (arith, c.ranges.common) in
    let above : pos 0 <ℤ pos n = omega (arith, ints, c.requires) in
    let fits_a : FitsSigned w128 c.from.result = record { sfits = c.from.type_inv } in
    let fits_b : FitsSigned w128 c.from-2.result = record { sfits = c.from-2.type_inv } in
    let equal = simp to_z-of_z at c.of.ensures.equal in
    let over : Equals c.of.result c.from.result (pos n) = subst (λ (d : ℤ). Equals c.of.result c.from.result d) c.from-2.ensures equal in
    let same : Equals c.of.result z (pos n) = subst (λ (m : ℤ). Equals c.of.result m (pos n)) (c.from.ensures ∙ to_z-of_z w64 z c.ranges.units) over in
    let low = lowest_is z n c.requires small below in
    let e : c.of.result ≡ lowest z n = same_number c.of.result (lowest z n) z (pos n) above c.of.ensures.lowest same low.0 low.1 in
    on_ok c.ratio.result (λ h. written c.args.out.now c.put.new.list c.ratio.new.out c.of.result z n e c.in_ok-put.ensures h) c.ratio.ensures
