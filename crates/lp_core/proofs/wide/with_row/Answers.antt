use Rattle.std.proofs.Common.{◌≡◌, ◌≤◌, ◌+◌, ◌*◌, ◌^◌, ap, refl, sym, subst, ◌∙◌, arith, lit<, lit≤}
use Rattle.std.specs.Int.{w128}
use Rattle.std.specs.Int.RustNames.{FitsSigned, unsigned_abs}
use Rattle.std.proofs.lemmas.Int.{to_z-of_z}
use Rattle.lp_cert.specs.Program.{entry}
use Rattle.lp_core.specs.Bounds.{IsCut, IsMissed, left_entry, left_side}
use Rattle.lp_core.specs.Lines.{line_at}
use Rattle.lp_core.specs.Sizes.{IsSmallLine}
use Rattle.lp_core.specs.Wide.{reach_of}
use Rattle.lp_core.proofs.Fits.{fits, at_place}
use Rattle.lp_core.proofs.Steps.{eliminated_small}
use Rattle.lp_core.proofs.wide.with_row.Goals as goal

pub cut-requires-clause-entry : goal.cut-requires-clause-entry
cut-requires-clause-entry c =
    let p = c.args.pivot.now in
    let x = c.line.result in
    let y = c.eliminated-left.result in
    let k = c.args.k in
    let small : IsSmallLine 3 (2 ^ 65) c.line.result = subst (λ z. IsSmallLine 3 (2 ^ 65) z) (sym c.line.ensures) c.requires.small in
    let fit : IsSmallLine (3 * 3 + 3 * 3) (3 * 2 ^ 65 + 3 * 2 ^ 65) c.eliminated-left.result = eliminated_small p x y 3 (2 ^ 65) (lit≤ tt) c.requires.own small c.eliminated-left.ensures in
    let entry_small : unsigned_abs (entry c.eliminated-left.result.c c.args.k) ≤ 18 = at_place 18 k y.c c.requires.place fit.entries in
    let side_small = fit.side in
    let f1 : FitsSigned w128 (entry c.eliminated-left.result.c c.args.k) = fits _ _ entry_small (lit< tt) in
    let f2 : FitsSigned w128 c.eliminated-left.result.h = fits _ _ side_small (lit< tt) in
    simp to_z-of_z entry_small

pub cut-requires-clause-side : goal.cut-requires-clause-side
cut-requires-clause-side c =
    let p = c.args.pivot.now in
    let x = c.line.result in
    let y = c.eliminated-left.result in
    let k = c.args.k in
    let small : IsSmallLine 3 (2 ^ 65) c.line.result = subst (λ z. IsSmallLine 3 (2 ^ 65) z) (sym c.line.ensures) c.requires.small in
    let fit : IsSmallLine (3 * 3 + 3 * 3) (3 * 2 ^ 65 + 3 * 2 ^ 65) c.eliminated-left.result = eliminated_small p x y 3 (2 ^ 65) (lit≤ tt) c.requires.own small c.eliminated-left.ensures in
    let entry_small : unsigned_abs (entry c.eliminated-left.result.c c.args.k) ≤ 18 = at_place 18 k y.c c.requires.place fit.entries in
    let side_small = fit.side in
    let f1 : FitsSigned w128 (entry c.eliminated-left.result.c c.args.k) = fits _ _ entry_small (lit< tt) in
    let f2 : FitsSigned w128 c.eliminated-left.result.h = fits _ _ side_small (lit< tt) in
    simp to_z-of_z (omega (arith, side_small))

pub returns-in-Some : goal.returns-in-Some
returns-in-Some c =
    let p = c.args.pivot.now in
    let x = c.line.result in
    let y = c.eliminated-left.result in
    let k = c.args.k in
    let small : IsSmallLine 3 (2 ^ 65) c.line.result = subst (λ z. IsSmallLine 3 (2 ^ 65) z) (sym c.line.ensures) c.requires.small in
    let fit : IsSmallLine (3 * 3 + 3 * 3) (3 * 2 ^ 65 + 3 * 2 ^ 65) c.eliminated-left.result = eliminated_small p x y 3 (2 ^ 65) (lit≤ tt) c.requires.own small c.eliminated-left.ensures in
    let entry_small : unsigned_abs (entry c.eliminated-left.result.c c.args.k) ≤ 18 = at_place 18 k y.c c.requires.place fit.entries in
    let side_small = fit.side in
    let f1 : FitsSigned w128 (entry c.eliminated-left.result.c c.args.k) = fits _ _ entry_small (lit< tt) in
    let f2 : FitsSigned w128 c.eliminated-left.result.h = fits _ _ side_small (lit< tt) in
    let is = simp to_z-of_z at c.in-Some.ensures in
    let from : y.h ≡ left_side p (line_at c.args.program.now.lines c.args.l) = c.eliminated-left.ensures.side ∙ ap (λ z. left_side p z) c.line.ensures in
    let entry_from : entry y.c k ≡ left_entry p (line_at c.args.program.now.lines c.args.l) k = c.eliminated-left.ensures.entries k c.requires.place ∙ ap (λ z. left_entry p z k) c.line.ensures in
    subst (λ z. IsCut (reach_of c.args.ends) z (left_side p (line_at c.args.program.now.lines c.args.l)) c.args.l (reach_of c.in-Some.ends)) entry_from
    (subst (λ z. IsCut (reach_of c.args.ends) (entry y.c k) z c.args.l (reach_of c.in-Some.ends)) from is)

pub returns-in-None : goal.returns-in-None
returns-in-None c =
    let p = c.args.pivot.now in
    let x = c.line.result in
    let y = c.eliminated-left.result in
    let k = c.args.k in
    let small : IsSmallLine 3 (2 ^ 65) c.line.result = subst (λ z. IsSmallLine 3 (2 ^ 65) z) (sym c.line.ensures) c.requires.small in
    let fit : IsSmallLine (3 * 3 + 3 * 3) (3 * 2 ^ 65 + 3 * 2 ^ 65) c.eliminated-left.result = eliminated_small p x y 3 (2 ^ 65) (lit≤ tt) c.requires.own small c.eliminated-left.ensures in
    let entry_small : unsigned_abs (entry c.eliminated-left.result.c c.args.k) ≤ 18 = at_place 18 k y.c c.requires.place fit.entries in
    let side_small = fit.side in
    let f1 : FitsSigned w128 (entry c.eliminated-left.result.c c.args.k) = fits _ _ entry_small (lit< tt) in
    let f2 : FitsSigned w128 c.eliminated-left.result.h = fits _ _ side_small (lit< tt) in
    let is = simp to_z-of_z at c.in-None.ensures in
    let from : y.h ≡ left_side p (line_at c.args.program.now.lines c.args.l) = c.eliminated-left.ensures.side ∙ ap (λ z. left_side p z) c.line.ensures in
    let entry_from : entry y.c k ≡ left_entry p (line_at c.args.program.now.lines c.args.l) k = c.eliminated-left.ensures.entries k c.requires.place ∙ ap (λ z. left_entry p z k) c.line.ensures in (
      refl,
      subst (λ z. IsMissed z (left_side p (line_at c.args.program.now.lines c.args.l))) entry_from (subst (λ z. IsMissed (entry y.c k) z) from is),
    )
