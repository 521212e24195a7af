use Rattle.std.proofs.Common.{◌≡◌, ◌≤◌, ◌^◌, refl, ap, sym, subst, ◌∙◌, arith, lit<, rules}
use Rattle.std.specs.Prelude.{pos, ◌+ℤ◌, ◌*ℤ◌, ◌≤ℤ◌, false, true}
use Rattle.std.specs.Int.{w128}
use Rattle.std.specs.Int.RustNames.{FitsSigned, unsigned_abs}
use Rattle.std.proofs.lemmas.Int.{by_lt_z, to_z-of_z}
use Rattle.lp_cert.specs.Program.{entry}
use Rattle.lp_core.specs.Bounds.{IsPeak, IsSeenRow, left_objective}
use Rattle.lp_core.specs.Lines.{all_seen}
use Rattle.lp_core.specs.Search.{IsBest, IsEmpty}
use Rattle.lp_core.specs.Sizes.{IsSmallLine}
use Rattle.lp_core.specs.Smaller.{rest_of, smaller}
use Rattle.lp_core.specs.Wide.{peak_of, reach_of}
use Rattle.lp_core.proofs.Edges.{step_of}
use Rattle.lp_core.proofs.Fits.{fits}
use Rattle.lp_core.proofs.Levels.{objective_fits}
use Rattle.lp_core.proofs.Lines.{apart_empty, crossed_empty, inner_best, lines_small, rest_small}
use Rattle.lp_core.proofs.Smaller.{small_line}
use Rattle.lp_core.proofs.wide.solved.Goals as goal

never : {A : Type 0} → false ≡ true → A
never e = absurd (grind (arith, e))

pub ends-requires-clause-within : goal.ends-requires-clause-within
ends-requires-clause-within c = let h = c.requires.other in c.requires.reduced.boxes c.args.k h.inside h.stays

pub ends-requires-clause-own : goal.ends-requires-clause-own
ends-requires-clause-own c =
    let P = c.args.program.now in
    let o = c.args.objective in
    let r = c.args.r in
    let v = c.args.pivot.now in
    let k = c.args.k in
    let h = c.requires.other in
    let s = step_of P o r v c.requires.reduced c.requires.within c.requires.line in
    subst (λ x. IsSmallLine 3 (2 ^ 65) x) (sym c.requires.line) (lines_small P o r v (smaller v P r) (rest_of v o) s k h.inside h.apart h.stays h.lone r c.requires.within)

pub ends-requires-clause-small : goal.ends-requires-clause-small
ends-requires-clause-small c =
    let P = c.args.program.now in
    let o = c.args.objective in
    let r = c.args.r in
    let v = c.args.pivot.now in
    let k = c.args.k in
    let h = c.requires.other in
    let s = step_of P o r v c.requires.reduced c.requires.within c.requires.line in
    lines_small P o r v (smaller v P r) (rest_of v o) s k h.inside h.apart h.stays h.lone

pub returns-in-Err : goal.returns-in-Err
returns-in-Err c =
    let P = c.args.program.now in
    let o = c.args.objective in
    let r = c.args.r in
    let v = c.args.pivot.now in
    let k = c.args.k in
    let h = c.requires.other in
    let s = step_of P o r v c.requires.reduced c.requires.within c.requires.line in
    let apart = c.in-Err.ensures in
    subst (λ xs. IsEmpty (smaller v P r) xs) (sym c.two.ensures) (apart_empty P o r v (smaller v P r) (rest_of v o) s k h.inside h.apart h.stays h.lone c.in-Err.l apart.row apart.none apart.side)

pub returns-then-cross : goal.returns-then-cross
returns-then-cross c =
    let P = c.args.program.now in
    let o = c.args.objective in
    let r = c.args.r in
    let v = c.args.pivot.now in
    let k = c.args.k in
    let h = c.requires.other in
    let s = step_of P o r v c.requires.reduced c.requires.within c.requires.line in
    let e = c.in-Ok.ends in
    let f1 : FitsSigned w128 c.in-Ok.ends.upper.entry = search rules in
    let f2 : FitsSigned w128 c.in-Ok.ends.lower.entry = search rules in
    let items = simp to_z-of_z at c.two-then-cross.ensures in
    subst (λ xs. IsEmpty (smaller v P r) xs) (sym items) (crossed_empty P o r v (smaller v P r) (rest_of v o) s k h.inside h.apart h.stays h.lone (IsSeenRow P r) (reach_of e) c.in-Ok.ensures e.upper.small_entry e.lower.small_entry (c.if-cross.ensures.0 refl))

pub rest-rest-requires-clause-own : goal.rest-rest-requires-clause-own
rest-rest-requires-clause-own c = small_line c.args.program.now c.args.objective c.args.r c.args.pivot.now.line c.requires.reduced c.requires.within c.requires.line

pub rest-rest-requires-clause-small : goal.rest-rest-requires-clause-small
rest-rest-requires-clause-small c = objective_fits _ c.args.objective c.requires.reduced.objective

pub tip-requires : goal.tip-requires
tip-requires c =
    let P = c.args.program.now in
    let o = c.args.objective in
    let r = c.args.r in
    let v = c.args.pivot.now in
    let k = c.args.k in
    let h = c.requires.other in
    let s = step_of P o r v c.requires.reduced c.requires.within c.requires.line in
    let rest_is = c.rest-rest.ensures in
    let small : unsigned_abs (entry c.rest-rest.result c.args.k) ≤ 49152 = subst (λ z. unsigned_abs (entry z k) ≤ 49152) (sym rest_is) (rest_small P o r v (smaller v P r) (rest_of v o) s k h.inside h.apart h.stays h.lone) in
    let f1 : FitsSigned w128 (entry c.rest-rest.result c.args.k) = fits _ _ small (lit< tt) in
    simp to_z-of_z small

pub returns : goal.returns
returns c =
    let P = c.args.program.now in
    let o = c.args.objective in
    let r = c.args.r in
    let v = c.args.pivot.now in
    let k = c.args.k in
    let h = c.requires.other in
    let s = step_of P o r v c.requires.reduced c.requires.within c.requires.line in
    let rest_is = c.rest-rest.ensures in
    let small : unsigned_abs (entry c.rest-rest.result c.args.k) ≤ 49152 = subst (λ z. unsigned_abs (entry z k) ≤ 49152) (sym rest_is) (rest_small P o r v (smaller v P r) (rest_of v o) s k h.inside h.apart h.stays h.lone) in
    let f1 : FitsSigned w128 (entry c.rest-rest.result c.args.k) = fits _ _ small (lit< tt) in
    let e = reach_of c.in-Ok.ends in
    let t = c.tip.result in
    let tip0 : IsPeak (reach_of c.in-Ok.ends) (entry c.rest-rest.result c.args.k) (peak_of c.tip.result) = simp to_z-of_z at c.tip.ensures in
    let tip : IsPeak e (left_objective v o k) (peak_of t) = subst (λ z. IsPeak e z (peak_of t)) (ap (λ z. entry z k) rest_is ∙ s.is_rest k h.inside) tip0 in
    let open_ : pos 0 ≤ℤ (e.lower.entry *ℤ e.upper.side +ℤ e.upper.entry *ℤ e.lower.side) =
    by_lt_z (e.lower.entry *ℤ e.upper.side +ℤ e.upper.entry *ℤ e.lower.side) (pos 0) (λ l. never (c.if-cross.ensures.1 l)) (λ l. l) in
    let a = t.small_at in
    subst (λ b. IsBest all_seen (smaller v P r) (rest_of v o) b) (sym c.optimum.ensures)
    (inner_best P o r v (smaller v P r) (rest_of v o) s k h.inside h.apart h.stays h.lone e (peak_of t) c.in-Ok.ensures open_ tip (omega (arith, a)) t.small_den t.small_times)
