use Rattle.std.proofs.Common.{◌≡◌, ◌<◌, ◌≤◌, length, refl, sym, subst, arith}
use Rattle.lp_core.specs.Lines.{all_seen}
use Rattle.lp_core.specs.Planar.{whole_of}
use Rattle.lp_core.specs.Search.{IsOutcome}
use Rattle.lp_core.specs.Smaller.{rest_of, smaller}
use Rattle.lp_core.proofs.Edges.{step_of}
use Rattle.lp_core.proofs.Halves.{whole_count}
use Rattle.lp_core.proofs.Planes.{plane_objective, plane_small, plane_turned}
use Rattle.lp_core.proofs.Turned.{outcome_back_is}
use Rattle.lp_core.proofs.Views.{smaller_count}
use Rattle.lp_core.proofs.plane.walked.Goals as goal

pub rows_on-left-requires-clause-within : goal.rows_on-left-requires-clause-within
rows_on-left-requires-clause-within c = omega (arith, c.requires.within, whole_count c.args.rows.now)

pub rows_on-left-requires-clause-own : goal.rows_on-left-requires-clause-own
rows_on-left-requires-clause-own c =
    let P = c.args.rows.now in
    let within : c.args.r < length P.rows = omega (arith, c.requires.within, whole_count P) in
    plane_small P c.args.r c.args.pivot.now.line c.requires.program c.requires.dimension within (c.if-not-are_small.ensures refl c.args.r within) c.requires.line

pub objective_on-requires-clause-own : goal.objective_on-requires-clause-own
objective_on-requires-clause-own c =
    let P = c.args.rows.now in
    let within : c.args.r < length P.rows = omega (arith, c.requires.within, whole_count P) in
    plane_small P c.args.r c.args.pivot.now.line c.requires.program c.requires.dimension within (c.if-not-are_small.ensures refl c.args.r within) c.requires.line

pub objective_on-requires-clause-small : goal.objective_on-requires-clause-small
objective_on-requires-clause-small c = plane_objective c.args.rows.now c.args.objective c.requires.program c.requires.dimension c.requires.reduced

pub returns : goal.returns
returns c =
    let P = c.args.rows.now in
    let v = c.args.pivot.now in
    let o = c.args.objective in
    let r = c.args.r in
    let Q = c.rows_on-left.result in
    let h = c.requires.program in
    let three = c.requires.dimension in
    let within : c.args.r < length P.rows = omega (arith, c.requires.within, whole_count P) in
    let s = step_of (whole_of P) o r v c.requires.reduced c.requires.within c.requires.line in
    let t = plane_turned P v o r Q s h three within c.rules.ensures c.rows_on-left.ensures.dimension c.rows_on-left.ensures.count c.rows_on-left.ensures.each in
    let six : 6 ≤ length (smaller v (whole_of P) r).lines = omega (arith, smaller_count v (whole_of P) r, whole_count P, h.has_box, three) in
    subst (λ x. IsOutcome all_seen (smaller v (whole_of P) r) (rest_of v o) x) (sym c.outcome_back.ensures)
    (outcome_back_is v.place v.inside (smaller v (whole_of P) r) (whole_of Q) six t (rest_of v o) c.objective_on.result c.in_ok-outcome.outcome c.objective_on.ensures.entries c.in_ok-outcome.ensures)
