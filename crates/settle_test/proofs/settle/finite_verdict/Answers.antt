use Rattle.std.proofs.Common.{sym, pos, to_z, of_z}
use Rattle.std.proofs.lemmas.Int.{to_z-of_z}
use mir.Syntax.{w64}
use Rattle.level_table.proofs.Numbers.{fits_level}
use Rattle.settle_test.proofs.Settling.{none_by_code, some_by_code, fine_by_code, above_from, state_ready}
use Rattle.settle_test.proofs.settle.finite_verdict.Goals as goal

pub returns-in-EmptyState : goal.returns-in-EmptyState
returns-in-EmptyState c =
    let state = state_ready c.args.p.now c.args.levels.now c.args.prepared.now c.args.row c.directions.result c.args.level c.requires.level c.directions.ensures c.requires.ready in
    none_by_code _ c.args.levels.now c.args.slack c.args.row c.directions.result c.args.prepared.now.state c.args.level _ c.requires.level c.directions.ensures state (to_z-of_z w64 c.args.level c.ranges.level) c.in-EmptyState.ensures

pub returns-then-is_above : goal.returns-then-is_above
returns-then-is_above c =
    let state = state_ready c.args.p.now c.args.levels.now c.args.prepared.now c.args.row c.directions.result c.args.level c.requires.level c.directions.ensures c.requires.ready in
    fine_by_code _ c.args.levels.now c.args.slack c.args.row c.directions.result c.args.prepared.now.state c.args.level c.in-Level.found c.in-Level.profile c.in-Level.point c.in-Level.reached
    c.rules.ensures c.requires.level c.directions.ensures state c.in-Level.ensures
    (above_from c.args.level c.in-Level.found _ _ (pos c.args.slack) (to_z-of_z w64 c.args.level c.ranges.level) (fits_level c.in-Level.found c.in-Level.ensures.level_small) (c.is_above.ensures.0 c.if-is_above.true))

pub returns-else-is_above : goal.returns-else-is_above
returns-else-is_above c =
    let state = state_ready c.args.p.now c.args.levels.now c.args.prepared.now c.args.row c.directions.result c.args.level c.requires.level c.directions.ensures c.requires.ready in
    some_by_code _ c.args.levels.now c.args.slack c.args.row c.directions.result c.args.prepared.now.state c.args.level _ c.in-Level.found c.in-Level.profile c.in-Level.point c.in-Level.reached
    c.rules.ensures c.requires.level c.directions.ensures state (to_z-of_z w64 c.args.level c.ranges.level) c.in-Level.ensures
    (λ h. let e = c.is_above.ensures.1 (above_from (to_z w64 (of_z w64 c.args.level)) (to_z w64 (of_z w64 c.in-Level.found)) c.args.level c.in-Level.found (pos c.args.slack) (sym (to_z-of_z w64 c.args.level c.ranges.level)) (sym (fits_level c.in-Level.found c.in-Level.ensures.level_small)) h) in let f = c.if-is_above.false in cc)
