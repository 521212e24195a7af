use Rattle.std.proofs.Common.{◌≡◌, ◌/◌, ℕ, sym, ap, subst, ◌∙◌}
use Rattle.level_table.specs.declared.level.Level.TheVariants.{Empty}
use Rattle.level_table.specs.Levels.{Table, levels_in}
use Rattle.level_table.specs.Operator.{IsRowLevel}
use Rattle.level_table.specs.Problem.{Problem, problem_of}
use Rattle.level_table.specs.Tables.{IsSmallTable}
use Rattle.schedule_core.specs.Core.{seen_by}
use Rattle.schedule_core.proofs.Events.{fit}
use Rattle.replay_run.proofs.Closed.{seen_small}
use Rattle.replay_run.proofs.moving.level_of.Goals as goal

pub row_level-requires-clause-table : goal.row_level-requires-clause-table
row_level-requires-clause-table c =
    let core = c.args.core.now in
    let is : problem_of c.game.result.now c.dirs.result.now c.grid.result ≡ core.frame.problem =
    (λ i. record { game = c.game.ensures.game i; directions = c.dirs.ensures.vectors i; grid = c.grid.ensures i }) ∙ sym c.requires.same in
    subst (λ (q : Problem). IsSmallTable q c.seen-seen.result.now) (sym is)
    (subst (λ (t : Table). IsSmallTable core.frame.problem t) (sym c.seen-seen.ensures)
    (seen_small core.frame (seen_by core c.args.w) c.rules.ensures.frame (fit core c.args.w c.rules.ensures.valid c.requires.works).seen))

pub returns-in-EmptyState-clause-empty : goal.returns-in-EmptyState-clause-empty
returns-in-EmptyState-clause-empty c =
    let core = c.args.core.now in
    let p = problem_of c.game.result.now c.dirs.result.now c.grid.result in
    let is : p ≡ core.frame.problem =
    (λ i. record { game = c.game.ensures.game i; directions = c.dirs.ensures.vectors i; grid = c.grid.ensures i }) ∙ sym c.requires.same in
    let dirs : c.directions-directions.result ≡ core.frame.start.directions = c.directions-directions.ensures ∙ ap (λ (t : Table). t.directions) c.levels.ensures in
    let here : IsRowLevel p (levels_in c.seen-seen.result.now) (c.args.row / c.directions-directions.result) 0 Empty = c.in-EmptyState.ensures.answer in
    subst (λ (n : ℕ). IsRowLevel core.frame.problem (levels_in (seen_by core c.args.w)) (c.args.row / n) 0 Empty) dirs
    (subst (λ (t : Table). IsRowLevel core.frame.problem (levels_in t) (c.args.row / c.directions-directions.result) 0 Empty) c.seen-seen.ensures
    (subst (λ (q : Problem). IsRowLevel q (levels_in c.seen-seen.result.now) (c.args.row / c.directions-directions.result) 0 Empty) is here))
