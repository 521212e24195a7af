use Rattle.std.proofs.Common.{sym, subst, ◌∙◌}
use Rattle.level_table.specs.Levels.{IsNumber, Table}
use Rattle.worker_pass.specs.Updates.{IsUpdated}
use Rattle.worker_pass.proofs.Rows.{updated_at}
use Rattle.worker_pass.proofs.updating.update.Goals as goal

pub returns-in-At-clause-updated : goal.returns-in-At-clause-updated
returns-in-At-clause-updated c =
    let f = c.args.board.now.frame in
    let v = c.args.pass.now.seen in
    let v' = c.lower_to_row_level.new.pass.seen in
    subst (λ (t : Table). IsUpdated f v v' t c.args.row c.lower_to_row_level.result) (sym c.lower_to_row_level.ensures.levels)
    (updated_at f v c.load_for.new.pass.seen v' c.args.scratch.now.levels c.load_for.new.scratch.levels c.args.row c.lower_to_row_level.result c.load_for.ensures.loaded c.load_for.ensures.here
    (subst IsNumber (sym (c.load_for.ensures.level ∙ c.in-At.is)) tt) (c.load_for.ensures.after (subst IsNumber (sym c.in-At.is) tt)) c.lower_to_row_level.ensures.lowering)
