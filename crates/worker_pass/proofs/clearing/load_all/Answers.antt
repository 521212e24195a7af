use Rattle.worker_pass.proofs.Falling.{same_table, seen_on}
use Rattle.worker_pass.proofs.clearing.load_all.Goals as goal

pub returns-clause-loaded : goal.returns-clause-loaded
returns-clause-loaded c =
    same_table c.args.board.now.frame c.load_rows.new.scratch.levels c.load_rows.new.owner.seen c.rules.ensures c.load_rows.ensures.scratch.table
    (seen_on _ _ _ c.load_rows.ensures.owner c.rules-2.ensures.seen) c.load_rows.ensures.loaded
