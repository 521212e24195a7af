use Rattle.inner_sets.proofs.Held.{refined_held}
use Rattle.inner_sets.proofs.settle.fn.refine.par_for_each_mut.Goals as goal

pub returns-else-stale-s : goal.returns-else-stale-s
returns-else-stale-s c = refined_held c.captures.game.now c.captures.n c.captures.summaries.now c.args.s c.args.row.now (c.requires.held c.if-stale-s.false)
