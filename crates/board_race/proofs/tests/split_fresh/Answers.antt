use Rattle.std.proofs.Common.{sym, subst, ◌∙◌}
use Rattle.board_race.specs.Fall.{IsFresh}
use Rattle.board_race.proofs.Fall.{fresh_after}
use Rattle.board_race.proofs.tests.split_fresh.Goals as goal

pub returns-clause-fresh : goal.returns-clause-fresh
returns-clause-fresh c = subst (IsFresh c.args.board.now.frame) (sym c.split.ensures.first) (fresh_after c.args.board.now.frame c.args.owner.now.seen _ c.requires.fresh)

pub returns-clause-ready : goal.returns-clause-ready
returns-clause-ready c = record {
  board = c.split.ensures.same ∙ c.requires.board;
  row = c.requires.row;
  fresh = subst (IsFresh c.args.board.now.frame) (sym (c.split.ensures.copy ∙ c.split.ensures.first)) (fresh_after c.args.board.now.frame c.args.owner.now.seen _ c.requires.fresh);
}
