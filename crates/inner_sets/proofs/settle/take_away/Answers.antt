use Rattle.std.proofs.Common.{◌≢◌, sym, ◌∙◌, arith}
use Rattle.inner_sets.proofs.Held.{held_again, summaries_after}
use Rattle.inner_sets.proofs.Rounds.{open_after, settled_after, sum_shrinks}
use Rattle.inner_sets.proofs.settle.take_away.Goals as goal

pub returns-then-now-left : goal.returns-then-now-left
returns-then-now-left g c = settled_after c.args.game.now c.args.n c.players-players.ensures.is_game c.requires.players c.rounds.rows c.rounds.summaries c.rounds.invariant.open_rows c.rounds.invariant.summaries c.refine.new.rows c.refine.ensures
    (sym c.points_left-now.ensures ∙ (c.if-now-left.true ∙ c.rounds.invariant.count))

pub rounds-smaller : goal.rounds-smaller
rounds-smaller g c =
    let ne : c.points_left-now.result ≢ c.rounds.left = c.if-now-left.false in
    omega (arith, c.points_left-now.ensures, sum_shrinks c.args.game.now c.args.n c.players-players.ensures.is_game c.requires.players c.rounds.rows c.rounds.summaries c.rounds.invariant.open_rows c.rounds.invariant.summaries c.refine.new.rows c.refine.ensures, c.rounds.invariant.count)

pub rounds-preserved : goal.rounds-preserved
rounds-preserved g c = record {
  open_rows = open_after c.args.game.now c.args.n c.players-players.ensures.is_game c.requires.players c.rounds.rows c.rounds.summaries c.rounds.invariant.open_rows c.rounds.invariant.summaries c.refine.new.rows c.refine.ensures;
  count = c.points_left-now.ensures;
  summaries = summaries_after c.args.game.now c.args.n c.players-players.ensures.is_game c.requires.players c.rounds.rows c.refine.new.rows c.rounds.summaries c.renew.new.summaries c.rounds.invariant.open_rows c.rounds.invariant.summaries c.refine.ensures (c.in_ok-renew.ensures {u = tt});
  held = held_again c.args.game.now c.args.n c.players-players.ensures.is_game c.requires.players c.rounds.rows c.refine.new.rows c.rounds.summaries c.renew.new.summaries c.rounds.invariant.open_rows c.rounds.invariant.summaries c.refine.ensures (c.in_ok-renew.ensures {u = tt}) c.mark.new.stale c.mark.ensures;
}
