use Rattle.std.proofs.Common.{◌≡◌, ◌+◌, ◌*◌, ◌≤◌, length, vec_capacity}
use Rattle.game_model.specs.Game.{counts, profile_count}
use Rattle.level_table.specs.Levels.{levels_in}
use Rattle.set_operator.specs.Lines.{AreAll}
use Rattle.set_operator.proofs.lines.add_asks.Given as goal

abbrev pub invariant-loop-a : goal.invariant-loop-a
invariant-loop-a l = record {
  count : length l.asks.items ≡ l.i * profile_count (counts l.fn.p.game l.fn.state) + l.a;
  each : AreAll l.fn.p (levels_in l.fn.levels) l.fn.state l.asks.items;
  room : vec_capacity l.fn.asks ≤ vec_capacity l.asks;
}
