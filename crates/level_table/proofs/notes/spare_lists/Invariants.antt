use Rattle.std.proofs.Common.{◌≡◌, length}
use Rattle.level_table.specs.Room.{AreSpare}
use Rattle.level_table.proofs.notes.spare_lists.Given as goal

abbrev pub invariant-loop : goal.invariant-loop
invariant-loop l = record {
  count : length l.lists.items ≡ l.counter;
  each : AreSpare l.each l.lists.items;
}
