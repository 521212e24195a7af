use Rattle.std.proofs.Common.{ℕ, List, sym, subst}
use Rattle.direction_set.specs.DirectionTable.{IsDirectionTable}
use Rattle.level_table.specs.declared.reason.Note.{Note}
use Rattle.schedule_core.specs.Frame.{IsOpened, frame_from}
use Rattle.schedule_core.proofs.Opening.{opening_starts}
use Rattle.schedule_core.proofs.Room.{fresh_room}
use Rattle.worker_pass.proofs.tests.open_at_opening.Goals as goal

pub open-requires-clause-start : goal.open-requires-clause-start
open-requires-clause-start c =
    let f = frame_from c.args.game.now c.args.dirs.now c.args.grid c.in_ok-table.table in
    subst (λ (ns : List Note). IsOpened f ns) (sym (c.in-Ok.ensures {u = tt}).none) (opening_starts f (record {
      game = c.players.ensures.is_game;
      directions = subst (λ (m : ℕ). IsDirectionTable m c.args.dirs.now.vectors) c.requires.players c.rules.ensures.rules;
      grid = c.requires.grid;
    }) c.states.ensures.whole (c.in_ok-table.ensures {u = tt}).opened)

pub open-requires-clause-room : goal.open-requires-clause-room
open-requires-clause-room c = fresh_room c.args.game.now c.in-Ok.notes (c.in-Ok.ensures {u = tt}).spare (c.in-Ok.ensures {u = tt}).each
