use Rattle.std.proofs.Common.{ℕ, List, sym, ap, subst, ◌∙◌, lit≤}
use Rattle.direction_set.specs.DirectionTable.{DirectionTable, IsDirectionTable}
use Rattle.game_model.specs.Game.{DynamicGame}
use Rattle.level_table.specs.declared.reason.Note.{Note}
use Rattle.level_table.specs.Problem.{problem_of}
use Rattle.schedule_core.specs.Frame.{Frame, IsOpened, frame_from}
use Rattle.schedule_core.proofs.Opening.{opening_starts}
use Rattle.schedule_core.proofs.Room.{fresh_room}
use Rattle.board_race.specs.Fall.{IsFresh}
use Rattle.board_race.proofs.Fall.{fresh_opening}
use Rattle.board_race.proofs.tests.open_falling.Goals as goal

pub open-requires-clause-start : goal.open-requires-clause-start
open-requires-clause-start c =
    let f = frame_from c.args.game.now c.args.dirs.now 4 c.in_ok-table.table in
    let players = ap (λ (d : DirectionTable). d.players) c.requires.dirs ∙ sym (ap (λ (g : DynamicGame). g.players) c.requires.game) in
    subst (λ (ns : List Note). IsOpened f ns) (sym (c.in-Ok.ensures {u = tt}).none) (opening_starts f (record {
      game = c.players.ensures.is_game;
      directions = subst (λ (m : ℕ). IsDirectionTable m c.args.dirs.now.vectors) players c.rules.ensures.rules;
      grid = lit≤ tt;
    }) c.states.ensures.whole (c.in_ok-table.ensures {u = tt}).opened)

pub open-requires-clause-room : goal.open-requires-clause-room
open-requires-clause-room c = fresh_room c.args.game.now c.in-Ok.notes (c.in-Ok.ensures {u = tt}).spare (c.in-Ok.ensures {u = tt}).each

pub returns-in-Ok-open-clause-fresh : goal.returns-in-Ok-open-clause-fresh
returns-in-Ok-open-clause-fresh c =
    let made = c.in-Ok-open.ensures {u = tt} in
    let fresh = fresh_opening (problem_of c.args.game.now c.args.dirs.now 4) c.in_ok-table.table (λ i. record { game = c.requires.game i; directions = (c.requires.dirs i).vectors; grid = 4 }) (c.in_ok-table.ensures {u = tt}).opened in
    subst (λ (f : Frame). IsFresh f c.in-Ok-open.made.1.seen) (sym made.frame) (subst (IsFresh (frame_from c.args.game.now c.args.dirs.now 4 c.in_ok-table.table)) (sym made.seen) fresh)
