use Rattle.std.proofs.Common.{◌≡◌, ◌<◌, length, sym, ap, subst, ◌∙◌, refl, arith}
use Rattle.atomic_table.specs.Table.{Me}
use Rattle.level_table.specs.Levels.{Table}
use Rattle.schedule_core.specs.declared.event.Event.TheVariants as events
use Rattle.schedule_core.specs.Frame.{rows_of}
use Rattle.schedule_core.proofs.Levels.{some_row}
use Rattle.level_board.specs.declared.view.View.{View}
use Rattle.level_board.specs.Board.{BoardId, PassView}
use Rattle.level_board.proofs.Moments.{event_along}
use Rattle.level_board.proofs.Steps.{splits}
use Rattle.level_board.proofs.Told.{level_written}
use Rattle.level_board.proofs.board.Board.split_pass.Goals as goal

pub load-requires-clause-row : goal.load-requires-clause-row
load-requires-clause-row c = subst (λ (b : BoardId). 0 < rows_of b.frame) c.self.view_is (some_row _ c.self.invariant.0)

pub split_seat-seat-requires : goal.split_seat-seat-requires
split_seat-seat-requires c =
    let board = ap (λ (p : PassView). p.board) c.pass.view_is ∙ c.load.ensures.board ∙ c.requires.board ∙ sym c.self.view_is in
    (ap (λ (b : BoardId). b.table) board, omega (arith, c.self.invariant.1), splits _ _ _ c.pass.invariant.0.unspent)

pub returns-clause-event : goal.returns-clause-event
returns-clause-event c =
    let mine : c.split_seat-seat.new.seat.me.0.seen ≡ c.pass.inside.seat.me.0.seen = ap (λ (m : Me (Unit {0}) View). m.0.seen) c.split_seat-seat.ensures.2 in
    let new = mine ∙ ap (λ (p : PassView). p.seen) c.pass.view_is in
    let some = some_row _ c.pass.invariant.0.frame in
    let count = ap (λ (t : Table). length t.levels) mine in
    let first = level_written c.args.pass.now.seen c.split_seat-seat.new.seat.me.0.seen 0 c.load.result (new ∙ c.load.ensures.seen) (omega (arith, some, count, c.pass.invariant.0.seen.one_each)) in
    event_along c.args.self.now.frame c.args.self.now.frame (λ w. events.Load w 0) 0 c.args.pass.now.seen c.args.pass.now.seen c.load.result _ c.load.new.pass.seen _ refl refl (sym first) (sym new) c.load.ensures.event
