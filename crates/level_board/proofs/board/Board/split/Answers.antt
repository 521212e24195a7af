use Rattle.std.proofs.Common.{◌≡◌, ◌<◌, length, sym, ap, subst, ◌∙◌, refl, arith}
use Rattle.atomic_table.specs.Table.{Me}
use Rattle.level_table.specs.Levels.{Table}
use Rattle.schedule_core.specs.declared.event.Event.TheVariants as events
use Rattle.schedule_core.specs.Frame.{rows_of}
use Rattle.schedule_core.proofs.Levels.{some_row}
use Rattle.level_board.specs.declared.view.View.{View}
use Rattle.level_board.specs.Board.{BoardId, OwnerView}
use Rattle.level_board.proofs.Moments.{event_along}
use Rattle.level_board.proofs.Steps.{splits}
use Rattle.level_board.proofs.Told.{level_written}
use Rattle.level_board.proofs.board.Board.split.Goals as goal

pub load_owner-requires-clause-row : goal.load_owner-requires-clause-row
load_owner-requires-clause-row c = subst (λ (b : BoardId). 0 < rows_of b.frame) c.self.view_is (some_row _ c.self.invariant.0)

pub split_seat-seat-requires : goal.split_seat-seat-requires
split_seat-seat-requires c =
    let board = ap (λ (p : OwnerView). p.board) c.owner.view_is ∙ c.load_owner.ensures.board ∙ c.requires.board ∙ sym c.self.view_is in
    (ap (λ (b : BoardId). b.table) board, omega (arith, c.self.invariant.1), splits _ _ _ c.owner.invariant.0.pass.unspent)

pub returns-clause-event : goal.returns-clause-event
returns-clause-event c =
    let mine : c.split_seat-seat.new.seat.me.0.seen ≡ c.owner.inside.seat.me.0.seen = ap (λ (m : Me (Unit {0}) View). m.0.seen) c.split_seat-seat.ensures.2 in
    let new = mine ∙ ap (λ (p : OwnerView). p.seen) c.owner.view_is in
    let some = some_row _ c.owner.invariant.0.pass.frame in
    let count = ap (λ (t : Table). length t.levels) mine in
    let first = level_written c.args.owner.now.seen c.split_seat-seat.new.seat.me.0.seen 0 c.load_owner.result (new ∙ c.load_owner.ensures.seen) (omega (arith, some, count, c.owner.invariant.0.pass.seen.one_each)) in
    event_along c.args.self.now.frame c.args.self.now.frame (λ w. events.Load w 0) 0 c.args.owner.now.seen c.args.owner.now.seen c.load_owner.result _ c.load_owner.new.owner.seen _ refl refl (sym first) (sym new) c.load_owner.ensures.event
