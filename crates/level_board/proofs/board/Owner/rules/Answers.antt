use Rattle.std.proofs.Common.{ℕ, ◌<◌, subst}
use Rattle.level_table.specs.Levels.{level_at}
use Rattle.schedule_core.specs.Frame.{BoundsRow, rows_of}
use Rattle.schedule_core.proofs.Levels.{bounds_row}
use Rattle.level_board.specs.Board.{OwnerView}
use Rattle.level_board.specs.Rule.{frame_of}
use Rattle.level_board.proofs.board.Owner.rules.Goals as goal

pub returns-clause-bounds : goal.returns-clause-bounds
returns-clause-bounds c = subst (λ (p : OwnerView). (r : ℕ) → r < rows_of p.board.frame → BoundsRow p.board.frame r (level_at p.seen r)) c.self.view_is
    (λ r below. bounds_row (frame_of c.self.inside.seat.me.0) r (level_at c.self.inside.seat.me.0.seen r) c.self.invariant.0.pass.frame below (c.self.invariant.0.pass.seen.sound r below).above)
