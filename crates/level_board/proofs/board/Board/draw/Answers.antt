use Rattle.std.proofs.Common.{◌≡◌, ◌-◌, sym, ap, ◌∙◌, arith}
use Rattle.schedule_core.specs.Frame.{rows_of}
use Rattle.level_board.specs.Board.{BoardId, PassView}
use Rattle.level_board.specs.Rule.{frame_of_key}
use Rattle.level_board.proofs.Steps.{draws}
use Rattle.level_board.proofs.board.Board.draw.Goals as goal

pub fetch_add-requires : goal.fetch_add-requires
fetch_add-requires c =
    let board = ap (λ (p : PassView). p.board) c.pass.view_is ∙ c.requires.board ∙ sym c.self.view_is in
    let is : c.word_count-claim.result - 1 ≡ rows_of (frame_of_key c.self.inside.table.shared.key) = omega (arith, c.self.invariant.1, c.word_count-claim.ensures) in
    (ap (λ (b : BoardId). b.table) board, omega (arith, c.self.invariant.1, c.word_count-claim.ensures), draws _ _ _ _ _ 1 c.pass.invariant.0.unspent is)
