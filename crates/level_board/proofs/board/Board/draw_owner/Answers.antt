use Rattle.std.proofs.Common.{◌≡◌, ◌-◌, sym, ap, ◌∙◌, arith}
use Rattle.schedule_core.specs.Frame.{rows_of}
use Rattle.level_board.specs.Board.{BoardId, OwnerView}
use Rattle.level_board.specs.Rule.{frame_of_key}
use Rattle.level_board.proofs.Steps.{draws}
use Rattle.level_board.proofs.board.Board.draw_owner.Goals as goal

pub fetch_add-requires : goal.fetch_add-requires
fetch_add-requires c =
    let board = ap (λ (p : OwnerView). p.board) c.owner.view_is ∙ c.requires.board ∙ sym c.self.view_is in
    let is : c.word_count-last.result - 1 ≡ rows_of (frame_of_key c.self.inside.table.shared.key) = omega (arith, c.self.invariant.1, c.word_count-last.ensures) in
    (ap (λ (b : BoardId). b.table) board, omega (arith, c.self.invariant.1, c.word_count-last.ensures), draws _ _ _ _ _ 1 c.owner.invariant.0.pass.unspent is)
