use Rattle.std.proofs.Common.{◌≡◌, ◌<◌, sym, ap, subst, ◌∙◌, refl, length, arith, w64, ℕ}
use Rattle.std.specs.Prelude.{ℤ}
use Rattle.std.proofs.lemmas.Int.{ints}
use Rattle.std.proofs.lemmas.List.{length-set}
use mir.Val.{to_z, of_z, SFits}
use Rattle.level_table.specs.declared.level.Level.TheVariants.{At}
use Rattle.level_table.specs.Levels.{IsSmall, Table, lesser}
use Rattle.level_table.specs.Tables.{kept_word}
use Rattle.schedule_core.specs.Frame.{Frame, IsFrame, IsRowLevelOf, IsSeen, rows_of}
use Rattle.schedule_core.proofs.Levels.{IsLowering, row_level_lowers}
use Rattle.level_board.specs.declared.view.View.{View}
use Rattle.level_board.specs.Board.{BoardId, PassView}
use Rattle.level_board.specs.Rule.{IsPass, frame_of}
use Rattle.level_board.proofs.Moments.{lowered_event}
use Rattle.level_board.proofs.Owners.{pass_lowered}
use Rattle.level_board.proofs.Steps.{lowers}
use Rattle.level_board.proofs.Told.{back_at_most, fallen_to_lesser, found_above, found_bounds, found_fell, lowered_seen}
use Rattle.level_board.proofs.board.Board.lower.Goals as goal

same_number : (x : ℤ) → SFits w64 x → to_z w64 (of_z w64 x) ≡ x
same_number x fits = omega (arith, ints)

-- the level may be taken, as the rows were seen
lowering : (f g : Frame) (v : View) (seen : Table) (r : ℕ) (x : ℤ) → f ≡ g → frame_of v ≡ g → v.seen ≡ seen → IsFrame f → IsPass v → r < rows_of g → IsRowLevelOf g seen r (At x) → IsLowering g r (At x)
lowering f g v seen r x e is same ok pass below level =
    row_level_lowers g v.seen r x (subst IsFrame e ok) (subst (λ (h : Frame). IsSeen h v.seen) is pass.seen) below (subst (λ (t : Table). IsRowLevelOf g t r (At x)) (sym same) level)

pub word_of-new-requires : goal.word_of-new-requires
word_of-new-requires c =
    let low = lowering _ c.args.self.now.frame _ c.args.pass.now.seen c.args.row c.args.level (ap (λ (b : BoardId). b.frame) c.self.view_is) (ap (λ (p : PassView). p.board.frame) c.pass.view_is ∙ ap (λ (b : BoardId). b.frame) c.requires.board) (ap (λ (p : PassView). p.seen) c.pass.view_is) c.self.invariant.0 c.pass.invariant.0 c.requires.row c.requires.level in
    subst (λ (x : ℤ). IsSmall (At x)) (sym (same_number c.args.level c.ranges.level)) low.small

pub fetch_min-old-requires : goal.fetch_min-old-requires
fetch_min-old-requires c =
    let frames = ap (λ (b : BoardId). b.frame) c.self.view_is in
    let board = ap (λ (p : PassView). p.board) c.pass.view_is ∙ c.requires.board ∙ sym c.self.view_is in
    let low = lowering _ c.args.self.now.frame _ c.args.pass.now.seen c.args.row c.args.level (ap (λ (b : BoardId). b.frame) c.self.view_is) (ap (λ (p : PassView). p.board.frame) c.pass.view_is ∙ ap (λ (b : BoardId). b.frame) c.requires.board) (ap (λ (p : PassView). p.seen) c.pass.view_is) c.self.invariant.0 c.pass.invariant.0 c.requires.row c.requires.level in
    let word : c.word_of-new.result ≡ kept_word (At c.args.level) = c.word_of-new.ensures.word ∙ ap (λ (x : ℤ). kept_word (At x)) (same_number c.args.level c.ranges.level) in
    let within = subst (λ (b : BoardId). c.args.row < rows_of b.frame) (sym c.self.view_is) c.requires.row in
    (ap (λ (b : BoardId). b.table) board, omega (arith, within, c.self.invariant.1), lowers _ _ _ _ c.args.row _ c.args.level c.pass.invariant.0.unspent (ap (λ (b : BoardId). b.frame) board) within word (subst (λ (h : Frame). IsLowering h c.args.row (At c.args.level)) (sym frames) low))

pub invariant_of-pass : goal.invariant_of-pass
invariant_of-pass c =
    let same = ap (λ (p : PassView). p.board.frame) c.pass.view_is ∙ ap (λ (b : BoardId). b.frame) c.requires.board in
    let low = lowering _ c.args.self.now.frame _ c.args.pass.now.seen c.args.row c.args.level (ap (λ (b : BoardId). b.frame) c.self.view_is) (ap (λ (p : PassView). p.board.frame) c.pass.view_is ∙ ap (λ (b : BoardId). b.frame) c.requires.board) (ap (λ (p : PassView). p.seen) c.pass.view_is) c.self.invariant.0 c.pass.invariant.0 c.requires.row c.requires.level in
    let word : c.word_of-new.result ≡ kept_word (At c.args.level) = c.word_of-new.ensures.word ∙ ap (λ (x : ℤ). kept_word (At x)) (same_number c.args.level c.ranges.level) in
    let told = c.fetch_min-old.ensures.2 in
    let kept = pass_lowered c.args.self.now.frame _ c.args.row _ _ c.args.level _ told.0 same word low c.pass.invariant.0 c.requires.row in
    (kept.0, kept.1 ∙ c.pass.invariant.1, told.1 ∙ c.pass.invariant.2)

pub returns-clause-event : goal.returns-clause-event
returns-clause-event c =
    let same = ap (λ (p : PassView). p.board.frame) c.pass.view_is ∙ ap (λ (b : BoardId). b.frame) c.requires.board in
    let seen = ap (λ (p : PassView). p.seen) c.pass.view_is in
    let told = c.fetch_min-old.ensures.2.0 in
    let is = c.level_of.ensures.level told.found.level told.found.sound.small told.found.word in
    let low = lowering _ c.args.self.now.frame _ c.args.pass.now.seen c.args.row c.args.level (ap (λ (b : BoardId). b.frame) c.self.view_is) (ap (λ (p : PassView). p.board.frame) c.pass.view_is ∙ ap (λ (b : BoardId). b.frame) c.requires.board) (ap (λ (p : PassView). p.seen) c.pass.view_is) c.self.invariant.0 c.pass.invariant.0 c.requires.row c.requires.level in
    let word : c.word_of-new.result ≡ kept_word (At c.args.level) = c.word_of-new.ensures.word ∙ ap (λ (x : ℤ). kept_word (At x)) (same_number c.args.level c.ranges.level) in
    lowered_event _ c.args.row _ _ _ c.args.self.now.frame c.args.pass.now.seen _ _ c.args.level told c.pass.invariant.0.unspent same seen refl is c.requires.row low.small word c.requires.level

pub returns-clause-seen : goal.returns-clause-seen
returns-clause-seen c =
    let seen = ap (λ (p : PassView). p.seen) c.pass.view_is in
    let told = c.fetch_min-old.ensures.2.0 in
    let is = c.level_of.ensures.level told.found.level told.found.sound.small told.found.word in
    let low = lowering _ c.args.self.now.frame _ c.args.pass.now.seen c.args.row c.args.level (ap (λ (b : BoardId). b.frame) c.self.view_is) (ap (λ (p : PassView). p.board.frame) c.pass.view_is ∙ ap (λ (b : BoardId). b.frame) c.requires.board) (ap (λ (p : PassView). p.seen) c.pass.view_is) c.self.invariant.0 c.pass.invariant.0 c.requires.row c.requires.level in
    let word : c.word_of-new.result ≡ kept_word (At c.args.level) = c.word_of-new.ensures.word ∙ ap (λ (x : ℤ). kept_word (At x)) (same_number c.args.level c.ranges.level) in
    lowered_seen _ c.args.row _ _ _ c.args.pass.now.seen _ c.args.level told seen is low.small word

pub returns-clause-back : goal.returns-clause-back
returns-clause-back c =
    let same = ap (λ (p : PassView). p.board.frame) c.pass.view_is ∙ ap (λ (b : BoardId). b.frame) c.requires.board in
    let seen = ap (λ (p : PassView). p.seen) c.pass.view_is in
    let told = c.fetch_min-old.ensures.2.0 in
    let is = c.level_of.ensures.level told.found.level told.found.sound.small told.found.word in
    let low = lowering _ c.args.self.now.frame _ c.args.pass.now.seen c.args.row c.args.level (ap (λ (b : BoardId). b.frame) c.self.view_is) (ap (λ (p : PassView). p.board.frame) c.pass.view_is ∙ ap (λ (b : BoardId). b.frame) c.requires.board) (ap (λ (p : PassView). p.seen) c.pass.view_is) c.self.invariant.0 c.pass.invariant.0 c.requires.row c.requires.level in
    let word : c.word_of-new.result ≡ kept_word (At c.args.level) = c.word_of-new.ensures.word ∙ ap (λ (x : ℤ). kept_word (At x)) (same_number c.args.level c.ranges.level) in
    let is_new = lowered_seen _ c.args.row _ _ _ c.args.pass.now.seen _ c.args.level told seen is low.small word in
    let count = ap (λ (t : Table). length t.levels) seen in
    let within : c.args.row < rows_of c.args.self.now.frame = c.requires.row in
    let rows = c.pass.invariant.0.seen.one_each ∙ ap rows_of same in
    back_at_most c.args.pass.now.seen _ c.args.row _ c.args.level is_new (omega (arith, within, rows, count, ap (λ (t : Table). length t.levels) is_new, length-set c.args.pass.now.seen.levels c.args.row (lesser c.level_of.result (At c.args.level))))

pub returns-clause-fell : goal.returns-clause-fell
returns-clause-fell c =
    let seen = ap (λ (p : PassView). p.seen) c.pass.view_is in
    let told = c.fetch_min-old.ensures.2.0 in
    let is = c.level_of.ensures.level told.found.level told.found.sound.small told.found.word in
    found_fell _ c.args.row _ c.args.pass.now.seen _ told.found seen is

pub returns-clause-fallen : goal.returns-clause-fallen
returns-clause-fallen c =
    let seen = ap (λ (p : PassView). p.seen) c.pass.view_is in
    let told = c.fetch_min-old.ensures.2.0 in
    let is = c.level_of.ensures.level told.found.level told.found.sound.small told.found.word in
    let low = lowering _ c.args.self.now.frame _ c.args.pass.now.seen c.args.row c.args.level (ap (λ (b : BoardId). b.frame) c.self.view_is) (ap (λ (p : PassView). p.board.frame) c.pass.view_is ∙ ap (λ (b : BoardId). b.frame) c.requires.board) (ap (λ (p : PassView). p.seen) c.pass.view_is) c.self.invariant.0 c.pass.invariant.0 c.requires.row c.requires.level in
    let word : c.word_of-new.result ≡ kept_word (At c.args.level) = c.word_of-new.ensures.word ∙ ap (λ (x : ℤ). kept_word (At x)) (same_number c.args.level c.ranges.level) in
    fallen_to_lesser c.args.pass.now.seen _ c.args.row _ c.args.level (lowered_seen _ c.args.row _ _ _ c.args.pass.now.seen _ c.args.level told seen is low.small word) (found_fell _ c.args.row _ c.args.pass.now.seen _ told.found seen is)

pub returns-clause-above : goal.returns-clause-above
returns-clause-above c =
    let same = ap (λ (p : PassView). p.board.frame) c.pass.view_is ∙ ap (λ (b : BoardId). b.frame) c.requires.board in
    let told = c.fetch_min-old.ensures.2.0 in
    let is = c.level_of.ensures.level told.found.level told.found.sound.small told.found.word in
    found_above _ c.args.row _ c.args.self.now.frame _ told.found same is

pub returns-clause-bounds : goal.returns-clause-bounds
returns-clause-bounds c =
    let same = ap (λ (p : PassView). p.board.frame) c.pass.view_is ∙ ap (λ (b : BoardId). b.frame) c.requires.board in
    let told = c.fetch_min-old.ensures.2.0 in
    let is = c.level_of.ensures.level told.found.level told.found.sound.small told.found.word in
    let frame : IsFrame c.args.self.now.frame = subst (λ (b : BoardId). IsFrame b.frame) c.self.view_is c.self.invariant.0 in
    found_bounds _ c.args.row _ c.args.self.now.frame _ told.found same is frame c.requires.row
