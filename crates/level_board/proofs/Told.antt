-- What a step tells of the answer and of the levels seen.
use Rattle.std.proofs.Common.{◌≡◌, ℕ, ◌<◌, length, sym, ap, subst, ◌∙◌, arith}
use Rattle.std.specs.Prelude.{ℤ}
use Rattle.std.proofs.lemmas.List.{length-set, get_or-set_same}
use Rattle.level_table.specs.declared.level.Level.{Level}
use Rattle.level_table.specs.declared.level.Level.TheVariants.{Empty, At}
use Rattle.level_table.specs.Levels.{Table, AtMost, IsSmall, level_at, lesser}
use Rattle.level_table.specs.Tables.{kept_word}
use Rattle.bound_laws.proofs.Levels.{level_at_most_trans, lesser_at_most, lesser_at_most_second}
use Rattle.schedule_core.specs.Frame.{Frame, BoundsRow, IsAbove, IsFallen, IsFrame, rows_of, with_level}
use Rattle.schedule_core.proofs.Levels.{bounds_row}
use Rattle.level_board.specs.declared.view.View.{View}
use Rattle.level_board.specs.Rule.{Cleared, Found, Looked, Lowered, frame_of}
use Rattle.level_board.proofs.Moments.{fallen_with}

pub found_above : (v : View) (r n : ℕ) (f : Frame) (l : Level) (found : Found v r n) → frame_of v ≡ f → l ≡ found.level → IsAbove f r l
found_above v r n f l found same is = subst (IsAbove f r) (sym is) (subst (λ (g : Frame). IsAbove g r found.level) same found.sound.above)

pub found_bounds : (v : View) (r n : ℕ) (f : Frame) (l : Level) (found : Found v r n) → frame_of v ≡ f → l ≡ found.level → IsFrame f → r < rows_of f → BoundsRow f r l
found_bounds v r n f l found same is frame within = bounds_row f r l frame within (found_above v r n f l found same is)

pub found_fell : (v : View) (r n : ℕ) (t : Table) (l : Level) (found : Found v r n) → v.seen ≡ t → l ≡ found.level → AtMost l (level_at t r)
found_fell v r n t l found seen is = subst (λ (m : Level). AtMost m (level_at t r)) (sym is) (subst (λ (u : Table). AtMost found.level (level_at u r)) seen found.fell)

pub looked_seen : (v : View) (r n : ℕ) (w : View) (t : Table) (l : Level) (told : Looked v r n w) → v.seen ≡ t → l ≡ told.found.level → w.seen ≡ with_level t r l
looked_seen v r n w t l told seen is = ap (λ (x : View). x.seen) told.seen ∙ (λ i. with_level (seen i) r (sym is i))

pub lowered_seen : (v : View) (r k n : ℕ) (w : View) (t : Table) (l : Level) (x : ℤ) (told : Lowered v r k n w) → v.seen ≡ t → l ≡ told.found.level → IsSmall (At x) → k ≡ kept_word (At x) → w.seen ≡ with_level t r (lesser l (At x))
lowered_seen v r k n w t l x told seen is small word = ap (λ (y : View). y.seen) (told.seen (At x) small word) ∙ (λ i. with_level (seen i) r (lesser (sym is i) (At x)))

pub cleared_seen : (v : View) (r n : ℕ) (w : View) (t : Table) (told : Cleared v r n w) → v.seen ≡ t → w.seen ≡ with_level t r Empty
cleared_seen v r n w t told seen = ap (λ (x : View). x.seen) told.seen ∙ (λ i. with_level (seen i) r Empty)

pub fallen_to : (t u : Table) (r : ℕ) (l : Level) → u ≡ with_level t r l → AtMost l (level_at t r) → IsFallen t u
fallen_to t u r l is fell = subst (IsFallen t) (sym is) (fallen_with t r l fell)

pub fallen_to_lesser : (t u : Table) (r : ℕ) (l : Level) (x : ℤ) → u ≡ with_level t r (lesser l (At x)) → AtMost l (level_at t r) → IsFallen t u
fallen_to_lesser t u r l x is fell = fallen_to t u r (lesser l (At x)) is (level_at_most_trans (lesser l (At x)) l (level_at t r) (lesser_at_most l (At x)) fell)

-- the level that was written
pub level_written : (t u : Table) (r : ℕ) (l : Level) → u ≡ with_level t r l → r < length u.levels → level_at u r ≡ l
level_written t u r l is within =
    let here : r < length t.levels = omega (arith, within, ap (λ (x : Table). length x.levels) is, length-set t.levels r l) in
    ap (λ (x : Table). level_at x r) is ∙ get_or-set_same t.levels r l Empty here

pub back_at_most : (t u : Table) (r : ℕ) (l : Level) (x : ℤ) → u ≡ with_level t r (lesser l (At x)) → r < length u.levels → AtMost (level_at u r) (At x)
back_at_most t u r l x is within = subst (λ (m : Level). AtMost m (At x)) (sym (level_written t u r (lesser l (At x)) is within)) (lesser_at_most_second l (At x))
