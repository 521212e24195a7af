-- What a sweep leaves.
use Rattle.std.proofs.Common.{◌≡◌, ◌⊎◌, inl, inr, ℕ, ◌+◌, ◌<◌, List, length, sym, ap, subst, ◌∙◌}
use Rattle.game_model.specs.Game.{states}
use Rattle.level_table.specs.declared.level.Level.{Level}
use Rattle.level_table.specs.declared.level.Level.TheVariants.{Empty}
use Rattle.level_table.specs.Problem.{direction_count}
use Rattle.level_table.specs.Levels.{Levels, Table, AtMost, IsBelow, IsRow, levels_in}
use Rattle.level_table.specs.Operator.{IsRowLevel}
use Rattle.bound_laws.specs.Falls.{PassesRowLevels}
use Rattle.bound_laws.proofs.Levels.{level_at_most_trans}
use Rattle.level_table.specs.declared.reason.Note.{Note}
use Rattle.level_table.specs.Supported.{IsEven}
use Rattle.level_board.specs.Board.{OwnerView}
use Rattle.schedule_core.specs.Frame.{Frame, IsFallen, IsFrame, IsSeen, NamesEmpty, rows_of}
use Rattle.schedule_core.proofs.Levels.{by_row}
use Rattle.worker_pass.specs.Clearings.{AreCleared, AreNamed, KeepsNotes}
use Rattle.worker_pass.specs.Sweeps.{HoldsButFirst, IsSweep}
use Rattle.worker_pass.specs.Updates.{IsPassedRow}
use Rattle.worker_pass.specs.declared.sweeping.SweepNote.{SweepNote}
use Rattle.worker_pass.proofs.Falling.{below_rows}
use Rattle.worker_pass.proofs.States.{AreMarkedOff, is_even, names_empty}

-- v is what was seen before, t what was loaded, and u what is left after the clearing
pub swept : (f : Frame) (v t u : Table) → IsFrame f → t.directions ≡ f.start.directions → IsFallen t u
    → ((above : Levels) → IsBelow f.problem (levels_in v) above → (r : ℕ) → r < rows_of f → IsPassedRow f above t r)
    → ((s k : ℕ) → s < states f.problem.game → k < direction_count f.problem → IsRowLevel f.problem (levels_in t) s k Empty → levels_in u s k ≡ Empty)
    → PassesRowLevels f.problem (levels_in v) (levels_in u)
swept f v t u ok same fell passed dead above s k l below row level = elim (by_place above below s k row l level) [
  | inl h ↦ level_at_most_trans _ _ _ (below_rows f.problem t u fell s k row) h
  | inr none ↦ subst (λ (m : Level). AtMost m l) (sym (dead s k row.state row.direction none)) tt
]
  where
    by_place : (above : Levels) → IsBelow f.problem (levels_in v) above → (s k : ℕ) → IsRow f.problem s k → (l : Level) → IsRowLevel f.problem above s k l
        → AtMost (levels_in t s k) l ⊎ IsRowLevel f.problem (levels_in t) s k Empty
    by_place above below = by_row f t (λ s k m. (l : Level) → IsRowLevel f.problem above s k l → AtMost m l ⊎ IsRowLevel f.problem (levels_in t) s k Empty) ok same (passed above below)

-- The owner had seen o, then loaded l, cleared states up to m, and made new passes.
pub sweep_made : (f : Frame) (o l m n : OwnerView) (t : Table) (note : SweepNote) → IsFrame f → IsFallen o.seen l.seen → l.notes ≡ o.notes → IsSeen f l.seen → AreMarkedOff f l.notes l.seen
    → ((above : Levels) → IsBelow f.problem (levels_in o.seen) above → (r : ℕ) → r < rows_of f → IsPassedRow f above l.seen r)
    → IsFallen l.seen m.seen → AreCleared f.problem (states f.problem.game) (levels_in l.seen) l.notes (levels_in m.seen) m.notes → KeepsNotes f.problem (levels_in l.seen) l.notes m.notes
    → ((s k : ℕ) → IsRow f.problem s k → IsRowLevel f.problem (levels_in l.seen) s k Empty → levels_in m.seen s k ≡ Empty)
    → length m.notes ≡ length l.notes + note.cleared → IsSeen f m.seen → AreMarkedOff f m.notes m.seen
    → t ≡ m.seen → n.notes ≡ m.notes → HoldsButFirst m.seen n.seen → IsSweep f o n t note
sweep_made f o l m n t note ok fell l_notes l_seen l_marked passed fell' clearing noted dead count m_seen m_marked same n_notes holds = record {
  loaded = l.seen;
  fell = fell;
  sound = l_seen;
  named = subst (λ (ns : List Note). NamesEmpty f ns l.seen) l_notes l_marked.named;
  even = is_even f l.notes l.seen l_marked;
  clearing = subst (λ (X : Type 0). X) (λ i. AreCleared f.problem (states f.problem.game) (levels_in l.seen) (l_notes i) (levels_in (sym same i)) (sym n_notes i)) clearing;
  noted = subst (λ (X : Type 0). X) (λ i. KeepsNotes f.problem (levels_in l.seen) (l_notes i) (sym n_notes i)) noted;
  cleared = ap length n_notes ∙ count ∙ ap (λ (ns : List Note). length ns + note.cleared) l_notes;
  left = subst (IsFallen l.seen) (sym same) fell';
  left_sound = subst (IsSeen f) (sym same) m_seen;
  left_even = subst (λ (u : Table). IsEven f.problem (levels_in u)) (sym same) (is_even f m.notes m.seen m_marked);
  left_named = subst (λ (X : Type 0). X) (λ i. AreNamed f.problem (levels_in (sym same i)) (sym n_notes i)) (names_empty f m.notes m.seen m_marked);
  passed = subst (λ (u : Table). PassesRowLevels f.problem (levels_in o.seen) (levels_in u)) (sym same)
      (swept f o.seen l.seen m.seen ok l_marked.directions_same fell' passed (λ s k state dir. dead s k (record { state = state; direction = dir })));
  seen = subst (λ (u : Table). HoldsButFirst u n.seen) (sym same) holds;
}
