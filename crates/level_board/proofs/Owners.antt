-- What each step leaves of what is known of a pass and of the owner.
use Rattle.std.proofs.Common.{◌≡◌, ℕ, ◌/◌, ◌<◌, List, [], ◌∷◌, ◌++◌, get_or, set, sym, ap, ◌∙◌, subst, true, false, inl, inr, arith}
use Rattle.std.specs.Prelude.{ℤ}
use Rattle.std.proofs.lemmas.List.{length-set, get_or-set_same, get_or-set_other}
use Rattle.std.proofs.lemmas.Bool.{cases_eq}
use Rattle.level_table.specs.declared.level.Level.{Level}
use Rattle.level_table.specs.declared.level.Level.TheVariants.{Empty, At}
use Rattle.level_table.specs.declared.reason.Note.{Note}
use Rattle.level_table.specs.Levels.{levels_in, lesser}
use Rattle.level_table.specs.Tables.{kept_word}
use Rattle.bound_laws.proofs.Notes.{noted}
use Rattle.bound_laws.proofs.Levels.{lesser_number}
use Rattle.schedule_core.specs.Frame.{Frame, IsNoteOver, IsSeen, IsSound, NamedRow, rows_of}
use Rattle.schedule_core.proofs.Events.{named_above, named_more}
use Rattle.schedule_core.proofs.Levels.{IsLowering, empty_sound, lowered_sound, seen_is_kept}
use Rattle.schedule_core.proofs.Words.{seen_joined, seen_with}
use Rattle.level_board.specs.declared.view.View.{View}
use Rattle.level_board.specs.Rule.{frame_of, seeing, copied, joined, Looked, Lowered, Cleared, EmptyIsCleared, IsPass, IsOwner}

-- a pass that has seen a sound level in a row
pass_seeing : (v : View) (r : ℕ) (l : Level) → IsPass v → r < rows_of (frame_of v) → IsSound (frame_of v) r l → IsPass (seeing v r l)
pass_seeing v r l ok within sound = record { frame = ok.frame; unspent = ok.unspent; seen = seen_with (frame_of v) v.seen r l ok.seen within sound }

pub pass_looked : (v : View) (r n : ℕ) (w : View) → Looked v r n w → IsPass v → r < rows_of (frame_of v) → IsPass w × (w.owner ≡ v.owner)
pass_looked v r n w h ok within = (subst IsPass (sym h.seen) (pass_seeing v r h.found.level ok within h.found.sound), ap (λ (x : View). x.owner) h.seen)

pub pass_lowered : (f : Frame) (v : View) (r k n : ℕ) (x : ℤ) (w : View) → Lowered v r k n w → frame_of v ≡ f → k ≡ kept_word (At x) → IsLowering f r (At x) → IsPass v → r < rows_of f
    → IsPass w × (w.owner ≡ v.owner)
pass_lowered f v r k n x w h same is lowering ok within =
    let seen = h.seen (At x) lowering.small is in
    let low = subst (λ (g : Frame). IsLowering g r (At x)) (sym same) lowering in (
      subst IsPass (sym seen) (pass_seeing v r (lesser h.found.level (At x)) ok (subst (λ (g : Frame). r < rows_of g) (sym same) within) (lowered_sound (frame_of v) r h.found.level (At x) h.found.sound low)),
      ap (λ (y : View). y.owner) seen,
    )

pub copied_pass : (v : View) → IsPass v → IsPass (copied v)
copied_pass v ok = record { frame = ok.frame; unspent = ok.unspent; seen = ok.seen }

joined_pass : (v w : View) → frame_of w ≡ frame_of v → IsPass v → IsPass w → IsPass (joined v w)
joined_pass v w same h k = record { frame = h.frame; unspent = h.unspent; seen = seen_joined (frame_of v) v.seen w.seen h.seen (subst (λ (g : Frame). IsSeen g w.seen) same k.seen) }

-- the owner, who has seen a sound level in a row that is Empty only where it was cleared
owner_seeing : (v : View) (r : ℕ) (l : Level) (notes : List Note) → IsOwner v notes → r < rows_of (frame_of v) → IsSound (frame_of v) r l → (l ≡ Empty → get_or v.cleared r false ≡ true) → IsOwner (seeing v r l) notes
owner_seeing v r l notes ok within sound marked = record {
  pass = pass_seeing v r l ok.pass within sound;
  owner = ok.owner;
  kept = ok.kept;
  marks = ok.marks;
  marked = λ j below e. elim (cases_eq j r) [
    | inl is ↦ ap (λ (i : ℕ). get_or v.cleared i false) is ∙ marked (sym (get_or-set_same v.seen.levels r l Empty (omega (arith, ok.pass.seen.one_each))) ∙ (ap (λ (i : ℕ). get_or (set v.seen.levels r l) i Empty) (sym is) ∙ e))
    | inr ne ↦ ok.marked j below (sym (get_or-set_other v.seen.levels r j l Empty ne) ∙ e)
  ];
  named = ok.named;
}

pub owner_looked : (v : View) (r n : ℕ) (w : View) (notes : List Note) → Looked v r n w → IsOwner v notes → r < rows_of (frame_of v) → IsOwner w notes
owner_looked v r n w notes h ok within = subst (λ (x : View). IsOwner x notes) (sym h.seen) (owner_seeing v r h.found.level notes ok within h.found.sound (h.found.marked ok.owner))

pub owner_lowered : (f : Frame) (v : View) (r k n : ℕ) (x : ℤ) (w : View) (notes : List Note) → Lowered v r k n w → frame_of v ≡ f → k ≡ kept_word (At x) → IsLowering f r (At x) → IsOwner v notes → r < rows_of f → IsOwner w notes
owner_lowered f v r k n x w notes h same is lowering ok within =
    let low = subst (λ (g : Frame). IsLowering g r (At x)) (sym same) lowering in
    subst (λ (y : View). IsOwner y notes) (sym (h.seen (At x) lowering.small is)) (owner_seeing v r (lesser h.found.level (At x)) notes ok (subst (λ (g : Frame). r < rows_of g) (sym same) within)
    (lowered_sound (frame_of v) r h.found.level (At x) h.found.sound low) (λ e. h.found.marked ok.owner (lesser_number h.found.level x e)))

pub owner_cleared : (v : View) (r n : ℕ) (w : View) (notes : List Note) → Cleared v r n w → IsOwner v notes → r < rows_of (frame_of v) → NamedRow (frame_of v) notes r → IsOwner w notes
owner_cleared v r n w notes h ok within named = subst (λ (x : View). IsOwner x notes) (sym h.seen) (record {
  pass = record {
    frame = ok.pass.frame;
    unspent = ok.pass.unspent;
    seen = seen_with (frame_of v) v.seen r Empty ok.pass.seen within (empty_sound (frame_of v) r (named_above (frame_of v) notes r ok.pass.frame ok.kept within named));
  };
  owner = ok.owner;
  kept = ok.kept;
  marks = length-set v.cleared r true ∙ ok.marks;
  marked = λ j below e. elim (cases_eq j r) [
    | inl is ↦ ap (λ (i : ℕ). get_or (set v.cleared r true) i false) is ∙ get_or-set_same v.cleared r true false (omega (arith, ok.marks))
    | inr ne ↦ get_or-set_other v.cleared r j true false ne ∙ ok.marked j below (sym (get_or-set_other v.seen.levels r j Empty Empty ne) ∙ e)
  ];
  named = λ j below e. elim (cases_eq j r) [
    | inl is ↦ subst (NamedRow (frame_of v) notes) (sym is) named
    | inr ne ↦ ok.named j below (sym (get_or-set_other v.cleared r j true false ne) ∙ e)
  ];
})

pub owner_keeps : (v : View) (notes : List Note) (note : Note) → IsOwner v notes → IsNoteOver (frame_of v) v.seen notes note → IsOwner v (notes ++ note ∷ [])
owner_keeps v notes note ok new = record {
  pass = ok.pass;
  owner = ok.owner;
  kept = noted (frame_of v).problem (levels_in v.start) (levels_in v.seen) notes note ok.pass.frame.problem (seen_is_kept (frame_of v) v.seen ok.pass.frame ok.pass.seen) ok.kept new;
  marks = ok.marks;
  marked = ok.marked;
  named = λ r below e. named_more notes note (r / v.start.directions) (ok.named r below e);
}

pub owner_joined : (v w : View) (notes : List Note) → frame_of w ≡ frame_of v → IsOwner v notes → IsPass w → EmptyIsCleared (joined v w) → IsOwner (joined v w) notes
owner_joined v w notes same ok k marked = record { pass = joined_pass v w same ok.pass k; owner = ok.owner; kept = ok.kept; marks = ok.marks; marked = marked; named = ok.named }
