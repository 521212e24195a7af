-- one more note of a new state
use Rattle.std.proofs.Common.{◌≡◌, ◌≢◌, ℕ, ◌+◌, ◌<◌, ◌≤◌, List, [], ◌∷◌, ◌++◌, length, get_or, arith, inl, inr, ap, sym, subst, ◌∙◌}
use Rattle.std.proofs.lemmas.Bool.{cases_eq}
use Rattle.std.proofs.lemmas.List.{get_or_append_left, length-append}
use Rattle.std.proofs.Math.Seq.{get_or-append_seam}
use Rattle.level_table.specs.declared.reason.Note.{Note}
use Rattle.level_table.specs.Notes.{AreDistinct, Named, no_note}

pub distinct_more : (notes : List Note) (note : Note) → AreDistinct notes → (Named notes note.state → ⊥) → AreDistinct (notes ++ note ∷ [])
distinct_more notes note distinct new l m before within same =
    let size : length (notes ++ note ∷ []) ≡ length notes + 1 = length-append notes (note ∷ []) in
    elim (cases_eq m (length notes)) [
      | inl last ↦ (let first : (get_or (notes ++ note ∷ []) l no_note) ≡ get_or notes l no_note = get_or_append_left notes (note ∷ []) no_note l (omega arith) in
          let here : get_or (notes ++ note ∷ []) m no_note ≡ note = rw last (get_or-append_seam notes note [] no_note) in
          new (l, omega arith, sym (ap (λ (n : Note). n.state) first) ∙ same ∙ ap (λ (n : Note). n.state) here))
      | inr other ↦ (let first : (get_or (notes ++ note ∷ []) l no_note) ≡ get_or notes l no_note = get_or_append_left notes (note ∷ []) no_note l (omega arith) in
          let second : (get_or (notes ++ note ∷ []) m no_note) ≡ get_or notes m no_note = get_or_append_left notes (note ∷ []) no_note m (omega arith) in
          distinct l m before (omega arith) (sym (ap (λ (n : Note). n.state) first) ∙ same ∙ ap (λ (n : Note). n.state) second))
    ]
