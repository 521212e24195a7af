use Rattle.std.proofs.Common.{◌≡◌, ◌∷◌, [], rules, arith, subst, sym, ap, ◌∙◌, get_or, length}
use Rattle.std.proofs.lemmas.List.{get_or_append_left}
use Rattle.level_table.specs.Notes.{AreDistinct, Named, NoteList}
use Rattle.level_table.proofs.NoteLemmas.{distinct_more}
use Rattle.level_table.proofs.notes.Notes.add.Goals as goal

pub invariant_of-self : goal.invariant_of-self
invariant_of-self c = (
  subst (λ ns. AreDistinct ns) (sym c.in-Ok.ensures.items) (distinct_more _ _ c.self.invariant.0
      (subst (λ (v : NoteList). Named v.list c.args.note.now.state → ⊥) (sym c.self.view_is) c.requires.new)),
  λ k d below. sym (get_or_append_left c.pop.new.self.items (c.in-Some.list ∷ []) d k below) ∙ ap (λ ls. get_or ls k d) (sym c.in-Some.ensures.items) ∙ c.self.invariant.1 k d (search rules),
  search rules,
  search rules,
)
