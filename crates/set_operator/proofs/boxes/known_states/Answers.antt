-- one state more
use Rattle.std.proofs.Common.{◌∙◌, ◌<◌, inl, inr, length, sym, subst, arith, false, slice_index_or, slice_set}
use Rattle.std.specs.Prelude.{IsTrue, ◌↔◌}
use Rattle.std.proofs.lemmas.Bool.{cases_eq}
use Rattle.std.proofs.lemmas.List.{get_or-set_same, get_or-set_other, length-set}
use Rattle.level_table.specs.Levels.{levels_in}
use Rattle.level_table.specs.Reasons.{IsKnown}
use Rattle.set_operator.proofs.boxes.known_states.Goals as goal

pub loop-s-preserved : goal.loop-s-preserved
loop-s-preserved c = record {
  count = length-set c.loop-s.known c.loop-s.s c.is_known.result ∙ c.loop-s.invariant.count;
  each = λ s below. elim (cases_eq s c.loop-s.s) [
    | inl same ↦ (let inside : c.loop-s.s < length c.loop-s.known = omega (arith, c.loop-s.invariant.count, c.loop-s-test.true, c.states-s-end.ensures, c.requires.table.whole.few_states, c.requires.table.sizes.states_agree) in
        subst (λ m. IsTrue (slice_index_or (slice_set c.loop-s.known c.loop-s.s c.is_known.result) m false) ↔ IsKnown c.args.p.now (levels_in c.args.levels.now) m) (sym same)
        (rw (get_or-set_same c.loop-s.known c.loop-s.s c.is_known.result false inside) (
          (λ true k within. c.is_known.ensures.known.0 true k (omega (arith, within, c.requires.table.sizes.directions_agree))),
          (λ known. c.is_known.ensures.known.1 (λ k within. known k (omega (arith, within, c.requires.table.sizes.directions_agree)))),
        )))
    | inr other ↦ rw (get_or-set_other c.loop-s.known c.loop-s.s s c.is_known.result false other) (c.loop-s.invariant.each s (omega arith))
  ];
}
