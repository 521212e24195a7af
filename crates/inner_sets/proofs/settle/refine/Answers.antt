use Rattle.std.proofs.Common.{List, [], sym, subst, ◌∙◌, arith}
use Rattle.std.proofs.lemmas.List.{get_or_default}
use Rattle.inner_sets.specs.declared.item.Item.{Item}
use Rattle.inner_sets.specs.Rows.{IsHeld, IsRefined, row_at}
use Rattle.inner_sets.proofs.settle.refine.Goals as goal

pub par_for_each_mut-requires-after_bounds : goal.par_for_each_mut-requires-after_bounds
par_for_each_mut-requires-after_bounds g c = λ a b i p below is.
    let few = c.players-players.ensures.is_game.few_states in
    (c.requires.players, (c.requires.n, (c.requires.one_summary_each, (omega (arith, below, c.requires.one_row_each), (omega (arith, below, few, c.requires.one_row_each), (omega (arith, below, c.requires.one_row_each, c.requires.held.one_flag_each), λ flag. subst (IsHeld c.args.game.now c.args.n c.args.summaries.now i) (get_or_default c.args.rows.now i [] p.now below ∙ sym is) (c.requires.held.held i (omega (arith, below, c.requires.one_row_each)) flag)))))))

pub returns : goal.returns
returns g c = record {
  same_length = c.par_for_each_mut.auto.s;
  each = λ s state.
      let at = (c.par_for_each_mut.ensures s [] (omega (arith, state, c.requires.one_row_each))).1 in
      subst (λ (old : List Item). IsRefined c.args.game.now c.args.n c.args.summaries.now s old (row_at c.par_for_each_mut.new.s s)) at.argument_is
      (subst (λ (new : List Item). IsRefined c.args.game.now c.args.n c.args.summaries.now s at.argument.now new) at.left at.call);
}
