use Rattle.std.proofs.Common.{◌≡◌, ◌≢◌, ◌+◌, ◌<◌, Bool, true, false, List, [], length, sym, ap, subst, ◌∙◌, arith}
use Rattle.std.proofs.lemmas.Bool.{false≢true}
use Rattle.std.proofs.lemmas.List.{get_or_read}
use Rattle.inner_sets.specs.declared.item.Item.{Item}
use Rattle.inner_sets.specs.Rounds.{HasAll}
use Rattle.inner_sets.specs.Rows.{points_in, row_at}
use Rattle.inner_sets.specs.Summaries.{PointSummary, no_summary, summary_at, IsSummary}
use Rattle.inner_sets.proofs.Held.{AreRenewedBelow, renewed_more, renewed_same}
use Rattle.inner_sets.proofs.summary.renew.Goals.{then-has_lost+in_ok-summaries, else-has_lost}
use Rattle.inner_sets.proofs.summary.renew.Goals as goal

pub loop-s-preserved : goal.loop-s-preserved
loop-s-preserved c =
    let state : c.loop-s.s < length c.args.rows.now = omega (arith, c.loop-s-test.true, c.states-s-end.ensures, c.requires.one_row_each) in
    let inside : c.loop-s.s < length c.loop-s.summaries = omega (arith, c.loop-s-test.true, c.states-s-end.ensures, c.requires.one_summary_each, c.loop-s.invariant.count) in
    let row : c.index-rows-s.result ≡ row_at c.args.rows.now c.loop-s.s = get_or_read c.args.rows.now c.loop-s.s c.index-rows-s.result state c.index-rows-s.is [] in
    let old : c.index-summaries-s.result ≡ summary_at c.args.summaries.now c.loop-s.s =
    get_or_read c.loop-s.summaries c.loop-s.s c.index-summaries-s.result inside c.index-summaries-s.is no_summary ∙ c.loop-s.invariant.rest c.loop-s.s (omega arith) in
    let rows = ap (λ (r : List Item). length r) row in
    let read = ap (λ (y : PointSummary). length y.points) (sym c.index-summaries-s.is ∙ old) in
    elim c.if-has_lost.branch [
      | then-has_lost+in_ok-summaries w ↦
          let lost : HasAll c.args.rows.now c.args.summaries.now c.loop-s.s → ⊥ = λ all. false≢true (sym (c.has_lost.ensures.1 (rows ∙ (all ∙ sym read))) ∙ w.if-has_lost.true) in
          let is : IsSummary c.args.game.now (points_in (row_at c.args.rows.now c.loop-s.s)) w.in_ok-summaries.field-0 = subst (λ (r : List Item). IsSummary c.args.game.now (points_in r) w.in_ok-summaries.field-0) row (w.in_ok-summaries.ensures {u = tt}) in
          subst (AreRenewedBelow c.args.game.now c.args.rows.now c.args.summaries.now (c.loop-s.s + 1)) (sym w.summaries-is)
          (renewed_more c.args.game.now c.args.rows.now c.args.summaries.now c.loop-s.summaries c.loop-s.s c.loop-s.invariant w.in_ok-summaries.field-0 inside lost is)
      | else-has_lost w ↦
          subst (AreRenewedBelow c.args.game.now c.args.rows.now c.args.summaries.now (c.loop-s.s + 1)) (sym w.summaries-is)
          (renewed_same c.args.game.now c.args.rows.now c.args.summaries.now c.loop-s.summaries c.loop-s.s c.loop-s.invariant (sym rows ∙ (c.has_lost.ensures.0 w.if-has_lost.false ∙ read)))
    ]
