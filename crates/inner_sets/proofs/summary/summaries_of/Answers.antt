use Rattle.std.proofs.Common.{◌≡◌, ℕ, ◌+◌, ◌<◌, List, [], ◌∷◌, ◌++◌, length, sym, ap, subst, ◌∙◌}
use Rattle.std.proofs.lemmas.List.{get_or_read, length_push}
use Rattle.inner_sets.specs.declared.item.Item.{Item}
use Rattle.inner_sets.specs.Rows.{points_in, row_at}
use Rattle.inner_sets.specs.Summaries.{PointSummary, no_summary, summary_at, IsSummary}
use Rattle.inner_sets.proofs.Steps.{push_each}
use Rattle.inner_sets.proofs.summary.summaries_of.Goals as goal

pub loop-row-preserved : goal.loop-row-preserved
loop-row-preserved c =
    let items : c.push.new.self.items ≡ c.loop-row.summaries.items ++ c.in_ok-of.field-0 ∷ [] = (c.in_ok-push.ensures {u = tt}).items in
    let row : c.row-item.result ≡ row_at c.args.rows.now c.loop-row.row-index = get_or_read c.args.rows.now c.loop-row.row-index c.row-item.result c.loop-row-test.true c.row-item.is [] in
    let here : IsSummary c.args.game.now (points_in (row_at c.args.rows.now c.loop-row.row-index)) c.in_ok-of.field-0 = subst (λ (r : List Item). IsSummary c.args.game.now (points_in r) c.in_ok-of.field-0) row (c.in_ok-of.ensures {u = tt}) in
    record {
      count = ap (λ (xs : List PointSummary). length xs) items ∙ (length_push c.loop-row.summaries.items c.in_ok-of.field-0 ∙ ap (λ (m : ℕ). m + 1) c.loop-row.invariant.count);
      each = subst (λ (xs : List PointSummary). (t : ℕ) → t < c.loop-row.row-index + 1 → IsSummary c.args.game.now (points_in (row_at c.args.rows.now t)) (summary_at xs t)) (sym items)
          (push_each (λ (t : ℕ) (y : PointSummary). IsSummary c.args.game.now (points_in (row_at c.args.rows.now t)) y) c.loop-row.summaries.items c.in_ok-of.field-0 no_summary c.loop-row.row-index c.loop-row.invariant.count c.loop-row.invariant.each here);
    }
