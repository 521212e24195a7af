use Rattle.std.proofs.Common.{◌≡◌, ℕ, ◌+◌, ◌<◌, List, [], ◌∷◌, ◌++◌, length, map, take, sym, ap, subst, ◌∙◌, arith}
use Rattle.std.specs.Prelude.{ℤ, All}
use Rattle.std.proofs.lemmas.List.{length-map, length_push, map_more}
use Rattle.std.proofs.lemmas.List.Elements.{All-push}
use Rattle.hull_weights.specs.Hull.{IsSmallPoint}
use Rattle.inner_sets.specs.declared.item.Item.{Item}
use Rattle.inner_sets.specs.Choice.{discounted}
use Rattle.inner_sets.specs.Rows.{points_in}
use Rattle.inner_sets.proofs.summary.discounted_points.Goals as goal

pub loop-k-preserved : goal.loop-k-preserved
loop-k-preserved c =
    let h = c.in_ok-push.ensures {u = tt} in
    let items : c.push.new.self.items ≡ c.loop-k.points.items ++ c.discounted.result ∷ [] = h.items in
    let below : c.loop-k.k < length (points_in c.args.row.now) = omega (arith, c.loop-k-test.true, c.len-k-end.ensures.count, length-map c.args.row.now (λ (x : Item). x.point)) in
    record {
      count = ap (λ (ps : List (List ℤ)). length ps) items ∙ (length_push c.loop-k.points.items c.discounted.result ∙ ap (λ (m : ℕ). m + 1) c.loop-k.invariant.count);
      is = items ∙ (ap (λ (ps : List (List ℤ)). ps ++ c.discounted.result ∷ []) c.loop-k.invariant.is
          ∙ (ap (λ (p : List ℤ). map (discounted c.args.game.now) (take c.loop-k.k (points_in c.args.row.now)) ++ p ∷ []) c.discounted.ensures.point ∙ sym (map_more (discounted c.args.game.now) (points_in c.args.row.now) c.loop-k.k [] below)));
      small = subst (λ (ps : List (List ℤ)). All IsSmallPoint ps) (sym items) (All-push IsSmallPoint c.loop-k.points.items c.discounted.result c.loop-k.invariant.small c.discounted.ensures.small);
    }
