use Rattle.std.proofs.Common.{◌≡◌, ℕ, ◌+◌, ◌<◌, List, [], ◌∷◌, ◌++◌, length, sym, ap, subst, ◌∙◌, arith}
use Rattle.std.specs.Prelude.{ℤ}
use Rattle.std.proofs.lemmas.List.{get_or_read, length_push}
use Rattle.hull_weights.specs.Hull.{point_at}
use Rattle.inner_sets.specs.declared.item.Item.{Item}
use Rattle.inner_sets.specs.Rows.{no_item, item_at}
use Rattle.inner_sets.proofs.Starts.{made_points}
use Rattle.inner_sets.proofs.Steps.{push_each}
use Rattle.inner_sets.proofs.row.Row.of.Goals as goal

pub loop-k-preserved : goal.loop-k-preserved
loop-k-preserved c =
    let h = c.in_ok-push.ensures {u = tt} in
    let make : List ℤ → Item = λ (p : List ℤ). record { point = p; profile = 0 } in
    let below : c.loop-k.k < length c.args.points.now = omega (arith, c.loop-k-test.true, c.len-k-end.ensures) in
    let here : make c.get.result.now ≡ make (point_at c.args.points.now c.loop-k.k) = ap make (get_or_read c.args.points.now c.loop-k.k c.get.result.now below c.get.ensures []) in
    let items : c.push.new.self.items ≡ c.loop-k.items.items ++ make c.get.result.now ∷ [] = h.items in
    record {
      count = ap (λ (xs : List Item). length xs) items ∙ (length_push c.loop-k.items.items (make c.get.result.now) ∙ ap (λ (m : ℕ). m + 1) c.loop-k.invariant.count);
      each = subst (λ (xs : List Item). (j : ℕ) → j < c.loop-k.k + 1 → item_at xs j ≡ make (point_at c.args.points.now j)) (sym items)
          (push_each (λ (j : ℕ) (x : Item). x ≡ make (point_at c.args.points.now j)) c.loop-k.items.items (make c.get.result.now) no_item c.loop-k.k c.loop-k.invariant.count c.loop-k.invariant.each here);
    }

pub returns-clause-points : goal.returns-clause-points
returns-clause-points c =
    let end : c.loop-k.k ≡ length c.args.points.now = omega (arith, c.loop-k-test.false, c.loop-k.auto.k-end, c.len-k-end.ensures) in
    made_points c.args.points.now c.loop-k.items.items (c.loop-k.invariant.count ∙ end) (λ j below. c.loop-k.invariant.each j (omega (arith, below, end)))
