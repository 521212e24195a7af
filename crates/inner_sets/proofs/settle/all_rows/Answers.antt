use Rattle.std.proofs.Common.{◌≡◌, ℕ, ◌+◌, ◌<◌, List, [], ◌∷◌, ◌++◌, length, sym, ap, subst, ◌∙◌, arith}
use Rattle.std.proofs.lemmas.List.{length_push}
use Rattle.std.proofs.lemmas.List.Elements.{Contains-get_or}
use Rattle.game_model.specs.Game.{states}
use Rattle.hull_weights.specs.Hull.{point_at}
use Rattle.inner_sets.specs.declared.item.Item.{Item}
use Rattle.inner_sets.specs.Rows.{row_at, IsFullRow}
use Rattle.inner_sets.proofs.SmallParts.{candidate_small}
use Rattle.inner_sets.proofs.Starts.{full_row, open_from_full}
use Rattle.inner_sets.proofs.Steps.{push_each}
use Rattle.inner_sets.proofs.settle.all_rows.Goals as goal

pub of-requires-clause-small : goal.of-requires-clause-small
of-requires-clause-small c = λ k i below player.
    candidate_small c.args.game.now c.args.n c.loop-s.s (point_at c.in_ok-points.points k) c.players-players.ensures.is_game c.requires.players c.requires.n_small (omega (arith, c.loop-s-test.true, c.states-s-end.ensures))
    (((c.in_ok-points.ensures {u = tt}).exactly (point_at c.in_ok-points.points k)).0 (Contains-get_or c.in_ok-points.points k [] below)) i player

pub loop-s-preserved : goal.loop-s-preserved
loop-s-preserved c =
    let items : c.push.new.self.items ≡ c.loop-s.rows.items ++ c.in_ok-of.field-0 ∷ [] = (c.in_ok-push.ensures {u = tt}).items in
    let candidates = c.in_ok-points.ensures {u = tt} in
    let made = c.in_ok-of.ensures {u = tt} in
    let here : IsFullRow c.args.game.now c.args.n c.loop-s.s c.in_ok-of.field-0 = full_row c.args.game.now c.args.n c.loop-s.s c.in_ok-points.points c.in_ok-of.field-0 candidates.ascending candidates.exactly made.points made.first in
    record {
      count = ap (λ (xs : List (List Item)). length xs) items ∙ (length_push c.loop-s.rows.items c.in_ok-of.field-0 ∙ ap (λ (m : ℕ). m + 1) c.loop-s.invariant.count);
      each = subst (λ (xs : List (List Item)). (t : ℕ) → t < c.loop-s.s + 1 → IsFullRow c.args.game.now c.args.n t (row_at xs t)) (sym items)
          (push_each (λ (t : ℕ) (r : List Item). IsFullRow c.args.game.now c.args.n t r) c.loop-s.rows.items c.in_ok-of.field-0 [] c.loop-s.s c.loop-s.invariant.count c.loop-s.invariant.each here);
    }

pub returns : goal.returns
returns c =
    let end : c.loop-s.s ≡ states c.args.game.now = omega (arith, c.loop-s-test.false, c.loop-s.auto.s-end, c.states-s-end.ensures) in
    open_from_full c.args.game.now c.args.n c.loop-s.rows.items (c.loop-s.invariant.count ∙ end) (λ t below. c.loop-s.invariant.each t (omega (arith, below, end)))
