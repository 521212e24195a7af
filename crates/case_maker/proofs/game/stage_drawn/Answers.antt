use Rattle.std.proofs.Common.{◌≡◌, ◌+◌, ◌*◌, ◌%◌, ◌++◌, ◌∷◌, [], pos, sym, ap, ◌∙◌, arith}
use Rattle.case_maker.specs.Generated.{draw, number_after}
use Rattle.case_maker.proofs.Drawn.{after_add, after_none, payoffs_more, successors_more}
use Rattle.case_maker.proofs.Listed.{listed_none}
use Rattle.case_maker.proofs.game.stage_drawn.Goals as goal

pub loop-init : goal.loop-init
loop-init c = record {
  last = sym (after_none _);
  payoffs = c.new-payoffs.ensures.items ∙ sym (listed_none _);
  next = c.new-next.ensures.items ∙ sym (listed_none _);
}

pub loop-preserved : goal.loop-preserved
loop-preserved c =
    let x = c.args.draws.now.last in
    let a = c.loop.counter in
    let here = c.loop.invariant.last in
    let next : 3 * a + 3 ≡ 3 * (a + 1) = omega arith in
    record {
      last = c.in_ok-profile.ensures.last ∙ ap (λ y. number_after y 3) here ∙ sym (after_add x (3 * a) 3) ∙ ap (number_after x) next;
      payoffs = c.in_ok-profile.ensures.payoffs ∙ ap (λ xs. xs ++ pos (draw c.loop.draws.last 1 % 16) ∷ pos (draw c.loop.draws.last 2 % 16) ∷ []) c.loop.invariant.payoffs ∙ sym (payoffs_more x _ a here);
      next = c.in_ok-profile.ensures.next ∙ ap (λ xs. xs ++ draw c.loop.draws.last 3 % c.args.count ∷ []) c.loop.invariant.next ∙ sym (successors_more x _ c.args.count a here);
    }
