use Rattle.std.proofs.Common.{rules, ◌≡◌, ℕ, ◌+◌, ◌*◌, ◌++◌, ◌∷◌, [], List, Vec, map, sym, ap, subst, ◌∙◌, arith}
use Rattle.std.specs.Global.{Global}
use Rattle.std.proofs.lemmas.List.{map-append}
use Rattle.game_model.specs.Parts.{HasNoFault, KeepLimits}
use Rattle.case_maker.specs.Generated.{listed, number_after}
use Rattle.case_maker.proofs.Drawn.{after_add, after_none, payoffs_from, successors_from}
use Rattle.case_maker.proofs.Limits.{has_no_fault, keeps_limits}
use Rattle.case_maker.proofs.Listed.{listed_more, listed_none}
use Rattle.case_maker.proofs.game.generated.Goals as goal

-- one more list among those that a function gives
pushed : {A : Type 0} (f : ℕ → List A) (n : ℕ) (old new : List (Vec A Global)) (v : Vec A Global) → map (λ (w : Vec A Global). w.items) old ≡ listed f n → new ≡ old ++ v ∷ [] → v.items ≡ f n
    → map (λ (w : Vec A Global). w.items) new ≡ listed f (n + 1)
pushed {A} f n old new v e p h =
    ap (map (λ (w : Vec A Global). w.items)) p ∙ map-append (λ (w : Vec A Global). w.items) old (v ∷ [])
    ∙ ap (λ xs. xs ++ v.items ∷ []) e ∙ ap (λ x. listed f n ++ x ∷ []) h ∙ sym (listed_more f n)

pub loop-init : goal.loop-init
loop-init c = record {
  last = sym (after_none _);
  strategies = ap (map (λ v. v.items)) c.new-strategies.ensures.items ∙ sym (listed_none _);
  payoffs = ap (map (λ v. v.items)) c.new-payoffs.ensures.items ∙ sym (listed_none _);
  next = ap (map (λ v. v.items)) c.new-next.ensures.items ∙ sym (listed_none _);
}

pub loop-preserved : goal.loop-preserved
loop-preserved c =
    let s = c.loop.counter in
    let seed = c.args.seed in
    let here = c.loop.invariant.last in
    let next : 48 * s + 48 ≡ 48 * (s + 1) = omega arith in
    record {
      last = c.in_ok-stage.ensures.last ∙ ap (λ y. number_after y 48) here ∙ sym (after_add seed (48 * s) 48) ∙ ap (number_after seed) next;
      strategies = pushed _ s _ _ _ c.loop.invariant.strategies c.in_ok-push.ensures.items c.in_ok-sizes.ensures;
      payoffs = pushed _ s _ _ _ c.loop.invariant.payoffs c.in_ok-push-2.ensures.items (c.in_ok-stage.ensures.payoffs ∙ payoffs_from seed _ s here);
      next = pushed _ s _ _ _ c.loop.invariant.next c.in_ok-push-3.ensures.items (c.in_ok-stage.ensures.next ∙ successors_from seed _ c.args.count s here);
    }

pub returns-clause-parts : goal.returns-clause-parts
returns-clause-parts c = search rules

pub returns-clause-limits : goal.returns-clause-limits
returns-clause-limits c = subst KeepLimits (sym (returns-clause-parts c)) (keeps_limits c.args.seed c.args.count c.requires.some_state c.requires.few_states)

pub returns-clause-no_fault : goal.returns-clause-no_fault
returns-clause-no_fault c = subst HasNoFault (sym (returns-clause-parts c)) (has_no_fault c.args.seed c.args.count c.requires.some_state)
