use Rattle.std.proofs.Common.{ℕ, ◌≡◌, length, map, Vec, List, Some, None, arith, below_more, sym, subst, ◌∙◌}
use Rattle.std.specs.Global.{Global}
use Rattle.std.proofs.lemmas.List.{length-map}
use Rattle.game_model.specs.Game.{IsLeastCommonMultiple}
use Rattle.game_model.specs.Parts.{shape_fault, shape_of}
use Rattle.game_model.proofs.Faults.{game_from}
use Rattle.game_model.proofs.game.Game.build.Goals as goal

pub returns-in-Some-clause-fault : goal.returns-in-Some-clause-fault
returns-in-Some-clause-fault c =
    let count : length (map (λ (v : Vec ℕ Global). v.items) c.args.parts.strategies.items) ≡ length c.args.parts.strategies.items = length-map _ _ in
    record {
      known = omega (arith, count, c.in-Some.ensures.named);
      here = subst (λ (t : ℕ). shape_fault (shape_of c.args.parts) t ≡ Some c.in-Some.fault) (sym c.in-Some.ensures.named) (sym c.in-Some.ensures.first);
      none_before = λ t below. c.loop-s.invariant t (omega (arith, c.in-Some.ensures.named));
    }

pub loop-s-preserved : goal.loop-s-preserved
loop-s-preserved c = below_more (λ t. shape_fault (shape_of c.args.parts) t ≡ None) c.loop-s.s c.loop-s.invariant (sym c.fault_in.ensures.first ∙ c.in-None.is)

pub invariant_of-result : goal.invariant_of-result
invariant_of-result c =
    let count : length (map (λ (v : Vec ℕ Global). v.items) c.args.parts.strategies.items) ≡ length c.args.parts.strategies.items = length-map _ _ in
    game_from c.args.parts c.least_common_multiple-base.result c.requires (λ s known. c.loop-s.invariant s (omega (arith, count, known)))
    (subst (λ (ps : List ℕ). IsLeastCommonMultiple ps c.least_common_multiple-base.result) c.deref.ensures.value c.least_common_multiple-base.ensures)

pub returns-clause-is_game : goal.returns-clause-is_game
returns-clause-is_game c = invariant_of-result c
