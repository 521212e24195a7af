use Rattle.std.proofs.Common.{ℕ, Vec, map, subst, sym, ◌∙◌}
use Rattle.std.specs.Prelude.{ℤ}
use Rattle.std.specs.Global.{Global}
use Rattle.game_model.specs.Game.{DynamicGame}
use Rattle.game_model.specs.Parts.{KeepLimits, HasNoFault, IsFirstFault}
use Rattle.dyn_text.specs.Assembled.{shape_of_texts}
use Rattle.dyn_text.proofs.Texts.{game_is, keep_limits, no_fault_built}
use Rattle.dyn_text.proofs.Whole.{excluded, parts_are, shape_is}
use Rattle.dyn_text.proofs.assembling.assemble.Goals as goal

pub build-requires : goal.build-requires
build-requires c =
    let d = c.args.dynamic.now in
    let games = c.args.games.now in
    let r = c.args.discount.now in
    let unit = c.in_ok-unit.unit in
    let ss = map (λ (w : Vec ℕ Global). w.items) c.in_ok-strategies.strategies.items in
    let us = map (λ (w : Vec ℤ Global). w.items) c.in_ok-payoffs.payoffs.items in
    let ns = map (λ (w : Vec ℕ Global). w.items) c.in_ok-next.next.items in
    let fraction = c.in_ok-fraction.ensures.parts in
    let shape = c.in_ok-parts.ensures ∙ parts_are d games r unit ss us ns c.in_ok-fraction.fraction.0 c.in_ok-fraction.fraction.1 c.in_ok-strategies.ensures c.in_ok-payoffs.ensures.values.0 c.in_ok-next.ensures fraction.0 fraction.1 in
    subst KeepLimits (sym shape) (keep_limits d games r unit c.requires.texts c.requires.discount fraction.2 c.in_ok-unit.ensures.unit c.in_ok-payoffs.ensures.values.1)

pub returns-in-Ok-clause-game : goal.returns-in-Ok-clause-game
returns-in-Ok-clause-game c =
    let d = c.args.dynamic.now in
    let games = c.args.games.now in
    let r = c.args.discount.now in
    let unit = c.in_ok-unit.unit in
    let ss = map (λ (w : Vec ℕ Global). w.items) c.in_ok-strategies.strategies.items in
    let us = map (λ (w : Vec ℤ Global). w.items) c.in_ok-payoffs.payoffs.items in
    let ns = map (λ (w : Vec ℕ Global). w.items) c.in_ok-next.next.items in
    let fraction = c.in_ok-fraction.ensures.parts in
    let shape = c.in_ok-parts.ensures ∙ parts_are d games r unit ss us ns c.in_ok-fraction.fraction.0 c.in_ok-fraction.fraction.1 c.in_ok-strategies.ensures c.in_ok-payoffs.ensures.values.0 c.in_ok-next.ensures fraction.0 fraction.1 in
    (unit, c.in_ok-unit.ensures.unit, game_is d games r unit c.in_ok-parts.parts c.in-Ok.game c.requires.discount shape c.in-Ok.ensures.built c.in-Ok.ensures.is_game)

pub returns-in-Ok-clause-no_fault : goal.returns-in-Ok-clause-no_fault
returns-in-Ok-clause-no_fault c =
    let d = c.args.dynamic.now in
    let games = c.args.games.now in
    let r = c.args.discount.now in
    let unit = c.in_ok-unit.unit in
    let ss = map (λ (w : Vec ℕ Global). w.items) c.in_ok-strategies.strategies.items in
    let ns = map (λ (w : Vec ℕ Global). w.items) c.in_ok-next.next.items in
    let fraction = c.in_ok-fraction.ensures.parts in
    let none : HasNoFault (shape_of_texts d games) = subst HasNoFault (shape_is d games ss ns c.in_ok-strategies.ensures c.in_ok-next.ensures) c.in_ok-test_shape.ensures.no_fault in
    excluded d games r unit none fraction.2 c.in_ok-unit.ensures.unit c.in_ok-payoffs.ensures.values.1

pub returns-in-Err-clause-fault : goal.returns-in-Err-clause-fault
returns-in-Err-clause-fault c =
    let d = c.args.dynamic.now in
    let games = c.args.games.now in
    let r = c.args.discount.now in
    let unit = c.in_ok-unit.unit in
    let ss = map (λ (w : Vec ℕ Global). w.items) c.in_ok-strategies.strategies.items in
    let us = map (λ (w : Vec ℤ Global). w.items) c.in_ok-payoffs.payoffs.items in
    let ns = map (λ (w : Vec ℕ Global). w.items) c.in_ok-next.next.items in
    let fraction = c.in_ok-fraction.ensures.parts in
    let shape = c.in_ok-parts.ensures ∙ parts_are d games r unit ss us ns c.in_ok-fraction.fraction.0 c.in_ok-fraction.fraction.1 c.in_ok-strategies.ensures c.in_ok-payoffs.ensures.values.0 c.in_ok-next.ensures fraction.0 fraction.1 in
    let none : HasNoFault (shape_of_texts d games) = subst HasNoFault (shape_is d games ss ns c.in_ok-strategies.ensures c.in_ok-next.ensures) c.in_ok-test_shape.ensures.no_fault in
    absurd (no_fault_built d games r unit c.in-Err.fault none (subst (λ (g : DynamicGame). IsFirstFault g c.in-Err.fault) shape c.in-Err.ensures.fault))
