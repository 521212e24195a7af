use Rattle.std.proofs.Common.{◌≡◌, ap, subst, ◌∙◌}
use Rattle.game_model.specs.Game.{DynamicGame, IsGame, IsLeastCommonMultiple}
use Rattle.case_maker.specs.Generated.{generated_game}
use Rattle.case_maker.proofs.Limits.{base_is_one}
use Rattle.case_maker.proofs.game.game_from.Goals as goal

pub returns-clause-game : goal.returns-clause-game
returns-clause-game c =
    let game = c.in-Ok.game in
    let parts = c.in_ok-parts.ensures.parts in
    let shape : game ≡ record (generated_game c.args.seed c.args.count) { base = game.base } =
    c.in-Ok.ensures.built ∙ ap (λ (g : DynamicGame). record g { base = game.base }) parts in
    let discounts = ap (λ (g : DynamicGame). g.discounts) shape in
    let one = base_is_one game.base (subst (λ ds. IsLeastCommonMultiple ds game.base) discounts c.in-Ok.ensures.is_game.base_least) in
    shape ∙ ap (λ b. record (generated_game c.args.seed c.args.count) { base = b }) one

pub returns-clause-is_game : goal.returns-clause-is_game
returns-clause-is_game c = subst IsGame (returns-clause-game c) c.in-Ok.ensures.is_game
