use Rattle.std.proofs.Common.{◌≡◌, ◌-ℤ◌, ◌∙◌, ap, subst}
use Rattle.game_model.specs.Game.{successor}
use Rattle.level_table.specs.declared.level.Level.TheVariants.{At}
use Rattle.level_table.specs.Levels.{levels_in}
use Rattle.level_table.specs.Problem.{minus_axis}
use Rattle.set_operator.proofs.LineLemmas.{term_is}
use Rattle.set_operator.proofs.lines.term.Goals as goal

pub returns-clause-some : goal.returns-clause-some
returns-clause-some c =
    let p = c.args.p.now in
    let at : c.next-next.result ≡ successor p.game c.args.by.now.state c.args.profile = cc in (
      c.finite-level.result,
      subst (λ m. levels_in c.args.levels.now m (minus_axis c.args.by.now.player) ≡ At c.finite-level.result) at c.finite-level.ensures.value,
      term_is c.finite-level.result c.counted.result c.finite-level.ensures.small c.counted.ensures.small ∙ ap (λ z. c.finite-level.result -ℤ z) c.counted.ensures.value,
    )
