use Rattle.std.proofs.Common.{rules, ap, ◌∙◌, w64, SFits}
use Rattle.std.proofs.lemmas.Int.{to_z-of_z}
use Rattle.std.specs.Prelude.{ℤ}
use Rattle.level_table.specs.declared.level.Level.TheVariants.{At}
use Rattle.schedule_core.specs.Core.{lowered}
use Rattle.replay_run.proofs.moving.lower.Goals as goal

pub returns-in-Some-clause-moved : goal.returns-in-Some-clause-moved
returns-in-Some-clause-moved c =
    let fits : SFits w64 c.in-Some.level = search rules in
    (At c.in-Some.level, c.in-Some.ensures.level, c.step.ensures.step ∙ ap (λ (x : ℤ). lowered c.args.core.now c.args.w c.args.row (At x)) (to_z-of_z w64 c.in-Some.level fits))
