use Rattle.std.proofs.Common.{◌≡◌, ◌≢◌, ℕ, ◌+◌, List, [], ◌∷◌, ◌++◌, sym, subst, arith}
use Rattle.game_model.specs.Game.{strategy_at}
use Rattle.inner_sets.specs.Built.{AddsPunishments}
use Rattle.inner_sets.proofs.Punishing.{punish_more, punish_own}
use Rattle.inner_sets.proofs.entries.push_punishments.Goals.{then-b-own+in_ok-push, else-b-own}
use Rattle.inner_sets.proofs.entries.push_punishments.Goals as goal

pub loop-b-preserved : goal.loop-b-preserved
loop-b-preserved c =
    elim c.if-b-own.branch [
      | then-b-own+in_ok-push w ↦
          let e : c.if-b-own.punish ≡ c.loop-b.punish ++ w.first_least.result ∷ [] = cc ((w.in_ok-push.ensures {u = tt}).ok) in
          let ne : c.loop-b.b ≢ strategy_at c.args.trial.now.game.now c.args.trial.now.state c.args.trial.now.profile c.args.i = omega (arith, c.strategy-own.ensures.strategy) in
          punish_more c.args.trial.now.game.now c.args.trial.now.summaries.now c.args.trial.now.state c.args.trial.now.profile c.args.i c.loop-b.b w.first_least.result c.args.punish.now c.loop-b.punish c.if-b-own.punish ne c.loop-b.invariant e (λ dev. w.first_least.ensures)
      | else-b-own w ↦
          let own : c.loop-b.b ≡ strategy_at c.args.trial.now.game.now c.args.trial.now.state c.args.trial.now.profile c.args.i = omega (arith, c.strategy-own.ensures.strategy) in
          subst (λ (xs : List ℕ). AddsPunishments c.args.trial.now.game.now c.args.trial.now.summaries.now c.args.trial.now.state c.args.trial.now.profile c.args.i (c.loop-b.b + 1) c.args.punish.now xs) (sym w.punish-is)
          (punish_own c.args.trial.now.game.now c.args.trial.now.summaries.now c.args.trial.now.state c.args.trial.now.profile c.args.i c.loop-b.b c.args.punish.now c.loop-b.punish own c.loop-b.invariant)
    ]
