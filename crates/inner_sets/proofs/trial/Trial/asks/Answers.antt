use Rattle.std.proofs.Common.{ℕ, zero, suc, ◌<◌, List, [], ◌∷◌, arith, subst, sym, rules, FitsSigned}
use Rattle.std.specs.Prelude.{ℤ}
use mir.Syntax.{w64}
use Rattle.std.proofs.lemmas.Int.{to_z-of_z}
use Rattle.game_model.specs.Game.{DynamicGame}
use Rattle.game_model.specs.SelfGeneration.{part}
use Rattle.inner_sets.specs.Summaries.{PointSummary, IsAsk}
use Rattle.inner_sets.proofs.trial.Trial.asks.Goals as goal

both : (g : DynamicGame) (n : ℕ) (ys : List PointSummary) (s a : ℕ) (x y : ℤ) → IsAsk g n ys s a 0 x → IsAsk g n ys s a 1 y → (i : ℕ) → i < 2 → IsAsk g n ys s a i (part (x ∷ y ∷ []) i)
both g n ys s a x y first second zero h = first
both g n ys s a x y first second (suc zero) h = second
both g n ys s a x y first second (suc (suc i)) h = absurd (omega arith)

pub returns : goal.returns
returns c =
    let f1 : FitsSigned w64 c.ask-first.result = search rules in
    let f2 : FitsSigned w64 c.ask-second.result = search rules in
    both c.args.self.now.game.now c.args.self.now.n c.args.self.now.summaries.now c.args.self.now.state c.args.self.now.profile _ _
    (subst (IsAsk c.args.self.now.game.now c.args.self.now.n c.args.self.now.summaries.now c.args.self.now.state c.args.self.now.profile 0) (sym (to_z-of_z w64 c.ask-first.result f1)) c.ask-first.ensures)
    (subst (IsAsk c.args.self.now.game.now c.args.self.now.n c.args.self.now.summaries.now c.args.self.now.state c.args.self.now.profile 1) (sym (to_z-of_z w64 c.ask-second.result f2)) c.ask-second.ensures)
