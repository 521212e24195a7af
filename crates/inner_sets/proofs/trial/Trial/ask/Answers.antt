use Rattle.std.proofs.Common.{◌≡◌, ◌+◌, ◌∙◌, ap, sym, subst, arith, rules, to_z, of_z, FitsSigned}
use Rattle.std.specs.Int.{int_max}
use mir.Syntax.{w64}
use Rattle.std.proofs.lemmas.Int.{to_z-of_z}
use Rattle.game_model.specs.Game.{IsDeviation}
use Rattle.inner_sets.proofs.Asks.{IsAskBelow, no_ask, one_ask_more, own_asks_nothing, all_asked}
use Rattle.inner_sets.proofs.trial.Trial.ask.Goals.{then-b-own, else-b-own}
use Rattle.inner_sets.proofs.trial.Trial.ask.Goals as goal

pub loop-b-init : goal.loop-b-init
loop-b-init c = no_ask c.args.self.now.game.now c.args.self.now.n c.args.self.now.summaries.now c.args.self.now.state c.args.self.now.profile c.args.i c.requires.trial.game.q_small

pub loop-b-preserved : goal.loop-b-preserved
loop-b-preserved c = elim c.if-b-own.branch [
  | then-b-own w ↦
      let fits : FitsSigned w64 w.max-ask.result = search rules in
      let fits_one : FitsSigned w64 w.ask_of.result = search rules in
      let one : to_z w64 (of_z w64 w.ask_of.result) ≡ w.ask_of.result = to_z-of_z w64 w.ask_of.result fits_one in
      let now : to_z w64 c.if-b-own.ask-bits ≡ int_max (to_z w64 c.loop-b.ask-bits) w.ask_of.result = w.ask-is ∙ (to_z-of_z w64 w.max-ask.result fits ∙ (w.max-ask.ensures.value ∙ ap (int_max (to_z w64 c.loop-b.ask-bits)) one)) in
      let deviates : IsDeviation c.args.self.now.game.now c.args.self.now.state c.args.self.now.profile c.args.i c.loop-b.b = record {
        player = omega (arith, c.requires.player, c.requires.trial.two_players);
        strategy = omega (arith, c.loop-b-test.true, c.strategies-b-end.ensures.count);
        other = λ same. w.if-b-own.true (same ∙ sym c.strategy-own.ensures.strategy);
      } in
      subst (IsAskBelow c.args.self.now.game.now c.args.self.now.n c.args.self.now.summaries.now c.args.self.now.state c.args.self.now.profile c.args.i (c.loop-b.b + 1)) (sym now)
      (one_ask_more c.args.self.now.game.now c.args.self.now.n c.args.self.now.summaries.now c.args.self.now.state c.args.self.now.profile c.args.i c.loop-b.b (to_z w64 c.loop-b.ask-bits) w.ask_of.result deviates c.loop-b.invariant w.ask_of.ensures)
  | else-b-own w ↦
      subst (IsAskBelow c.args.self.now.game.now c.args.self.now.n c.args.self.now.summaries.now c.args.self.now.state c.args.self.now.profile c.args.i (c.loop-b.b + 1)) (sym w.ask-is)
      (own_asks_nothing c.args.self.now.game.now c.args.self.now.n c.args.self.now.summaries.now c.args.self.now.state c.args.self.now.profile c.args.i c.loop-b.b (to_z w64 c.loop-b.ask-bits) (λ dev. dev.other (w.if-b-own.false ∙ c.strategy-own.ensures.strategy)) c.loop-b.invariant)
]

pub returns : goal.returns
returns c = all_asked c.args.self.now.game.now c.args.self.now.n c.args.self.now.summaries.now c.args.self.now.state c.args.self.now.profile c.args.i c.loop-b.b (to_z w64 c.loop-b.ask-bits)
    (λ b dev. omega (arith, dev.strategy, c.loop-b-test.false, c.strategies-b-end.ensures.count)) c.loop-b.invariant
