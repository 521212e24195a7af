use Rattle.std.proofs.Common.{◌≡◌, ℕ, length, ap, sym, subst, ◌∙◌, rules, FitsSigned}
use Rattle.std.proofs.lemmas.Bool.{false≢true}
use Rattle.std.specs.Prelude.{pos, ◌+ℤ◌, ◌*ℤ◌}
use mir.Syntax.{w64}
use Rattle.std.proofs.lemmas.Int.{to_z-of_z}
use Rattle.game_model.specs.Game.{reached, successor, deviation_at}
use Rattle.game_model.specs.SelfGeneration.{part}
use Rattle.inner_sets.specs.Choice.{discount, payoff_share}
use Rattle.inner_sets.specs.Summaries.{PointSummary, summary_at, IsAskOf}
use Rattle.inner_sets.proofs.Asks.{least_deters, none_deters}
use Rattle.inner_sets.proofs.trial.Trial.ask_of.Goals as goal

pub returns-then-is_empty : goal.returns-then-is_empty
returns-then-is_empty c =
    let t : c.next.result ≡ reached c.args.self.now.game.now c.args.self.now.state c.args.self.now.profile c.args.i c.args.b = c.next.ensures ∙ ap (successor c.args.self.now.game.now c.args.self.now.state) c.deviation-deviation.ensures.deviation in
    let none : length (summary_at c.args.self.now.summaries.now (reached c.args.self.now.game.now c.args.self.now.state c.args.self.now.profile c.args.i c.args.b)).points ≡ 0 =
    subst (λ (y : PointSummary). length y.points ≡ 0) (c.summary-reached.ensures ∙ ap (summary_at c.args.self.now.summaries.now) t) (c.is_empty.ensures.0 c.if-is_empty.true) in
    none_deters c.args.self.now.game.now c.args.self.now.n c.args.self.now.summaries.now c.args.self.now.state c.args.self.now.profile c.args.i c.args.b c.requires.trial.game.q_small none

pub returns : goal.returns
returns c =
    let t : c.next.result ≡ reached c.args.self.now.game.now c.args.self.now.state c.args.self.now.profile c.args.i c.args.b = c.next.ensures ∙ ap (successor c.args.self.now.game.now c.args.self.now.state) c.deviation-deviation.ensures.deviation in
    let fits : FitsSigned w64 c.least_ask.result = search rules in
    let asks : c.least_ask.result ≡ payoff_share c.args.self.now.game.now c.args.self.now.n c.args.self.now.state (deviation_at c.args.self.now.game.now c.args.self.now.state c.args.self.now.profile c.args.i c.args.b) c.args.i +ℤ pos (discount c.args.self.now.game.now c.args.i) *ℤ part c.summary-reached.result.now.least c.args.i =
    c.least_ask.ensures.ask ∙ ap (λ (b : ℕ). payoff_share c.args.self.now.game.now c.args.self.now.n c.args.self.now.state b c.args.i +ℤ pos (discount c.args.self.now.game.now c.args.i) *ℤ part c.summary-reached.result.now.least c.args.i) c.deviation-deviation.ensures.deviation in
    subst (IsAskOf c.args.self.now.game.now c.args.self.now.n c.args.self.now.summaries.now c.args.self.now.state c.args.self.now.profile c.args.i c.args.b) (sym (to_z-of_z w64 c.least_ask.result fits))
    (least_deters c.args.self.now.game.now c.args.self.now.n c.args.self.now.summaries.now c.args.self.now.state c.args.self.now.profile c.args.i c.args.b c.summary-reached.result.now c.least_ask.result c.least_ask.ensures.small (c.summary-reached.ensures ∙ ap (summary_at c.args.self.now.summaries.now) t)
    (λ none. false≢true (sym c.if-is_empty.false ∙ c.is_empty.ensures.1 none)) asks)
