use Rattle.std.proofs.Common.{◌≡◌, ◌∙◌, ap, arith}
use Rattle.game_model.specs.Game.{DynamicGame, states}
use Rattle.solve_run.proofs.inner.numbers_of.Goals as goal

pub returns : goal.returns
returns c =
    let all : c.states-s-end.result ≡ states c.args.set.now.game = c.states-s-end.ensures ∙ ap (λ (g : DynamicGame). states g) c.game-game.ensures.game in
    let n : c.loop-s.s ≡ states c.args.set.now.game = omega (arith, all, c.loop-s.auto.s-end, c.loop-s-test.false) in
    record { one_list_each = c.loop-s.invariant.one_list_each ∙ n; each = λ s below. c.loop-s.invariant.each s (omega (arith, below, n)) }
