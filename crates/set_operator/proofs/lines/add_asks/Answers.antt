-- one profile more
use Rattle.std.proofs.Common.{◌≡◌, ◌<◌, ◌++◌, ◌∷◌, [], ◌∙◌, arith, ap, subst, sym, length}
use Rattle.std.proofs.lemmas.List.{length_push}
use Rattle.game_model.specs.Game.{counts, profile_count}
use Rattle.level_table.specs.Levels.{levels_in}
use Rattle.set_operator.specs.Lines.{AreAll, AreAsks}
use Rattle.set_operator.proofs.LineLemmas.{all_more}
use Rattle.set_operator.proofs.lines.add_asks.Goals as goal

pub loop-a-preserved : goal.loop-a-preserved
loop-a-preserved c =
    let p = c.args.p.now in
    let t = levels_in c.args.levels.now in
    let s = c.args.state in
    let i = c.args.i in
    let n = profile_count (counts p.game s) in
    let below : c.loop-a.a < n = omega (arith, c.profiles-a-end.ensures ∙ ap (λ g. profile_count (counts g s)) c.game.ensures.game, c.loop-a-test.true) in
    let new : AreAsks p t s c.loop-a.a i c.asks_at.result = subst (λ j. AreAsks p t s c.loop-a.a j c.asks_at.result) c.worth_of-by.ensures.player (subst (λ z. AreAsks p t z c.loop-a.a c.worth_of-by.result.player c.asks_at.result) c.worth_of-by.ensures.state c.asks_at.ensures) in
    let items : c.push.new.self.items ≡ c.loop-a.asks.items ++ c.asks_at.result ∷ [] = c.in-Ok.ensures.items in
    record {
      count = ap length items ∙ length_push c.loop-a.asks.items c.asks_at.result ∙ omega (arith, c.loop-a.invariant.count);
      each = subst (AreAll p t s) (sym items) (all_more p t s c.loop-a.a i c.loop-a.asks.items c.asks_at.result below c.loop-a.invariant.count c.loop-a.invariant.each new);
      room = omega (arith, c.loop-a.invariant.room, c.push.ensures.capacity);
    }
