use Rattle.std.proofs.Common.{◌≡◌, ◌-◌, ◌∙◌, arith, ap, refl, subst, length}
use Rattle.std.specs.Prelude.{None, Some, slice_index_or}
use Rattle.game_model.specs.Game.{counts, profile_count, strategy_at}
use Rattle.level_table.specs.Levels.{levels_in}
use Rattle.set_operator.specs.Lines.{AreAsks}
use Rattle.set_operator.proofs.LineLemmas.{IsAfter, asks_before, is_after, line_after}
use Rattle.set_operator.proofs.lines.line_at.Goals as goal

pub overflow_sub-asks : goal.overflow_sub-asks
overflow_sub-asks c =
    let p = c.args.p.now in
    let s = c.args.by.now.state in
    let i = c.args.by.now.player in
    let own : c.strategy_of.result ≡ strategy_at p.game s c.args.profile i = c.strategy_of.ensures.strategy ∙ ap (λ g. strategy_at g s c.args.profile i) c.game-game.ensures.game in
    let after : IsAfter p.game s c.args.profile i c.args.by.now.stride = is_after p.game s c.args.profile i c.args.by.now.stride c.game-game.ensures.is_problem.game c.requires.state c.requires.profile c.requires.player
    (λ e. absurd (omega (arith, own, e, c.if-strategy_of-eq0.false))) c.requires.from.stride in
    omega (arith, after.far, c.requires.before)

pub bounds : goal.bounds
bounds c =
    let p = c.args.p.now in
    let s = c.args.by.now.state in
    let i = c.args.by.now.player in
    let own : c.strategy_of.result ≡ strategy_at p.game s c.args.profile i = c.strategy_of.ensures.strategy ∙ ap (λ g. strategy_at g s c.args.profile i) c.game-game.ensures.game in
    let after : IsAfter p.game s c.args.profile i c.args.by.now.stride = is_after p.game s c.args.profile i c.args.by.now.stride c.game-game.ensures.is_problem.game c.requires.state c.requires.profile c.requires.player
    (λ e. absurd (omega (arith, own, e, c.if-strategy_of-eq0.false))) c.requires.from.stride in
    omega (arith, after.far, after.some, c.requires.before)

pub returns-in-Some : goal.returns-in-Some
returns-in-Some c =
    let p = c.args.p.now in
    let t = levels_in c.args.levels.now in
    let s = c.args.by.now.state in
    let i = c.args.by.now.player in
    let a = c.args.profile in
    let own : c.strategy_of.result ≡ strategy_at p.game s a i = c.strategy_of.ensures.strategy ∙ ap (λ g. strategy_at g s a i) c.game-game.ensures.game in
    let after : IsAfter p.game s a i c.args.by.now.stride = is_after p.game s a i c.args.by.now.stride c.game-game.ensures.is_problem.game c.requires.state c.requires.profile c.requires.player
    (λ e. absurd (omega (arith, own, e, c.if-strategy_of-eq0.false))) c.requires.from.stride in
    let here : AreAsks p t s (a - c.args.by.now.stride) i (slice_index_or c.args.asks.now (length c.args.asks.now - c.args.by.now.stride) None) =
    asks_before p t s a i (profile_count (counts p.game s)) c.args.by.now.stride c.args.asks.now after c.requires.profile refl c.requires.before c.requires.each in
    line_after p t s a i c.args.by.now.stride (Some c.in-Some.found) (Some c.in-Some.found.line) after (subst (AreAsks p t s (a - c.args.by.now.stride) i) c.in-Some.is here) refl

pub returns-in-None : goal.returns-in-None
returns-in-None c =
    let p = c.args.p.now in
    let t = levels_in c.args.levels.now in
    let s = c.args.by.now.state in
    let i = c.args.by.now.player in
    let a = c.args.profile in
    let own : c.strategy_of.result ≡ strategy_at p.game s a i = c.strategy_of.ensures.strategy ∙ ap (λ g. strategy_at g s a i) c.game-game.ensures.game in
    let after : IsAfter p.game s a i c.args.by.now.stride = is_after p.game s a i c.args.by.now.stride c.game-game.ensures.is_problem.game c.requires.state c.requires.profile c.requires.player
    (λ e. absurd (omega (arith, own, e, c.if-strategy_of-eq0.false))) c.requires.from.stride in
    let here : AreAsks p t s (a - c.args.by.now.stride) i (slice_index_or c.args.asks.now (length c.args.asks.now - c.args.by.now.stride) None) =
    asks_before p t s a i (profile_count (counts p.game s)) c.args.by.now.stride c.args.asks.now after c.requires.profile refl c.requires.before c.requires.each in
    line_after p t s a i c.args.by.now.stride None None after (subst (AreAsks p t s (a - c.args.by.now.stride) i) c.in-None.is here) refl
