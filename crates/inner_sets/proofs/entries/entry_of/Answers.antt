use Rattle.std.proofs.Common.{◌≡◌, ℕ, List, length, ap, ◌∙◌, arith}
use Rattle.game_model.specs.Game.{counts}
use Rattle.game_model.proofs.Profiles.{length-strategies_of}
use Rattle.inner_sets.proofs.Steps.{built_from}
use Rattle.inner_sets.proofs.entries.entry_of.Goals as goal

pub new-requires : goal.new-requires
new-requires c =
    let long = length-strategies_of (counts c.args.trial.now.game.now c.args.trial.now.state) c.args.trial.now.profile in
    omega (arith, ap (λ (xs : List ℕ). length xs) c.in_ok-profile.ensures, long, (c.requires.trial.game.each_state c.args.trial.now.state c.requires.trial.state).one_each, c.requires.trial.two_players)

pub returns : goal.returns
returns c =
    let long : length c.in_ok-profile.profile ≡ 2 = ap (λ (xs : List ℕ). length xs) c.in_ok-profile.ensures ∙ (length-strategies_of (counts c.args.trial.now.game.now c.args.trial.now.state) c.args.trial.now.profile
    ∙ ((c.requires.trial.game.each_state c.args.trial.now.state c.requires.trial.state).one_each ∙ c.requires.trial.two_players)) in
    built_from c.args.trial.now.game.now c.args.trial.now.n c.args.trial.now.summaries.now c.args.trial.now.state c.args.trial.now.profile c.args.point c.padded.result c.in_ok-profile.profile c.lottery_at-lottery.result c.in_ok-punish.punish c.new.result
    c.new.ensures c.in_ok-profile.ensures long c.padded.ensures c.lottery_at-lottery.ensures c.in_ok-punish.ensures
