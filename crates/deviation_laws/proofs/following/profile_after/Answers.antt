use Rattle.std.proofs.Common.{◌≡◌, ◌∙◌, refl}
use Rattle.game_model.specs.SelfGeneration.{IsGenerated, entry_at, profile_of}
use Rattle.selfgen_check.specs.Promises.{correspondence_of}
use Rattle.selfgen_check.proofs.Profiles.{number_known}
use Rattle.deviation_laws.proofs.following.profile_after.Goals as goal

pub deviation-requires-clause-profile : goal.deviation-requires-clause-profile
deviation-requires-clause-profile c =
    let made : IsGenerated c.args.set.now.game (correspondence_of c.args.set.now.game c.args.set.now.corr) c.args.state (entry_at (correspondence_of c.args.set.now.game c.args.set.now.corr) c.args.state c.args.entry) = c.game-game.ensures.checked.self_generating.generated c.args.state c.args.entry c.requires.state c.requires.entry in
    let e : c.entry.result.now ≡ (entry_at (correspondence_of c.args.set.now.game c.args.set.now.corr) c.args.state c.args.entry) = rw c.corr.ensures.corr at c.entry.ensures in
    let p : c.number_of-number.result ≡ profile_of c.args.set.now.game c.args.state (entry_at (correspondence_of c.args.set.now.game c.args.set.now.corr) c.args.state c.args.entry) = c.number_of-number.ensures ∙ rw (c.game-game.ensures.game, c.profile.ensures.profile, e) refl in
    rw (p, c.game-game.ensures.game) (number_known c.args.set.now.game c.args.state (entry_at (correspondence_of c.args.set.now.game c.args.set.now.corr) c.args.state c.args.entry) made.profile)
