-- An entry that is tested against a correspondence.
use Rattle.std.specs.Prelude.{◌≡◌, ◌<◌, pos}
use Rattle.game_model.specs.Game.{IsGame, states}
use Rattle.game_model.specs.SelfGeneration.{Correspondence, profile_of}
use Rattle.selfgen_check.specs.declared.claim.Claim.{Claim}
use Rattle.selfgen_check.specs.Limits.{IsSmallEntry, KeepsLimits}
use Rattle.selfgen_check.specs.Parts.{HasProfile}
use Rattle.selfgen_check.specs.Promises.{correspondence_of, scale_of}

abbrev pub set_of : Claim → Correspondence
set_of k = correspondence_of k.game.now k.corr.now

-- All is within the limits, the profile is in range, and its number and the scale are known.
pub record IsClaim (k : Claim) : Type 0 where
  pub game : IsGame k.game.now
  pub limits : KeepsLimits k.game.now k.corr.now
  pub scale : k.scale ≡ pos (scale_of k.game.now k.corr.now)
  pub state : k.state < states k.game.now
  pub small : IsSmallEntry k.game.now k.entry.now
  pub strategies : HasProfile k.game.now k.state k.entry.now
  pub number : k.profile ≡ profile_of k.game.now k.state k.entry.now
