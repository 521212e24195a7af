-- The first entry that a correspondence doesn't generate, and its first broken part.
use Rattle.std.specs.Prelude.{ℕ, ◌<◌, length}
use Rattle.game_model.specs.Game.{DynamicGame, states}
use Rattle.game_model.specs.SelfGeneration.{Correspondence, IsGenerated, entries_of, entry_at}
use Rattle.selfgen_check.specs.declared.fault.CorrFault.{CorrFault}
use Rattle.selfgen_check.specs.Parts.{IsFirstBroken}

-- all entries of the state before number n are generated
abbrev pub AreGenerated : DynamicGame → Correspondence → ℕ → ℕ → Type 0
AreGenerated g c s n = (k : ℕ) → k < n → IsGenerated g c s (entry_at c s k)

-- Entries are in order of the state, and then of their number.
pub record IsFirstFault (g : DynamicGame) (c : Correspondence) (f : CorrFault) : Type 0 where
  pub state : f.state < states g
  pub entry : f.entry < length (entries_of c f.state)
  pub broken : IsFirstBroken g c f.state (entry_at c f.state f.entry) f.why
  pub here : AreGenerated g c f.state f.entry
  pub states_before : (s : ℕ) → s < f.state → AreGenerated g c s (length (entries_of c s))
