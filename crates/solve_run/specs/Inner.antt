-- The inner sets of a report.
use Rattle.std.specs.Prelude.{◌≡◌, ◌⊎◌, ℕ, ◌<◌, ◌≤◌, List, [], Option, Some, None, length, slice_index, slice_index_or}
use Rattle.game_model.specs.Game.{DynamicGame, states}
use Rattle.game_model.specs.SelfGeneration.{Entry, no_entry, IsSelfGenerating, profile_of}
use Rattle.selfgen_check.specs.Promises.{Promises, correspondence_of}
use Rattle.deviation_laws.specs.Plans.{NoPlanGains}
use Rattle.inner_sets.specs.Inner.{IsInnerSet}

-- into how many steps the lattice divides each player's range of payoffs: 16 where no word says it
abbrev pub inner_number : Option ℕ → ℕ
inner_number None = 16
inner_number (Some n) = n

-- for each entry of a state the number of the profile that it plays
pub record AreNumbersOf (g : DynamicGame) (s : ℕ) (entries : List Entry) (numbers : List ℕ) : Type 0 where
  pub one_each : length numbers ≡ length entries
  pub each : (k : ℕ) → k < length entries → slice_index numbers k ≡ profile_of g s (slice_index_or entries k no_entry)

pub record AreNumbers (g : DynamicGame) (c : Promises) (numbers : List (List ℕ)) : Type 0 where
  pub one_list_each : length numbers ≡ states g
  pub each : (s : ℕ) → s < states g → AreNumbersOf g s (slice_index_or c.entries s []) (slice_index_or numbers s [])

-- The inner sets: the largest choice of candidates, self-generating, so that no plan of deviations gains.
pub record IsInnerOf (g : DynamicGame) (n : ℕ) (c : Promises) (numbers : List (List ℕ)) : Type 0 where
  pub inner : IsInnerSet g n c
  pub self_generating : IsSelfGenerating g (correspondence_of g c)
  pub no_plan_gains : NoPlanGains g (correspondence_of g c)
  pub numbered : AreNumbers g c numbers

-- the inner sets at n, and none at 0
abbrev pub IsInnerShown : DynamicGame → ℕ → Option Promises → List (List ℕ) → Type 0
IsInnerShown g n None numbers = (n ≡ 0) × (numbers ≡ [])
IsInnerShown g n (Some c) numbers = (1 ≤ n) × IsInnerOf g n c numbers
