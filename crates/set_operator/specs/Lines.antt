-- The profiles that differ in one player's strategy alone, and what they ask of the player's part.
use Rattle.std.specs.Prelude.{◌≡◌, ℕ, ◌-◌, ◌*◌, ◌/◌, ◌%◌, ◌^◌, ◌<◌, ◌≤◌, List, length, slice_index, slice_index_or, take, ℤ, pos, ◌-ℤ◌, ◌*ℤ◌, ◌≤ℤ◌, ◌<ℤ◌, Option, Some, None}
use Rattle.std.specs.Int.RustNames.{unsigned_abs}
use Rattle.game_model.specs.Game.{counts, profile_count, payoff_at, deviation_at, reached, successor}
use Rattle.level_table.specs.declared.level.Level.TheVariants.{At}
use Rattle.level_table.specs.Problem.{Problem, discount_at, fineness, minus_axis}
use Rattle.level_table.specs.Levels.{Levels}
use Rattle.level_table.specs.Reasons.{IsKnown}
use Rattle.set_operator.specs.Asked.{gain_unit}
use Rattle.set_operator.specs.declared.lines.Line.{Line}
use Rattle.set_operator.specs.declared.lines.Asks.{Asks}
use Rattle.set_operator.specs.declared.lines.Worth.{Worth}

-- What player i's payoff after profile a counts in units of 1/E of what follows. A gain is the difference of two of these.
abbrev pub worth : Problem → ℕ → ℕ → ℕ → ℤ
worth p s a i = pos ((p.game.q - discount_at p i) * (p.game.base / discount_at p i) * fineness p) *ℤ payoff_at p.game s a i

-- the factors of what player i's payoffs in state s count
pub record IsWorth (p : Problem) (s i : ℕ) (by : Worth) : Type 0 where
  pub state : by.state ≡ s
  pub player : by.player ≡ i
  pub stride : by.stride ≡ profile_count (take i (counts p.game s))
  pub weight : by.weight ≡ pos (p.game.q - discount_at p i)
  pub unit : by.unit ≡ pos (gain_unit p i)

-- What profile a asks, but for the payoff of the profile that a deviation to it comes from: a level of the state that follows it, less what player i's payoff counts.
abbrev pub IsTerm : Problem → Levels → ℕ → ℕ → ℕ → ℤ → Type 0
IsTerm p t s i a x = (w : ℤ) × (t (successor p.game s a) (minus_axis i) ≡ At w) × (x ≡ w -ℤ worth p s a i)

-- The least of what profile a with strategies of player i below n asks, and the first of those strategies that asks it.
pub record IsLineBelow (p : Problem) (t : Levels) (s a i n : ℕ) (line : Line) : Type 0 where
  pub known : (b : ℕ) → b < n → IsKnown p t (reached p.game s a i b)
  pub inside : line.first < n
  pub here : IsTerm p t s i (deviation_at p.game s a i line.first) line.least
  pub least : (b : ℕ) (x : ℤ) → b < n → IsTerm p t s i (deviation_at p.game s a i b) x → line.least ≤ℤ x
  pub earlier : (b : ℕ) (x : ℤ) → b < line.first → IsTerm p t s i (deviation_at p.game s a i b) x → line.least <ℤ x
  pub small : unsigned_abs line.least ≤ 2 ^ 61

-- of all strategies of player i
abbrev pub IsLine : Problem → Levels → ℕ → ℕ → ℕ → Line → Type 0
IsLine p t s a i line = IsLineBelow p t s a i (slice_index (counts p.game s) i) line

-- each state that profile a with some strategy of player i reaches has numbers alone
abbrev pub IsKnownLine : Problem → Levels → ℕ → ℕ → ℕ → Type 0
IsKnownLine p t s a i = (b : ℕ) → b < slice_index (counts p.game s) i → IsKnown p t (reached p.game s a i b)

-- the same, or none where the state that one of them reaches has an Empty level
abbrev pub IsLineOf : Problem → Levels → ℕ → ℕ → ℕ → Option Line → Type 0
IsLineOf p t s a i None = IsKnownLine p t s a i → ⊥
IsLineOf p t s a i (Some line) = IsLine p t s a i line

-- with what the profile itself asks
abbrev pub AreAsks : Problem → Levels → ℕ → ℕ → ℕ → Option Asks → Type 0
AreAsks p t s a i None = IsKnownLine p t s a i → ⊥
AreAsks p t s a i (Some asks) = IsLine p t s a i asks.line × IsTerm p t s i a asks.own

-- for each profile of each player, player after player
abbrev pub AreAll : Problem → Levels → ℕ → List (Option Asks) → Type 0
AreAll p t s asks = (k : ℕ) → k < length asks → AreAsks p t s (k % profile_count (counts p.game s)) (k / profile_count (counts p.game s)) (slice_index_or asks k None)
