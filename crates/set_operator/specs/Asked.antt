-- The deviations of one player from a profile, and what they ask of the part that follows it.
use Rattle.std.specs.Prelude.{◌≡◌, ℕ, ◌+◌, ◌-◌, ◌*◌, ◌/◌, ◌^◌, ◌<◌, ◌≤◌, slice_index, ℤ, pos, ◌-ℤ◌, ◌≤ℤ◌, ◌<ℤ◌, Option, Some, None}
use Rattle.std.specs.Int.RustNames.{unsigned_abs}
use Rattle.game_model.specs.Game.{counts, payoff_at, strategy_at, successor, deviation_at, reached, IsDeviation}
use Rattle.level_table.specs.declared.level.Level.TheVariants.{At}
use Rattle.level_table.specs.Problem.{Problem, discount_at, fineness, plus_axis, minus_axis, gain}
use Rattle.level_table.specs.Levels.{Levels}
use Rattle.level_table.specs.Reasons.{IsKnown}
use Rattle.set_operator.specs.declared.boxes.Deviations.{Deviations}
use Rattle.set_operator.specs.declared.boxes.Side.{Side}

-- what a payoff of player i counts in a gain, in units of 1/E of what follows, but for the factor q - p_i
abbrev pub gain_unit : Problem → ℕ → ℕ
gain_unit p i = (p.game.base / discount_at p i) * fineness p

-- The deviation of player i to b is the profile first + b * stride.
pub record AreDeviations (p : Problem) (s a i : ℕ) (d : Deviations) : Type 0 where
  pub state : d.state ≡ s
  pub player : d.player ≡ i
  pub own : d.own ≡ strategy_at p.game s a i
  pub steps : (b : ℕ) → b < slice_index (counts p.game s) i → d.first + b * d.stride ≡ deviation_at p.game s a i b
  pub payoff : d.payoff ≡ payoff_at p.game s a i
  pub weight : d.weight ≡ pos (p.game.q - discount_at p i)
  pub unit : d.unit ≡ pos (gain_unit p i)

-- The deviation to b keeps player i's part at least the negative of this: a level of the state that it reaches, less its gain.
abbrev pub IsAsked : Problem → Levels → ℕ → ℕ → ℕ → ℕ → ℤ → Type 0
IsAsked p t s a i b lower = (x : ℤ) × (t (reached p.game s a i b) (minus_axis i) ≡ At x) × (lower ≡ x -ℤ gain p s a i b)

-- the state that the deviation reaches has numbers alone
abbrev pub ReachesKnown : Problem → Levels → ℕ → ℕ → ℕ → ℕ → Type 0
ReachesKnown p t s a i b = IsKnown p t (reached p.game s a i b)

-- so do those that deviations of player i to strategies below n reach
abbrev pub ReachKnown : Problem → Levels → ℕ → ℕ → ℕ → ℕ → Type 0
ReachKnown p t s a i n = (b : ℕ) → b < n → IsDeviation p.game s a i b → ReachesKnown p t s a i b

-- and those that all deviations of player i reach
abbrev pub EachReachKnown : Problem → Levels → ℕ → ℕ → ℕ → Type 0
EachReachKnown p t s a i = ReachKnown p t s a i (slice_index (counts p.game s) i)

-- and those that all deviations of the players below m reach
abbrev pub AllReachKnown : Problem → Levels → ℕ → ℕ → ℕ → Type 0
AllReachKnown p t s a m = (j : ℕ) → j < m → EachReachKnown p t s a j

-- what gives the lower side: the next state's level, or the first of the strategies that ask the most
abbrev pub IsGiven : Problem → Levels → ℕ → ℕ → ℕ → ℤ → Option ℕ → Type 0
IsGiven p t s a i lower None = t (successor p.game s a) (minus_axis i) ≡ At lower
IsGiven p t s a i lower (Some b) =
    IsDeviation p.game s a i b × IsAsked p t s a i b lower
    × ((w : ℤ) → t (successor p.game s a) (minus_axis i) ≡ At w → lower <ℤ w)
    × ((c : ℕ) (y : ℤ) → c < b → IsDeviation p.game s a i c → t (reached p.game s a i c) (minus_axis i) ≡ At y → lower <ℤ (y -ℤ gain p s a i c))

-- player i's side by the next state's levels and the deviations to strategies below n
pub record IsSideBelow (p : Problem) (t : Levels) (s a i n : ℕ) (side : Side) : Type 0 where
  pub upper : t (successor p.game s a) (plus_axis i) ≡ At side.upper
  pub level : (w : ℤ) → t (successor p.game s a) (minus_axis i) ≡ At w → side.lower ≤ℤ w
  pub most : (b : ℕ) (x : ℤ) → b < n → IsDeviation p.game s a i b → t (reached p.game s a i b) (minus_axis i) ≡ At x → side.lower ≤ℤ (x -ℤ gain p s a i b)
  pub given : IsGiven p t s a i side.lower side.by
  pub upper_small : unsigned_abs side.upper ≤ 2 ^ 50
  pub lower_small : unsigned_abs side.lower ≤ 2 ^ 62
