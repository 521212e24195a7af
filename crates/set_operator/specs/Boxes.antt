-- What the levels leave of each player's part of what follows a profile: the half-planes of the axes and the gains of deviations, folded into a box.
use Rattle.std.specs.Prelude.{◌≡◌, ◌↔◌, Bool, false, IsTrue, ℕ, ◌-◌, ◌*◌, ◌^◌, ◌<◌, ◌≤◌, List, slice_index_or, ℤ, pos, ◌-ℤ◌, ◌*ℤ◌, ◌≤ℤ◌, ◌<ℤ◌, Option, Some, None}
use Rattle.std.specs.Int.RustNames.{unsigned_abs}
use Rattle.game_model.specs.Game.{states, counts, profile_count, payoff_at, successor, reached, IsDeviation}
use Rattle.level_table.specs.declared.level.Level.TheVariants.{At}
use Rattle.level_table.specs.Problem.{Problem, discount_at, fineness, plus_axis, minus_axis, gain}
use Rattle.level_table.specs.Levels.{Levels}
use Rattle.level_table.specs.Operator.{Fractions}
use Rattle.level_table.specs.Reasons.{AreKnown, IsGainRow, IsKnown}
use Rattle.lp_core.specs.declared.Point.{Point}
use Rattle.set_operator.specs.declared.boxes.Side.{Side}
use Rattle.set_operator.specs.declared.boxes.ProfileBox.{ProfileBox}

-- a point as a vector of fractions
abbrev pub point_of : Point → Fractions
point_of v = record { numerators = v.num; denominator = v.den }

-- flags of the states: whether each level is a number
abbrev pub AreFlags : Problem → Levels → List Bool → Type 0
AreFlags p t known = (s : ℕ) → s < states p.game → (IsTrue (slice_index_or known s false) ↔ IsKnown p t s)

-- what a payoff of player i counts in a value over q: (q - p_i) * base * 2^grid
abbrev pub stage_scale : Problem → ℕ → ℕ
stage_scale p i = (p.game.q - discount_at p i) * p.game.base * fineness p

-- What gives the lower side: the level of the next state, where no deviation asks for more of player i's part, or else the first strategy of those that ask the most.
abbrev pub IsSource : Problem → Levels → ℕ → ℕ → ℕ → ℤ → Option ℕ → Type 0
IsSource p t s a i lower None =
    (t (successor p.game s a) (minus_axis i) ≡ At lower)
    × ((b : ℕ) (x : ℤ) → IsDeviation p.game s a i b → t (reached p.game s a i b) (minus_axis i) ≡ At x → lower ≤ℤ (x -ℤ gain p s a i b))
IsSource p t s a i lower (Some b) =
    (x : ℤ) × IsGainRow p t s a i b x × (lower ≡ x -ℤ gain p s a i b) × ((w : ℤ) → t (successor p.game s a) (minus_axis i) ≡ At w → lower <ℤ w)

-- player i's part is at most `upper` and at least the negative of `lower`
pub record IsSide (p : Problem) (t : Levels) (s a i : ℕ) (side : Side) : Type 0 where
  pub upper : t (successor p.game s a) (plus_axis i) ≡ At side.upper
  pub source : IsSource p t s a i side.lower side.by
  pub upper_small : unsigned_abs side.upper ≤ 2 ^ 50
  pub lower_small : unsigned_abs side.lower ≤ 2 ^ 62

abbrev pub no_side : Side
no_side = record { upper = pos 0; lower = pos 0; by = None }

abbrev pub side_at : ProfileBox → ℕ → Side
side_at b i = slice_index_or b.sides i no_side

abbrev pub stage_at : ProfileBox → ℕ → ℤ
stage_at b i = slice_index_or b.stage i (pos 0)

-- the box of a profile whose levels are all known
pub record IsBoxOf (p : Problem) (t : Levels) (b : ProfileBox) : Type 0 where
  pub state : b.state < states p.game
  pub profile : b.profile < profile_count (counts p.game b.state)
  pub known : AreKnown p t b.state b.profile
  pub next : b.next ≡ successor p.game b.state b.profile
  pub sides : (i : ℕ) → i < p.game.players → IsSide p t b.state b.profile i (side_at b i)
  pub stage : (i : ℕ) → i < p.game.players → stage_at b i ≡ pos (stage_scale p i) *ℤ payoff_at p.game b.state b.profile i
  pub stage_small : (i : ℕ) → unsigned_abs (stage_at b i) ≤ 2 ^ 60
