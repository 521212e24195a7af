-- Summaries: what other states ask of a state's points.
use Rattle.std.specs.Prelude.{◌≡◌, ◌↔◌, ℕ, ◌<◌, ◌≤◌, ◌^◌, ℤ, pos, ◌*ℤ◌, ◌≤ℤ◌, List, [], length, map, slice_index, slice_index_or, unsigned_abs, All}
use Rattle.game_model.specs.Game.{DynamicGame, states, successor, IsDeviation, deviation_at, reached}
use Rattle.game_model.specs.SelfGeneration.{part}
use Rattle.hull_weights.specs.Hull.{IsInHull, IsSmallPoint, point_at}
use Rattle.inner_sets.specs.Choice.{sublist, discounted, remainder, Deters, IsFirstLeast}

pub record PointSummary : Type 0 where
  -- the points, discounted
  pub points : List (List ℤ)
  -- for each player the first place of the least part, and that part
  pub first : List ℕ
  pub least : List ℤ

abbrev pub no_summary : PointSummary
no_summary = record { points = []; first = []; least = [] }

abbrev pub summary_at : List PointSummary → ℕ → PointSummary
summary_at summaries s = slice_index_or summaries s no_summary

pub record IsSmallSummary (y : PointSummary) : Type 0 where
  pub few : length y.points ≤ 65535
  pub points_small : All IsSmallPoint y.points
  pub first_each : length y.first ≡ 2
  pub least_each : length y.least ≡ 2
  pub least_small : (i : ℕ) → i < 2 → unsigned_abs (part y.least i) ≤ 2 ^ 30

-- a small summary, with points that have the hull of its own
pub record IsKept (y : PointSummary) (corners : List (List ℤ)) : Type 0 where
  pub summary : IsSmallSummary y
  pub same_hull : (target : List ℤ) → IsInHull corners target ↔ IsInHull y.points target
  pub few_corners : length corners < 2 ^ 32
  pub corners_small : All IsSmallPoint corners

pub record IsSummary (g : DynamicGame) (points : List (List ℤ)) (y : PointSummary) : Type 0 where
  pub same : y.points ≡ map (discounted g) points
  pub first : (i : ℕ) → i < 2 → 0 < length points → IsFirstLeast i points (slice_index y.first i)
  pub least : (i : ℕ) → i < 2 → 0 < length points → part y.least i ≡ part (point_at points (slice_index y.first i)) i

pub record AreSummaries (g : DynamicGame) (choice : List (List (List ℤ))) (summaries : List PointSummary) : Type 0 where
  pub one_each : length summaries ≡ states g
  pub each : (s : ℕ) → s < states g → IsSummary g (sublist choice s) (summary_at summaries s)

-- the remainder is in the hull of the points
abbrev pub Continues : DynamicGame → ℕ → List PointSummary → ℕ → ℕ → List ℤ → Type 0
Continues g n summaries s a v = IsInHull (summary_at summaries (successor g s a)).points (remainder g n s a v)

-- there is a least part, and it deters
abbrev pub IsDeterredBy : DynamicGame → ℕ → PointSummary → ℕ → ℕ → ℕ → List ℤ → Type 0
IsDeterredBy g n y s b i v = (0 < length y.points) × Deters g n s b i v (part y.least i)

abbrev pub DetersAt : DynamicGame → ℕ → List PointSummary → ℕ → ℕ → List ℤ → ℕ → ℕ → Type 0
DetersAt g n summaries s a v i b = IsDeterredBy g n (summary_at summaries (reached g s a i b)) s (deviation_at g s a i b) i v

-- what one deviation asks of a part, times q
pub record IsAskOf (g : DynamicGame) (n : ℕ) (summaries : List PointSummary) (s a i b : ℕ) (ask : ℤ) : Type 0 where
  pub small : unsigned_abs ask ≤ 2 ^ 62
  pub enough : (v : List ℤ) → unsigned_abs (part v i) ≤ 2 ^ 30 → (ask ≤ℤ (pos g.q *ℤ part v i)) ↔ DetersAt g n summaries s a v i b

-- the same of all deviations of a player
pub record IsAsk (g : DynamicGame) (n : ℕ) (summaries : List PointSummary) (s a i : ℕ) (ask : ℤ) : Type 0 where
  pub small : unsigned_abs ask ≤ 2 ^ 62
  pub enough : (v : List ℤ) → unsigned_abs (part v i) ≤ 2 ^ 30 → (ask ≤ℤ (pos g.q *ℤ part v i)) ↔ ((b : ℕ) → IsDeviation g s a i b → DetersAt g n summaries s a v i b)

-- the profile gives the point, as far as the summaries tell
pub record Passes (g : DynamicGame) (n : ℕ) (summaries : List PointSummary) (s a : ℕ) (v : List ℤ) : Type 0 where
  pub continuation : Continues g n summaries s a v
  pub deterred : (i b : ℕ) → IsDeviation g s a i b → DetersAt g n summaries s a v i b
