-- Entries, as they are built from the points of settled rows and the summaries of these.
use Rattle.std.specs.Prelude.{◌≡◌, ℕ, ◌+◌, ◌-◌, ◌<◌, ◌≤◌, ℤ, List, [], length, map, nat_lt, if◌then◌else◌, slice_index, slice_index_or, unsigned_abs}
use Rattle.game_model.specs.Game.{DynamicGame, states, counts, strategies_of, strategy_at, successor, IsDeviation, reached}
use Rattle.game_model.specs.SelfGeneration.{Entry, no_entry, deviation_count, deviation_place, IsSelfGenerating}
use Rattle.hull_weights.specs.Hull.{IsTriangle}
use Rattle.selfgen_check.specs.Limits.{KeepsLimits}
use Rattle.selfgen_check.specs.Promises.{Promises, correspondence_of}
use Rattle.inner_sets.specs.declared.item.Item.{Item}
use Rattle.inner_sets.specs.Choice.{remainder}
use Rattle.inner_sets.specs.Inner.{IsInnerSet}
use Rattle.inner_sets.specs.Rows.{item_at, row_at}
use Rattle.inner_sets.specs.Summaries.{PointSummary, summary_at}

-- an index with its weight as an outcome of a lottery
abbrev pub outcome : ℕ × ℤ → ℕ × ℕ
outcome item = (item.0, unsigned_abs item.1)

abbrev pub outcomes_of : List (ℕ × ℤ) → List (ℕ × ℕ)
outcomes_of items = map outcome items

-- the lottery is an average of the points in its shortest form
pub record IsLotteryOf (points : List (List ℤ)) (target : List ℤ) (lottery : List (ℕ × ℕ)) : Type 0 where
  pub items : List (ℕ × ℤ)
  pub triangle : IsTriangle points target items
  pub same : lottery ≡ outcomes_of items

-- the first least place of the state that a deviation reaches
abbrev pub punishing : DynamicGame → List PointSummary → ℕ → ℕ → ℕ → ℕ → ℕ
punishing g summaries s a i b = slice_index (summary_at summaries (reached g s a i b)).first i

-- how many strategies other than the own come before b
abbrev pub others_before : ℕ → ℕ → ℕ
others_before own b = if nat_lt own b then b - 1 else b

-- The punishments of player i's deviations to strategies before m are added at the end.
pub record AddsPunishments (g : DynamicGame) (summaries : List PointSummary) (s a i m : ℕ) (old new : List ℕ) : Type 0 where
  pub count : length new ≡ length old + others_before (strategy_at g s a i) m
  pub kept : (k : ℕ) → k < length old → slice_index new k ≡ slice_index old k
  pub added : (b : ℕ) → b < m → IsDeviation g s a i b → slice_index new (length old + others_before (strategy_at g s a i) b) ≡ punishing g summaries s a i b

pub record ArePunishments (g : DynamicGame) (summaries : List PointSummary) (s a : ℕ) (punish : List ℕ) : Type 0 where
  pub count : length punish ≡ deviation_count (counts g s)
  pub each : (i b : ℕ) → IsDeviation g s a i b → slice_index punish (deviation_place (counts g s) (strategies_of (counts g s) a) i b) ≡ punishing g summaries s a i b

pub record IsBuilt (g : DynamicGame) (n : ℕ) (summaries : List PointSummary) (s a : ℕ) (v : List ℤ) (e : Entry) : Type 0 where
  pub point : e.point ≡ v
  pub profile : e.profile ≡ strategies_of (counts g s) a
  pub lottery : IsLotteryOf (summary_at summaries (successor g s a)).points (remainder g n s a v) e.lottery
  pub punish : ArePunishments g summaries s a e.punish

pub record AreBuilt (g : DynamicGame) (n : ℕ) (summaries : List PointSummary) (s : ℕ) (items : List Item) (entries : List Entry) : Type 0 where
  pub few : length items ≤ 65535
  pub same_length : length entries ≡ length items
  pub each : (k : ℕ) → k < length items → IsBuilt g n summaries s (item_at items k).profile (item_at items k).point (slice_index_or entries k no_entry)

pub record AllBuilt (g : DynamicGame) (n : ℕ) (summaries : List PointSummary) (rows : List (List Item)) (entries : List (List Entry)) : Type 0 where
  pub one_each : length entries ≡ states g
  pub each : (s : ℕ) → s < states g → AreBuilt g n summaries s (row_at rows s) (slice_index_or entries s [])

-- an inner set that passes the check
pub record IsReady (g : DynamicGame) (n : ℕ) (c : Promises) : Type 0 where
  pub inner : IsInnerSet g n c
  pub limits : KeepsLimits g c
  pub self_generating : IsSelfGenerating g (correspondence_of g c)
