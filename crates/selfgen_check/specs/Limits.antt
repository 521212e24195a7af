-- The limits within which a correspondence is checked. They keep all sums within 128 bits.
use Rattle.std.specs.Prelude.{◌≡◌, ℕ, ◌*◌, ◌^◌, ◌<◌, ◌≤◌, [], length, slice_index_or, pos, ◌*ℤ◌, unsigned_abs}
use Rattle.game_model.specs.Game.{DynamicGame, states, counts, profile_count, payoff_at}
use Rattle.game_model.specs.SelfGeneration.{Entry, no_entry, part}
use Rattle.selfgen_check.specs.Promises.{Promises, scale_of}

-- One part and one strategy for each player, parts of at most 2^30, and at most four outcomes with weights of at most 2^83.
pub record IsSmallEntry (g : DynamicGame) (e : Entry) : Type 0 where
  pub parts : length e.point ≡ g.players
  pub strategies : length e.profile ≡ g.players
  pub parts_small : (i : ℕ) → i < g.players → unsigned_abs (part e.point i) ≤ 2 ^ 30
  pub few_outcomes : length e.lottery ≤ 4
  pub weights_small : (k : ℕ) → k < length e.lottery → (slice_index_or e.lottery k (0, 0)).1 ≤ 2 ^ 83

-- One list of at most 65535 small entries for each state. The common denominator is a positive multiple of the game's, at most
-- 2^44, and so large that no payoff has more than 2^30 of its units.
pub record KeepsLimits (g : DynamicGame) (c : Promises) : Type 0 where
  pub positive : 0 < c.common
  pub common_small : c.common ≤ 2 ^ 44
  pub multiple : c.common ≡ scale_of g c * unsigned_abs g.denominator
  pub payoffs_small : (s a i : ℕ) → s < states g → a < profile_count (counts g s) → i < g.players → unsigned_abs (pos (scale_of g c) *ℤ payoff_at g s a i) ≤ 2 ^ 30
  pub one_list_each : length c.entries ≡ states g
  pub few_entries : (s : ℕ) → s < states g → length (slice_index_or c.entries s []) ≤ 65535
  pub small_entries : (s k : ℕ) → s < states g → k < length (slice_index_or c.entries s []) → IsSmallEntry g (slice_index_or (slice_index_or c.entries s []) k no_entry)
