-- The shape of entries that were read.
use Rattle.std.specs.Prelude.{◌≡◌, ℕ, ◌^◌, ◌<◌, ◌≤◌, List, [], length, slice_index_or}
use Rattle.selfgen_check.specs.declared.written.Written.{Written}

abbrev pub nothing_written : Written
nothing_written = record { point = []; profile = []; lottery = []; punish = [] }

-- one part and one strategy for each player, and at most four outcomes, with weights of at most 2^83
pub record IsWritten (players : ℕ) (w : Written) : Type 0 where
  pub parts : length w.point ≡ players
  pub strategies : length w.profile ≡ players
  pub few_outcomes : length w.lottery ≤ 4
  pub weights_small : (k : ℕ) → k < length w.lottery → (slice_index_or w.lottery k (0, 0)).1 ≤ 2 ^ 83

-- at most 65535 of them
pub record AreWritten (players : ℕ) (ws : List Written) : Type 0 where
  pub few : length ws ≤ 65535
  pub each_one : (k : ℕ) → k < length ws → IsWritten players (slice_index_or ws k nothing_written)

-- the same in each of so many states
pub record AllWritten (players count : ℕ) (states : List (List Written)) : Type 0 where
  pub one_each : length states ≡ count
  pub each_state : (s : ℕ) → s < length states → AreWritten players (slice_index_or states s [])
