-- The inner set: the largest choice, with an entry for each point.
use Rattle.std.specs.Prelude.{◌≡◌, ℕ, ◌*◌, ◌<◌, ◌≤◌, ℤ, List, [], length, map, slice_index_or, unsigned_abs, All, AllPairs}
use Rattle.std.specs.Int.{◌∣◌}
use Rattle.game_model.specs.Game.{DynamicGame, states, counts, IsProfile, IsDeviation, reached}
use Rattle.game_model.specs.SelfGeneration.{Entry, deviation_count, punishment, profile_of}
use Rattle.selfgen_check.specs.Promises.{Promises}
use Rattle.inner_sets.specs.Choice.{sublist, IsLargestChoice, IsFirstProfile, IsFirstLeast}

-- at most three outcomes, in order, with positive weights that have no common divisor
pub record IsShortLottery (lottery : List (ℕ × ℕ)) : Type 0 where
  pub at_most_three : length lottery ≤ 3
  pub ascending : AllPairs (λ earlier later. earlier.0 < later.0) lottery
  pub weights_positive : All (λ outcome. 0 < outcome.1) lottery
  pub no_common_divisor : (divisor : ℕ) → All (λ outcome. divisor ∣ outcome.1) lottery → divisor ≡ 1

-- The entry of a point: the first profile that gives it, and for each deviation the first point that is least for the deviator.
pub record IsEntry (g : DynamicGame) (n : ℕ) (choice : List (List (List ℤ))) (s : ℕ) (e : Entry) : Type 0 where
  pub profile : IsProfile (counts g s) e.profile
  pub first : IsFirstProfile g n choice s e.point (profile_of g s e)
  pub punished : length e.punish ≡ deviation_count (counts g s)
  pub punishments : (i b : ℕ) → IsDeviation g s (profile_of g s e) i b → IsFirstLeast i (sublist choice (reached g s (profile_of g s e) i b)) (punishment g s e i b)
  pub lottery : IsShortLottery e.lottery

-- the points of all entries
abbrev pub points_of : List (List Entry) → List (List (List ℤ))
points_of entries = map (map (λ (e : Entry). e.point)) entries

-- The inner set of a game at n. That it is self-generating is told by the check that it has passed.
pub record IsInnerSet (g : DynamicGame) (n : ℕ) (c : Promises) : Type 0 where
  pub common : c.common ≡ unsigned_abs g.denominator * n
  pub largest : IsLargestChoice g n (points_of c.entries)
  pub entries : (s : ℕ) → s < states g → All (IsEntry g n (points_of c.entries) s) (slice_index_or c.entries s [])
