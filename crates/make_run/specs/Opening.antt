-- Games whose opening levels are small, and the budget that is enough for any run of one.
use Rattle.std.specs.Prelude.{◌≡◌, ℕ, ◌*◌, ◌<◌, ◌≤◌, ℤ, pos, ◌+ℤ◌, ◌*ℤ◌, unsigned_abs}
use Rattle.game_model.specs.Game.{DynamicGame, IsGame, counts, payoff_at, profile_count, states}
use Rattle.level_table.specs.Problem.{Problem, direction_count, opening_level}
use Rattle.level_table.specs.Levels.{opening_table}
use Rattle.bound_laws.specs.Falls.{most_drop}

-- two players whose discounts have base 1, and payoffs within 15 of zero
pub record IsSmallGame (g : DynamicGame) : Type 0 where
  pub game : IsGame g
  pub players : g.players ≡ 2
  pub base : g.base ≡ 1
  pub payoffs : (s a i : ℕ) → s < states g → a < profile_count (counts g s) → i < g.players → unsigned_abs (payoff_at g s a i) ≤ 15

-- each opening level is within 1440 of zero
abbrev pub HasTinyOpening : Problem → Type 0
HasTinyOpening p = (k : ℕ) → k < direction_count p → unsigned_abs (opening_level p k) ≤ 1440

-- For each row a solve in each of so many sweeps: the heights of all rows, the number of states, and one.
abbrev pub budget_of : Problem → ℤ
budget_of p = pos (states p.game * direction_count p) *ℤ (most_drop p (opening_table p) +ℤ pos 1)
