-- What a game that was read keeps.
use Rattle.std.specs.Prelude.{◌≡◌, ℕ, ◌*◌, ◌^◌, ◌<◌, ◌≤◌, length, slice_index}
use Rattle.std.specs.List.{All}
use Rattle.std.specs.Int.RustNames.{unsigned_abs}
use Rattle.pay_frac.specs.Ratio.{Ratio, IsLowest}
use Rattle.nfg_text.specs.declared.nfg.Nfg.{Nfg}
use Rattle.nfg_text.specs.Grammar.{counts_of, profiles_of}

-- A fraction in lowest terms. A decimal has up to 36 digits behind its point, so both parts are at most 10^36.
pub record IsShortNumber (r : Ratio) : Type 0 where
  pub lowest : IsLowest r
  pub num_short : unsigned_abs r.num ≤ 10 ^ 36
  pub den_short : unsigned_abs r.den ≤ 10 ^ 36

-- two players' names, 1 to 16 strategies of each, and a payoff for each profile and player
pub record IsReadGame (n : Nfg) : Type 0 where
  pub two_players : length n.players ≡ 2
  pub two_counts : length (counts_of n.strategies) ≡ 2
  pub some_strategy : (i : ℕ) → i < 2 → 1 ≤ slice_index (counts_of n.strategies) i
  pub few_strategies : (i : ℕ) → i < 2 → slice_index (counts_of n.strategies) i ≤ 16
  pub payoffs_fit : length n.payoffs ≡ 2 * profiles_of n.strategies
  pub numbers : All IsShortNumber n.payoffs
