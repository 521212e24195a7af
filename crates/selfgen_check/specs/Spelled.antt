-- Correspondences as a text has them, their points in lowest terms, and which of them a text can have.
use Rattle.std.specs.Prelude.{◌≡◌, ◌≤◌, ◌^◌, ℕ, List, length, map, All}
use Rattle.pay_frac.specs.Number.{lowest}
use Rattle.nfg_text.specs.Writable.{IsShort}
use Rattle.game_model.specs.Game.{DynamicGame, states}
use Rattle.game_model.specs.SelfGeneration.{Entry}
use Rattle.selfgen_check.specs.declared.written.Written.{Written}
use Rattle.selfgen_check.specs.Promises.{Promises}

abbrev pub fractions : ℕ → Entry → Written
fractions common e = record { point = map (λ z. lowest z common) e.point; profile = e.profile; lottery = e.lottery; punish = e.punish }

abbrev pub fractions_of : Promises → List (List Written)
fractions_of c = map (map (fractions c.common)) c.entries

abbrev pub IsSmall : ℕ → Type 0
IsSmall n = n ≤ 4294967295

abbrev pub IsPair : ℕ × ℕ → Type 0
IsPair o = (o.0 ≤ 4294967295) × (o.1 ≤ 2 ^ 83)

-- for so many players, an entry that a text can have
pub record IsSpelled (players : ℕ) (w : Written) : Type 0 where
  pub one_each : length w.point ≡ players
  pub short : All IsShort w.point
  pub one_strategy_each : length w.profile ≡ players
  pub strategies : All IsSmall w.profile
  pub few : length w.lottery ≤ 4
  pub outcomes : All IsPair w.lottery
  pub punishments : All IsSmall w.punish

pub record AreSpelled (players : ℕ) (ws : List Written) : Type 0 where
  pub few : length ws ≤ 65535
  pub each : All (IsSpelled players) ws

-- a correspondence whose canonical text is one of this game
pub record IsWritable (g : DynamicGame) (c : Promises) : Type 0 where
  pub one_list_each : length (fractions_of c) ≡ states g
  pub each : All (AreSpelled g.players) (fractions_of c)
