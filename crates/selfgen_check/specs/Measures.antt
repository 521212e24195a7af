-- The numbers of a correspondence, once its text was read: the common denominator, and all parts and payoffs in its units.
use Rattle.std.specs.Prelude.{ℕ, ◌-◌, ◌*◌, ◌/◌, ◌^◌, nat_lt, if◌then◌else◌, List, ℤ, pos, ◌*ℤ◌, min, Result, Ok, Err, unsigned_abs}
use Rattle.pay_frac.specs.Ratio.{Ratio}
use Rattle.pay_frac.specs.Number.{euclid}
use Rattle.nfg_text.specs.declared.what.What.{What}
use Rattle.nfg_text.specs.declared.what.What.TheVariants.{Common, Point}
use Rattle.game_model.specs.Game.{DynamicGame}
use Rattle.game_model.specs.SelfGeneration.{Entry}
use Rattle.selfgen_check.specs.declared.written.Written.{Written}
use Rattle.selfgen_check.specs.declared.text_fault.CorrTextFault.{CorrTextFault}
use Rattle.selfgen_check.specs.declared.text_fault.CorrTextFault.TheVariants.{Wide}
use Rattle.selfgen_check.specs.Grammar.{written_of}
use Rattle.selfgen_check.specs.Promises.{Promises}
use Rattle.selfgen_check.specs.TextFaults.{◌>>=◌, lifted, folded, each}

-- the least common multiple
unfoldable pub common_multiple : ℕ → ℕ → ℕ
common_multiple a b = a / euclid b a b * b

-- A number that is too large is told, as 2^127 - 1 where it is larger than that.
abbrev pub within : What → ℕ → ℕ → Result ℕ CorrTextFault
within what most n = if nat_lt most n then Err (Wide what (pos (min n (2 ^ 127 - 1)))) else Ok n

-- the common denominator with one part more, at most 2^44
unfoldable pub with_part : ℕ → Ratio → Result ℕ CorrTextFault
with_part m r = within Common (2 ^ 44) (common_multiple m (unsigned_abs r.den))

-- with all parts of an entry, and with all entries of a state
abbrev pub with_entry : ℕ → Written → Result ℕ CorrTextFault
with_entry m w = folded with_part m w.point

abbrev pub with_state : ℕ → List Written → Result ℕ CorrTextFault
with_state m ws = folded with_entry m ws

-- a part in units of 1/m, within 2^30 of zero
unfoldable pub scaled : ℕ → Ratio → Result ℤ CorrTextFault
scaled m r = within Point (2 ^ 30) (unsigned_abs r.num * (m / unsigned_abs r.den)) >>= λ n. Ok (r.num *ℤ pos (m / unsigned_abs r.den))

abbrev pub scaled_entry : ℕ → Written → Result Entry CorrTextFault
scaled_entry m w = each (scaled m) w.point >>= λ point. Ok (record { point = point; profile = w.profile; lottery = w.lottery; punish = w.punish })

abbrev pub scaled_state : ℕ → List Written → Result (List Entry) CorrTextFault
scaled_state m ws = each (scaled_entry m) ws

-- a payoff of which a unit is k units of 1/m, within 2^30 of zero as well
abbrev pub with_payoff : ℕ → ℤ → Result ℕ CorrTextFault
with_payoff k u = within Point (2 ^ 30) (unsigned_abs u * k) >>= λ n. Ok k

abbrev pub with_payoffs : ℕ → List ℤ → Result ℕ CorrTextFault
with_payoffs k us = folded with_payoff k us

-- The least common multiple of the game's denominator and those of all parts, then all parts in its units, then all
-- payoffs: in the order of the text, and of state, profile and player.
unfoldable pub measured : DynamicGame → List (List Written) → Result Promises CorrTextFault
measured g states =
    folded with_state (unsigned_abs g.denominator) states >>= λ m.
    each (scaled_state m) states >>= λ entries.
    folded with_payoffs (m / unsigned_abs g.denominator) g.payoffs >>= λ k.
    Ok (record { common = m; entries = entries })

-- The correspondence that a text has at a game, or its first fault. What is too wide is told behind all other faults.
unfoldable pub corr_of : DynamicGame → List ℕ → Result Promises CorrTextFault
corr_of g bytes = lifted (written_of g bytes) >>= measured g
