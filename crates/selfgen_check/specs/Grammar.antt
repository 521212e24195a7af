-- The text of a correspondence, part by part, at a game with so many players and states.
use Rattle.std.specs.Prelude.{ℕ, suc, ◌^◌, List, [], length, codes, Option, Some, None, Result, Ok, Err, pos}
use Rattle.pay_frac.specs.Ratio.{Ratio}
use Rattle.token_text.specs.Tokens.{Token, open_brace, close_brace, word, Stream, next, rest, stream_of}
use Rattle.nfg_text.specs.declared.what.What.TheVariants.{Whole, Weight, Outcomes, Entries}
use Rattle.nfg_text.specs.declared.fault.NfgFault.{NfgFault}
use Rattle.nfg_text.specs.declared.fault.NfgFault.TheVariants.{Limit}
use Rattle.nfg_text.specs.Wanted.{◌>>=◌, bad, open_at, close_at, end_at, exact_at, number_at, whole_in, limited, many_at, times_at, bad_past}
use Rattle.game_model.specs.Game.{DynamicGame, states}
use Rattle.selfgen_check.specs.declared.written.Written.{Written}

-- a whole token of at most 4294967295
abbrev pub whole_as : Token → Option (ℕ × ℕ) → Result ℕ NfgFault
whole_as t None = bad t
whole_as t (Some n) = limited Whole 4294967295 t.at n

unfoldable pub whole_at : Stream → Result (ℕ × Stream) NfgFault
whole_at s = whole_as (next s) (whole_in (next s).kind) >>= λ n. Ok (n, rest s)

-- a weight of at most 2^83
abbrev pub weight_as : Token → Option (ℕ × ℕ) → Result ℕ NfgFault
weight_as t None = bad t
weight_as t (Some n) = limited Weight (2 ^ 83) t.at n

unfoldable pub weight_at : Stream → Result (ℕ × Stream) NfgFault
weight_at s = weight_as (next s) (whole_in (next s).kind) >>= λ n. Ok (n, rest s)

-- `{ number* }`, a number for each player
unfoldable pub point_at : ℕ → Stream → Result (List Ratio × Stream) NfgFault
point_at players s = do
  a ← open_at s
  parts ← times_at number_at players a
  b ← close_at parts.1
  Ok (parts.0, b)

-- `{ whole* }`, a strategy for each player
unfoldable pub profile_at : ℕ → Stream → Result (List ℕ × Stream) NfgFault
profile_at players s = do
  a ← open_at s
  strategies ← times_at whole_at players a
  b ← close_at strategies.1
  Ok (strategies.0, b)

-- the number of an entry and a weight, or the close brace
unfoldable pub pair_or_close_at : Stream → Result (Option (ℕ × ℕ) × Stream) NfgFault
pair_or_close_at s = elim (next s).kind as (λ _. Result (Option (ℕ × ℕ) × Stream) NfgFault) [
  | close_brace ↦ Ok (None, rest s)
  | word w ↦ whole_as (next s) (whole_in (word w)) >>= λ n. weight_at (rest s) >>= λ m. Ok (Some (n, m.0), m.1)
  | _ ↦ bad (next s)
]

-- behind four pairs: a whole token, however large, is a fifth
abbrev pub fifth_as : {A : Type 0} → Token → Option (ℕ × ℕ) → Result A NfgFault
fifth_as t None = bad t
fifth_as t (Some n) = Err (Limit Outcomes (pos 5) t.at)

unfoldable pub pairs_end_at : Stream → Result Stream NfgFault
pairs_end_at s = elim (next s).kind as (λ _. Result Stream NfgFault) [
  | close_brace ↦ Ok (rest s)
  | word w ↦ fifth_as (next s) (whole_in (word w))
  | _ ↦ bad (next s)
]

abbrev pub pairs_past : Stream → Result (List (ℕ × ℕ) × Stream) NfgFault
pairs_past s = pairs_end_at s >>= λ a. Ok ([], a)

-- `{ pair* }`, at most four pairs
unfoldable pub lottery_at : Stream → Result (List (ℕ × ℕ) × Stream) NfgFault
lottery_at s = open_at s >>= λ a. many_at pair_or_close_at pairs_past 4 a

-- the number of an entry, or the close brace
unfoldable pub whole_or_close_at : Stream → Result (Option ℕ × Stream) NfgFault
whole_or_close_at s = elim (next s).kind as (λ _. Result (Option ℕ × Stream) NfgFault) [
  | close_brace ↦ Ok (None, rest s)
  | word w ↦ whole_as (next s) (whole_in (word w)) >>= λ n. Ok (Some n, rest s)
  | _ ↦ bad (next s)
]

-- whole tokens up to the close brace, of which there are no more than tokens are left
unfoldable pub wholes_at : Stream → Result (List ℕ × Stream) NfgFault
wholes_at s = many_at whole_or_close_at bad_past (suc (length s.tokens)) s

-- `{ point profile lottery { whole* } }`
unfoldable pub entry_at : ℕ → Stream → Result (Written × Stream) NfgFault
entry_at players s = do
  a ← open_at s
  point ← point_at players a
  profile ← profile_at players point.1
  lottery ← lottery_at profile.1
  b ← open_at lottery.1
  punish ← wholes_at b
  c ← close_at punish.1
  Ok (record { point = point.0; profile = profile.0; lottery = lottery.0; punish = punish.0 }, c)

-- an entry, or the close brace
unfoldable pub entry_or_close_at : ℕ → Stream → Result (Option Written × Stream) NfgFault
entry_or_close_at players s = elim (next s).kind as (λ _. Result (Option Written × Stream) NfgFault) [
  | close_brace ↦ Ok (None, rest s)
  | open_brace ↦ entry_at players s >>= λ x. Ok (Some x.0, x.1)
  | _ ↦ bad (next s)
]

-- behind 65535 entries
unfoldable pub entries_end_at : Stream → Result Stream NfgFault
entries_end_at s = elim (next s).kind as (λ _. Result Stream NfgFault) [
  | close_brace ↦ Ok (rest s)
  | open_brace ↦ Err (Limit Entries (pos 65536) (next s).at)
  | _ ↦ bad (next s)
]

abbrev pub entries_past : Stream → Result (List Written × Stream) NfgFault
entries_past s = entries_end_at s >>= λ a. Ok ([], a)

-- `{ entry* }`, at most 65535 entries
unfoldable pub state_at : ℕ → Stream → Result (List Written × Stream) NfgFault
state_at players s = open_at s >>= λ a. many_at (entry_or_close_at players) entries_past 65535 a

-- `SGC 1 { state* }`, as many states as the game has
unfoldable pub file_at : ℕ → ℕ → Stream → Result (List (List Written)) NfgFault
file_at players count s = do
  a ← exact_at (codes "SGC") s
  b ← exact_at (codes "1") a
  c ← open_at b
  states ← times_at (state_at players) count c
  d ← close_at states.1
  e ← end_at d
  Ok states.0

-- The entries that a text has for each state, or its first fault: the place of the first token that no such text has
-- after the tokens before it, or the length of the text, or the token that fits the form and passes a limit.
unfoldable pub written_of : DynamicGame → List ℕ → Result (List (List Written)) NfgFault
written_of g bytes = file_at g.players (states g) (stream_of bytes)
