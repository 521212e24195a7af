-- A transition file, part by part.
use Rattle.std.specs.Prelude.{ℕ, suc, if◌then◌else◌, List, [], ◌∷◌, length, codes, Option, Some, None, Result, Ok, Err, pos}
use Rattle.std.specs.Str.{is_utf8}
use Rattle.token_text.specs.Tokens.{Token, open_brace, close_brace, word, Stream, next, rest, stream_of}
use Rattle.nfg_text.specs.declared.what.What.TheVariants.{Whole, States}
use Rattle.nfg_text.specs.declared.fault.NfgFault.{NfgFault}
use Rattle.nfg_text.specs.declared.fault.NfgFault.TheVariants.{Limit}
use Rattle.nfg_text.specs.Wanted.{◌>>=◌, bad, open_at, close_at, end_at, quoted_at, exact_at, whole_in, limited, many_at, behind, bad_past}
use Rattle.dyn_text.specs.declared.transitions.Dyn.{Dyn}
use Rattle.dyn_text.specs.declared.transitions.DynState.{DynState}

-- a file's name is UTF-8
abbrev pub name_of : List ℕ → Option (List ℕ)
name_of t = if is_utf8 t then Some t else None

abbrev pub name_as : Token → Option (List ℕ) → Result (List ℕ) NfgFault
name_as t None = bad t
name_as t (Some name) = Ok name

unfoldable pub file_name_at : Stream → Result (List ℕ × Stream) NfgFault
file_name_at s = do
  t ← quoted_at s
  name ← name_as (next s) (name_of t.0)
  Ok (name, t.1)

-- the number of a state, at most 4294967295
abbrev pub successor_as : Token → Option (ℕ × ℕ) → Result ℕ NfgFault
successor_as t None = bad t
successor_as t (Some n) = limited Whole 4294967295 t.at n

-- a successor, or the close brace
unfoldable pub successor_or_close_at : Stream → Result (Option ℕ × Stream) NfgFault
successor_or_close_at s = elim (next s).kind as (λ _. Result (Option ℕ × Stream) NfgFault) [
  | close_brace ↦ Ok (None, rest s)
  | word w ↦ successor_as (next s) (whole_in (word w)) >>= λ n. Ok (Some n, rest s)
  | _ ↦ bad (next s)
]

-- successors in braces, of which there are no more than tokens are left
unfoldable pub successors_at : Stream → Result (List ℕ × Stream) NfgFault
successors_at s = many_at successor_or_close_at bad_past (suc (length s.tokens)) s

-- `{ name file { successors } }`
unfoldable pub state_at : Stream → Result (DynState × Stream) NfgFault
state_at s = do
  a ← open_at s
  name ← quoted_at a
  file ← file_name_at name.1
  b ← open_at file.1
  next ← successors_at b
  c ← close_at next.1
  Ok (record { name = name.0; file = file.0; next = next.0 }, c)

-- a state, or the close brace
unfoldable pub state_or_close_at : Stream → Result (Option DynState × Stream) NfgFault
state_or_close_at s = elim (next s).kind as (λ _. Result (Option DynState × Stream) NfgFault) [
  | close_brace ↦ Ok (None, rest s)
  | open_brace ↦ state_at s >>= λ x. Ok (Some x.0, x.1)
  | _ ↦ bad (next s)
]

-- behind 64 states
unfoldable pub full_at : Stream → Result Stream NfgFault
full_at s = elim (next s).kind as (λ _. Result Stream NfgFault) [
  | close_brace ↦ Ok (rest s)
  | open_brace ↦ Err (Limit States (pos 65) (next s).at)
  | _ ↦ bad (next s)
]

abbrev pub states_past : Stream → Result (List DynState × Stream) NfgFault
states_past s = full_at s >>= λ a. Ok ([], a)

-- 1 to 64 states, and the close brace behind them
unfoldable pub states_at : Stream → Result (List DynState × Stream) NfgFault
states_at s = do
  first ← state_at s
  behind (first.0 ∷ []) (many_at state_or_close_at states_past 63 first.1)

unfoldable pub file_at : Stream → Result Dyn NfgFault
file_at s = do
  a ← exact_at (codes "DYN") s
  b ← exact_at (codes "1") a
  title ← quoted_at b
  c ← open_at title.1
  states ← states_at c
  d ← end_at states.1
  Ok (record { title = title.0; states = states.0 })

-- The transitions that a text has, or its first fault: the place of the first token that no such file has after the
-- tokens before it, or the length of the text, or the number or state that fits the form and passes a limit.
unfoldable pub dyn_of : List ℕ → Result Dyn NfgFault
dyn_of bytes = file_at (stream_of bytes)
