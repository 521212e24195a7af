-- Gambit's strategic form, version 1, of two players. A file of names or counts, payoffs or outcomes, part by part.
use Rattle.std.specs.Prelude.{ℕ, suc, ◌*◌, ◌==◌, ◌||◌, nat_lt, if◌then◌else◌, List, [], ◌∷◌, length, map, slice_index_or, codes, Option, Some, None, Result, Ok, Err, pos}
use Rattle.std.specs.Str.{bytes_eq}
use Rattle.pay_frac.specs.Ratio.{Ratio}
use Rattle.token_text.specs.Tokens.{Token, open_brace, close_brace, quoted, word, Stream, next, rest, stream_of}
use Rattle.nfg_text.specs.declared.nfg.Nfg.{Nfg}
use Rattle.nfg_text.specs.declared.nfg.Strategies.{Strategies}
use Rattle.nfg_text.specs.declared.nfg.Strategies.TheVariants.{Counts, Names}
use Rattle.nfg_text.specs.declared.outcomes.Outcome.{Outcome}
use Rattle.nfg_text.specs.declared.what.What.TheVariants.{Players, Strategies as StrategiesLimit, Digits}
use Rattle.nfg_text.specs.declared.fault.NfgFault.{NfgFault}
use Rattle.nfg_text.specs.declared.fault.NfgFault.TheVariants.{Limit}
use Rattle.nfg_text.specs.Wanted.{◌>>=◌, bad, open_at, close_at, end_at, quoted_at, exact_at, number_at, whole_in, limited, word_in, many_at, times_at, behind, bad_past}

-- `R` and `D` mean the same
abbrev pub tag_as : Token → Option (List ℕ) → Result (List ℕ) NfgFault
tag_as t None = bad t
tag_as t (Some w) = if bytes_eq w (codes "R") || bytes_eq w (codes "D") then Ok w else bad t

unfoldable pub tag_at : Stream → Result Stream NfgFault
tag_at s = tag_as (next s) (word_in (next s).kind) >>= λ w. Ok (rest s)

unfoldable pub title_at : Stream → Result (List ℕ × Stream) NfgFault
title_at s = do
  a ← exact_at (codes "NFG") s
  b ← exact_at (codes "1") a
  c ← tag_at b
  quoted_at c

-- a player's name; a close brace here comes after too few, of which there are k
unfoldable pub player_at : ℕ → Stream → Result (List ℕ × Stream) NfgFault
player_at k s = elim (next s).kind as (λ _. Result (List ℕ × Stream) NfgFault) [
  | quoted t ↦ Ok (t, rest s)
  | close_brace ↦ Err (Limit Players (pos k) (next s).at)
  | _ ↦ bad (next s)
]

-- the close brace, where a name would be the third
unfoldable pub two_at : Stream → Result Stream NfgFault
two_at s = elim (next s).kind as (λ _. Result Stream NfgFault) [
  | close_brace ↦ Ok (rest s)
  | quoted t ↦ Err (Limit Players (pos 3) (next s).at)
  | _ ↦ bad (next s)
]

unfoldable pub players_at : Stream → Result (List (List ℕ) × Stream) NfgFault
players_at s = do
  a ← open_at s
  first ← player_at 0 a
  second ← player_at 1 first.1
  b ← two_at second.1
  Ok (first.0 ∷ second.0 ∷ [], b)

-- a count of strategies, 1 to 16
abbrev pub count_as : Token → Option (ℕ × ℕ) → Result ℕ NfgFault
count_as t None = bad t
count_as t (Some n) = if n.0 == 0 then bad t else limited StrategiesLimit 16 t.at n

unfoldable pub count_at : Stream → Result (ℕ × Stream) NfgFault
count_at s = count_as (next s) (whole_in (next s).kind) >>= λ n. Ok (n, rest s)

unfoldable pub counts_at : Stream → Result (Strategies × Stream) NfgFault
counts_at s = do
  first ← count_at s
  second ← count_at first.1
  a ← close_at second.1
  Ok (Counts (first.0 ∷ second.0 ∷ []), a)

-- the close brace, where a name would be one too many
unfoldable pub full_at : Stream → Result Stream NfgFault
full_at s = elim (next s).kind as (λ _. Result Stream NfgFault) [
  | close_brace ↦ Ok (rest s)
  | quoted t ↦ Err (Limit StrategiesLimit (pos 17) (next s).at)
  | _ ↦ bad (next s)
]

abbrev pub sixteen_past : Stream → Result (List (List ℕ) × Stream) NfgFault
sixteen_past s = full_at s >>= λ a. Ok ([], a)

-- a name, or the close brace
unfoldable pub name_or_close_at : Stream → Result (Option (List ℕ) × Stream) NfgFault
name_or_close_at s = elim (next s).kind as (λ _. Result (Option (List ℕ) × Stream) NfgFault) [
  | close_brace ↦ Ok (None, rest s)
  | quoted t ↦ Ok (Some t, rest s)
  | _ ↦ bad (next s)
]

-- 1 to 16 names in braces
unfoldable pub names_at : Stream → Result (List (List ℕ) × Stream) NfgFault
names_at s = do
  a ← open_at s
  first ← quoted_at a
  behind (first.0 ∷ []) (many_at name_or_close_at sixteen_past 15 first.1)

unfoldable pub both_names_at : Stream → Result (Strategies × Stream) NfgFault
both_names_at s = do
  first ← names_at s
  second ← names_at first.1
  a ← close_at second.1
  Ok (Names (first.0 ∷ second.0 ∷ []), a)

-- counts or names, by what follows the open brace
unfoldable pub strategies_at : Stream → Result (Strategies × Stream) NfgFault
strategies_at s = open_at s >>= λ a. elim (next a).kind as (λ _. Result (Strategies × Stream) NfgFault) [
  | word w ↦ counts_at a
  | open_brace ↦ both_names_at a
  | _ ↦ bad (next a)
]

-- how many strategies each player has, and how many profiles there are
abbrev pub counts_of : Strategies → List ℕ
counts_of (Counts ns) = ns
counts_of (Names ns) = map length ns

abbrev pub product_of : List ℕ → ℕ
product_of [] = 1
product_of (n ∷ ns) = n * product_of ns

abbrev pub profiles_of : Strategies → ℕ
profiles_of st = product_of (counts_of st)

-- a comment where one stands
unfoldable pub comment_at : Stream → Option (List ℕ) × Stream
comment_at s = elim (next s).kind as (λ _. Option (List ℕ) × Stream) [
  | quoted t ↦ (Some t, rest s)
  | _ ↦ (None, s)
]

-- a name and a number for each player
unfoldable pub outcome_at : Stream → Result (Outcome × Stream) NfgFault
outcome_at s = do
  a ← open_at s
  name ← quoted_at a
  first ← number_at name.1
  second ← number_at first.1
  b ← close_at second.1
  Ok (record { first = first.0; second = second.0 }, b)

-- an outcome, or the close brace
unfoldable pub outcome_or_close_at : Stream → Result (Option Outcome × Stream) NfgFault
outcome_or_close_at s = elim (next s).kind as (λ _. Result (Option Outcome × Stream) NfgFault) [
  | close_brace ↦ Ok (None, rest s)
  | open_brace ↦ outcome_at s >>= λ o. Ok (Some o.0, o.1)
  | _ ↦ bad (next s)
]

-- outcomes up to the close brace, of which there are no more than tokens are left
unfoldable pub outcomes_at : Stream → Result (List Outcome × Stream) NfgFault
outcomes_at s = many_at outcome_or_close_at bad_past (suc (length s.tokens)) s

abbrev pub nothing : Outcome
nothing = record { first = record { num = pos 0; den = pos 1 }; second = record { num = pos 0; den = pos 1 } }

-- outcome k, counted from 1 on; outcome 0 gives each player 0
abbrev pub outcome_of : List Outcome → ℕ → Outcome
outcome_of os k = slice_index_or (nothing ∷ os) k nothing

-- an outcome's number, which is no greater than the count of outcomes
abbrev pub choice_as : List Outcome → Token → Option (ℕ × ℕ) → Result Outcome NfgFault
choice_as os t None = bad t
choice_as os t (Some n) =
    if nat_lt (length os) n.0 then bad t
    else if nat_lt 36 n.1 then Err (Limit Digits (pos n.1) t.at)
    else Ok (outcome_of os n.0)

unfoldable pub choice_at : List Outcome → Stream → Result (Outcome × Stream) NfgFault
choice_at os s = choice_as os (next s) (whole_in (next s).kind) >>= λ o. Ok (o, rest s)

abbrev pub payoffs_of : List Outcome → List Ratio
payoffs_of [] = []
payoffs_of (o ∷ os) = o.first ∷ o.second ∷ payoffs_of os

-- the payoffs of so many profiles by their outcomes
unfoldable pub choices_at : List Outcome → ℕ → Stream → Result (List Ratio × Stream) NfgFault
choices_at os n s = times_at (choice_at os) n s >>= λ chosen. Ok (payoffs_of chosen.0, chosen.1)

unfoldable pub chosen_at : ℕ → Stream → Result (List Ratio × Stream) NfgFault
chosen_at profiles s = do
  a ← open_at s
  os ← outcomes_at a
  choices_at os.0 profiles os.1

-- outcomes and a number for each profile, or a number for each player and profile
unfoldable pub body_at : ℕ → Stream → Result (List Ratio × Stream) NfgFault
body_at profiles s = elim (next s).kind as (λ _. Result (List Ratio × Stream) NfgFault) [
  | open_brace ↦ chosen_at profiles s
  | _ ↦ times_at number_at (2 * profiles) s
]

unfoldable pub file_at : Stream → Result Nfg NfgFault
file_at s = do
  title ← title_at s
  players ← players_at title.1
  strategies ← strategies_at players.1
  payoffs ← body_at (profiles_of strategies.0) (comment_at strategies.1).1
  a ← end_at payoffs.1
  Ok (record { title = title.0; players = players.0; strategies = strategies.0; comment = (comment_at strategies.1).0; payoffs = payoffs.0 })

-- The game that a text has, or its first fault: the place of the first token that no such file has after the
-- tokens before it, or the length of the text, or the number that fits the form and passes a limit.
unfoldable pub nfg_of : List ℕ → Result Nfg NfgFault
nfg_of bytes = file_at (stream_of bytes)
