-- The text of a schedule, part by part, for a table of so many rows.
use Rattle.std.specs.Prelude.{◌≡◌, ℕ, suc, ◌<◌, ◌≤◌, nat_lt, not, ◌||◌, if◌then◌else◌, List, length, codes, All, Option, Some, None, Result, Ok, Err}
use Rattle.std.specs.Str.{bytes_eq}
use Rattle.token_text.specs.Tokens.{Token, close_brace, word, Stream, next, rest, stream_of}
use Rattle.nfg_text.specs.declared.what.What.TheVariants.{Whole}
use Rattle.nfg_text.specs.declared.fault.NfgFault.{NfgFault}
use Rattle.nfg_text.specs.declared.fault.NfgFault.TheVariants as text
use Rattle.nfg_text.specs.Wanted.{◌>>=◌, bad, open_at, end_at, exact_at, whole_in, limited, many_at, bad_past}
use Rattle.schedule_core.specs.declared.moves.Move.{Move}
use Rattle.schedule_core.specs.declared.moves.Move.TheVariants.{Load, Lower, Clear}
use Rattle.schedule_core.specs.declared.moves.Schedule.{Schedule}
use Rattle.schedule_core.specs.declared.schedule_fault.ScheduleFault.{ScheduleFault}
use Rattle.schedule_core.specs.declared.schedule_fault.ScheduleFault.TheVariants.{Bad, Limit, NoMemory}

-- A whole token of a value from `least` on and below `bound`. One that is out of range is a misfit, however many digits it has.
abbrev pub ranged_as : ℕ → ℕ → Token → Option (ℕ × ℕ) → Result ℕ NfgFault
ranged_as least bound t None = bad t
ranged_as least bound t (Some n) = if nat_lt n.0 least || not (nat_lt n.0 bound) then bad t else limited Whole 4294967295 t.at n

unfoldable pub ranged_at : ℕ → ℕ → Stream → Result (ℕ × Stream) NfgFault
ranged_at least bound s = ranged_as least bound (next s) (whole_in (next s).kind) >>= λ n. Ok (n, rest s)

-- a worker and a row
unfoldable pub load_at : ℕ → ℕ → Stream → Result (Move × Stream) NfgFault
load_at workers rows s = do
  w ← ranged_at 0 workers s
  row ← ranged_at 0 rows w.1
  Ok (Load w.0 row.0, row.1)

unfoldable pub lower_at : ℕ → ℕ → Stream → Result (Move × Stream) NfgFault
lower_at workers rows s = do
  w ← ranged_at 0 workers s
  row ← ranged_at 0 rows w.1
  Ok (Lower w.0 row.0, row.1)

-- the worker is the owner
unfoldable pub clear_at : ℕ → Stream → Result (Move × Stream) NfgFault
clear_at rows s = do
  w ← ranged_at 0 1 s
  row ← ranged_at 0 rows w.1
  Ok (Clear row.0, row.1)

-- `load whole whole`, `lower whole whole` or `clear whole whole`, behind its first word
abbrev pub move_at : ℕ → ℕ → Token → List ℕ → Stream → Result (Move × Stream) NfgFault
move_at workers rows t name s =
    if bytes_eq name (codes "load") then load_at workers rows s
    else if bytes_eq name (codes "lower") then lower_at workers rows s
    else if bytes_eq name (codes "clear") then clear_at rows s
    else bad t

-- a move, or the close brace
unfoldable pub move_or_close_at : ℕ → ℕ → Stream → Result (Option Move × Stream) NfgFault
move_or_close_at workers rows s = elim (next s).kind as (λ _. Result (Option Move × Stream) NfgFault) [
  | close_brace ↦ Ok (None, rest s)
  | word name ↦ move_at workers rows (next s) name (rest s) >>= λ m. Ok (Some m.0, m.1)
  | _ ↦ bad (next s)
]

-- moves up to the close brace, of which there are no more than tokens are left
unfoldable pub moves_at : ℕ → ℕ → Stream → Result (List Move × Stream) NfgFault
moves_at workers rows s = many_at (move_or_close_at workers rows) bad_past (suc (length s.tokens)) s

-- `SCH 1 whole { move* }`, and nothing behind it
unfoldable pub file_at : ℕ → Stream → Result Schedule NfgFault
file_at rows s = do
  a ← exact_at (codes "SCH") s
  b ← exact_at (codes "1") a
  workers ← ranged_at 1 17 b
  c ← open_at workers.1
  moves ← moves_at workers.0 rows c
  d ← end_at moves.1
  Ok (record { workers = workers.0; moves = moves.0 })

abbrev pub told : NfgFault → ScheduleFault
told (text.Bad at) = Bad at
told (text.Limit what number at) = Limit what number at
told text.NoMemory = NoMemory

abbrev pub lifted : {A : Type 0} → Result A NfgFault → Result A ScheduleFault
lifted (Ok x) = Ok x
lifted (Err e) = Err (told e)

-- The schedule that a text has for a table of so many rows, or its first fault: the place of the first token that no such text has after the tokens before it, or the length of the text, or the number that fits the form and passes a limit.
unfoldable pub schedule_of : ℕ → List ℕ → Result Schedule ScheduleFault
schedule_of rows bytes = lifted (file_at rows (stream_of bytes))

-- What a reader answered is what the text has, unless memory ran out.
abbrev pub Fails : {A : Type 0} → ScheduleFault → Result A ScheduleFault → Type 0
Fails (Bad at) has = has ≡ Err (Bad at)
Fails (Limit what number at) has = has ≡ Err (Limit what number at)
Fails NoMemory has = Unit {0}

abbrev pub Gives : {A : Type 0} → Result A ScheduleFault → Result A ScheduleFault → Type 0
Gives (Ok x) has = has ≡ Ok x
Gives (Err e) has = Fails e has

-- the move's worker is one of so many, and its row one of so many
abbrev pub FitsMove : ℕ → ℕ → Move → Type 0
FitsMove workers rows (Load w r) = (w < workers) × (r < rows)
FitsMove workers rows (Lower w r) = (w < workers) × (r < rows)
FitsMove workers rows (Clear r) = r < rows

-- 1 to 16 workers, and moves of them and of so many rows
pub record FitsSchedule (rows : ℕ) (s : Schedule) : Type 0 where
  pub some : 0 < s.workers
  pub few : s.workers ≤ 16
  pub moves : All (FitsMove s.workers rows) s.moves
