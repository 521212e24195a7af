-- What clauses see of a shelf and of a sink in memory, and what they answer.
use Rattle.std.specs.Prelude.{◌≡◌, ℕ, ◌-◌, ◌^◌, ◌||◌, ◌==◌, Bool, List, length, map, min, find, nat_lt, nat_le, if◌then◌else◌, Option, Some, None, option_map, Result, Ok, Err, IsOk, bytes_eq, Vec, String, string_bytes}
use Rattle.std.specs.List.{list_any}
use Rattle.std.specs.declared.alloc.Global.{Global}
use Rattle.pay_outside.specs.declared.mem.TheConstants.{SINK_ROOM}
use Rattle.pay_outside.specs.declared.shelf.ShelfFault.{ShelfFault}
use Rattle.pay_outside.specs.declared.shelf.ShelfFault.TheVariants.{Failed, TooLong, NoMemory}
use Rattle.pay_outside.specs.declared.sink.SinkFault.{SinkFault}
use Rattle.pay_outside.specs.declared.sink.SinkFault.TheVariants.{Failed as PutFailed}

-- a shelf: its files as pairs of name and content, the numbers of the loads that fail, and its three counts
pub record ShelfView : Type 0 where
  pub files : List (List ℕ × List ℕ)
  pub fail : List ℕ
  pub loads : ℕ
  pub faults : ℕ
  pub overlong : ℕ

-- the bytes of each name and of its file
abbrev pub named_bytes : List (String Global × Vec ℕ Global) → List (List ℕ × List ℕ)
named_bytes files = map (λ file. (string_bytes file.0, file.1.items)) files

-- the content of the first file with this name
abbrev pub first_content : List (List ℕ × List ℕ) → List ℕ → Option (List ℕ)
first_content files name = option_map (λ file. file.1) (find (λ file. bytes_eq file.0 name) files)

-- the number of loads, told while it stands below the end of its type
abbrev pub told_loads : ℕ → Option ℕ
told_loads n = if nat_lt n (2 ^ 64 - 1) then Some n else None

-- the number of a call is among those that fail
abbrev pub is_among : List ℕ → ℕ → Bool
is_among fail number = list_any (λ n. n == number) fail

-- the content, if it is there and not too long
abbrev pub content_within : Option (List ℕ) → ℕ → Result (List ℕ) ShelfFault
content_within None most = Err Failed
content_within (Some content) most = if nat_le (length content) most then Ok content else Err TooLong

-- what the next load answers where memory isn't wanting
abbrev pub load_answer : ShelfView → List ℕ → ℕ → Result (List ℕ) ShelfFault
load_answer shelf name most =
    if is_among shelf.fail shelf.loads then Err Failed else content_within (first_content shelf.files name) most

-- a load gave the wanted answer, or memory was wanting for the bytes of an Ok
abbrev pub IsAnswerOrNoMemory : Result (Vec ℕ Global) ShelfFault → Result (List ℕ) ShelfFault → Type 0
IsAnswerOrNoMemory (Ok v) wanted = wanted ≡ Ok v.items
IsAnswerOrNoMemory (Err Failed) wanted = wanted ≡ Err Failed
IsAnswerOrNoMemory (Err TooLong) wanted = wanted ≡ Err TooLong
IsAnswerOrNoMemory (Err NoMemory) wanted = IsOk wanted

-- a sink: the bytes taken, the most that a put takes, the numbers of the puts that fail, and its two counts
pub record SinkView : Type 0 where
  pub taken : List ℕ
  pub most_per_put : ℕ
  pub fail : List ℕ
  pub puts : ℕ
  pub faults : ℕ

-- the next put of a piece that isn't empty fails: its number says so, or no room is left
abbrev pub put_fails : SinkView → Bool
put_fails sink = (length sink.taken == SINK_ROOM) || is_among sink.fail sink.puts

-- what the next put answers: the least of the piece, of the most that a put takes and of the room left
abbrev pub put_answer : SinkView → List ℕ → Result ℕ SinkFault
put_answer sink piece =
    if length piece == 0 then Ok 0
    else (if put_fails sink then Err PutFailed
    else Ok (min (min (length piece) sink.most_per_put) (SINK_ROOM - length sink.taken)))
