-- What a text has from the left on, part by part: a value and the tokens after it, or the first fault.
use Rattle.std.specs.Prelude.{◌≡◌, ℕ, zero, suc, ◌++◌, nat_lt, Bool, true, false, if◌then◌else◌, List, [], ◌∷◌, length, Option, Some, None, Result, Ok, Err, pos}
use Rattle.std.specs.Option.{option_map}
use Rattle.std.specs.Str.{bytes_eq}
use Rattle.pay_frac.specs.Ratio.{Ratio}
use Rattle.pay_frac.specs.declared.numbers.NumberFault.{NumberFault}
use Rattle.pay_frac.specs.declared.numbers.NumberFault.TheVariants.{NotNumber, Beyond}
use Rattle.pay_frac.specs.Number.{whole_of, number_of}
use Rattle.token_text.specs.Tokens.{Token, Kind, open_brace, close_brace, quoted, word, ended, Stream, next, rest}
use Rattle.nfg_text.specs.declared.what.What.{What}
use Rattle.nfg_text.specs.declared.what.What.TheVariants.{Digits}
use Rattle.nfg_text.specs.declared.fault.NfgFault.{NfgFault}
use Rattle.nfg_text.specs.declared.fault.NfgFault.TheVariants.{Bad, Limit, NoMemory}

infixl 10 ◌>>=◌
abbrev pub ◌>>=◌ : {A B : Type 0} → Result A NfgFault → (A → Result B NfgFault) → Result B NfgFault
(Ok x) >>= f = f x
(Err e) >>= f = Err e

-- What a reader answered, seen by view, and the tokens after it are what the text has, unless memory ran out.
abbrev pub Fails : {Y : Type 0} → NfgFault → Result Y NfgFault → Type 0
Fails (Bad at) has = has ≡ Err (Bad at)
Fails (Limit what number at) has = has ≡ Err (Limit what number at)
Fails NoMemory has = Unit {0}

abbrev pub Reads : {X Y : Type 0} → (X → Y) → Result X NfgFault → Stream → Result (Y × Stream) NfgFault → Type 0
Reads view (Ok x) after has = has ≡ Ok (view x, after)
Reads view (Err e) after has = Fails e has

-- the same for a part without a value, and for a whole text
abbrev pub Passes : {X : Type 0} → Result X NfgFault → Stream → Result Stream NfgFault → Type 0
Passes (Ok x) after has = has ≡ Ok after
Passes (Err e) after has = Fails e has

abbrev pub Gives : {X : Type 0} → Result X NfgFault → Result X NfgFault → Type 0
Gives (Ok x) has = has ≡ Ok x
Gives (Err e) has = Fails e has

abbrev pub is_open : Kind → Bool
is_open open_brace = true
is_open _ = false

abbrev pub is_close : Kind → Bool
is_close close_brace = true
is_close _ = false

abbrev pub is_end : Kind → Bool
is_end ended = true
is_end _ = false

abbrev pub quoted_in : Kind → Option (List ℕ)
quoted_in (quoted t) = Some t
quoted_in _ = None

abbrev pub word_in : Kind → Option (List ℕ)
word_in (word w) = Some w
word_in _ = None

-- a misfit is at the token
abbrev pub bad : {A : Type 0} → Token → Result A NfgFault
bad t = Err (Bad t.at)

abbrev pub or_bad : {A : Type 0} → Token → Option A → Result A NfgFault
or_bad t None = bad t
or_bad t (Some x) = Ok x

unfoldable pub open_at : Stream → Result Stream NfgFault
open_at s = if is_open (next s).kind then Ok (rest s) else bad (next s)

unfoldable pub close_at : Stream → Result Stream NfgFault
close_at s = if is_close (next s).kind then Ok (rest s) else bad (next s)

unfoldable pub end_at : Stream → Result Stream NfgFault
end_at s = if is_end (next s).kind then Ok (rest s) else bad (next s)

unfoldable pub quoted_at : Stream → Result (List ℕ × Stream) NfgFault
quoted_at s = or_bad (next s) (quoted_in (next s).kind) >>= λ t. Ok (t, rest s)

unfoldable pub word_at : Stream → Result (List ℕ × Stream) NfgFault
word_at s = or_bad (next s) (word_in (next s).kind) >>= λ w. Ok (w, rest s)

-- exactly this word
abbrev pub same_word : Token → List ℕ → Option (List ℕ) → Result (List ℕ) NfgFault
same_word t wanted None = bad t
same_word t wanted (Some w) = if bytes_eq w wanted then Ok w else bad t

unfoldable pub exact_at : List ℕ → Stream → Result Stream NfgFault
exact_at wanted s = same_word (next s) wanted (word_in (next s).kind) >>= λ w. Ok (rest s)

-- a number, whose digits are at most 36
abbrev pub number_as : Token → Result Ratio NumberFault → Result Ratio NfgFault
number_as t (Ok r) = Ok r
number_as t (Err NotNumber) = bad t
number_as t (Err (Beyond digits)) = Err (Limit Digits (pos digits) t.at)

unfoldable pub number_at : Stream → Result (Ratio × Stream) NfgFault
number_at s = do
  w ← or_bad (next s) (word_in (next s).kind)
  r ← number_as (next s) (number_of w)
  Ok (r, rest s)

-- a whole token: its value, and how many digits it has
abbrev pub whole_word : Option (List ℕ) → Option (ℕ × ℕ)
whole_word None = None
whole_word (Some w) = option_map (λ n. (n, length w)) (whole_of w)

abbrev pub whole_in : Kind → Option (ℕ × ℕ)
whole_in k = whole_word (word_in k)

-- what passes the limit is told, the digits first
abbrev pub limited : What → ℕ → ℕ → ℕ × ℕ → Result ℕ NfgFault
limited what most at n =
    if nat_lt 36 n.1 then Err (Limit Digits (pos n.1) at)
    else if nat_lt most n.0 then Err (Limit what (pos n.0) at)
    else Ok n.0

-- Items one after another, up to where none follows. For each there is room, and behind the last stands what follows it.
unfoldable pub many_at : {A : Type 0} → (Stream → Result (Option A × Stream) NfgFault) → (Stream → Result (List A × Stream) NfgFault) → ℕ → Stream → Result (List A × Stream) NfgFault
many_at {A = A} item past zero s = past s
many_at {A = A} item past (suc room) s = item s >>= λ x. elim x.0 as (λ _. Result (List A × Stream) NfgFault) [
  | None ↦ Ok ([], x.1)
  | Some a ↦ many_at item past room x.1 >>= λ more. Ok (a ∷ more.0, more.1)
]

-- so many items
unfoldable pub times_at : {A : Type 0} → (Stream → Result (A × Stream) NfgFault) → ℕ → Stream → Result (List A × Stream) NfgFault
times_at item zero s = Ok ([], s)
times_at item (suc n) s = item s >>= λ x. times_at item n x.1 >>= λ more. Ok (x.0 ∷ more.0, more.1)

-- what is read behind items that were read
abbrev pub behind : {A : Type 0} → List A → Result (List A × Stream) NfgFault → Result (List A × Stream) NfgFault
behind before has = has >>= λ more. Ok (before ++ more.0, more.1)

-- no room is left and none is needed
abbrev pub bad_past : {A : Type 0} → Stream → Result A NfgFault
bad_past s = bad (next s)
