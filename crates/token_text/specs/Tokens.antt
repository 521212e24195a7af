-- The tokens of a text: braces, quoted texts and words, with blanks between. A comma is a blank.
use Rattle.std.specs.Prelude.{ℕ, zero, suc, ◌+◌, ◌-◌, ◌==◌, Bool, false, not, ◌||◌, ◌&&◌, if◌then◌else◌, List, [], ◌∷◌, length, drop, take_while, Option, Some, None}
use Rattle.std.specs.Option.{option_map}

-- space, tab, carriage return, line feed, comma
abbrev pub is_blank : ℕ → Bool
is_blank b = (b == 32) || (b == 9) || (b == 13) || (b == 10) || (b == 44)

-- neither a blank nor a brace nor a quote
abbrev pub is_word_byte : ℕ → Bool
is_word_byte b = not (is_blank b || (b == 123) || (b == 125) || (b == 34))

pub data Kind : Type 0 where
  open_brace : Kind
  close_brace : Kind
  -- what stands between the quotes
  quoted : List ℕ → Kind
  word : List ℕ → Kind
  -- a quote that isn't closed
  unclosed : Kind
  -- behind the last token
  ended : Kind

-- a token and its place, the number of bytes before it
pub record Token : Type 0 where
  pub at : ℕ
  pub kind : Kind

-- From the byte after a quote on: the bytes before the first quote that doesn't follow a backslash, and the bytes after it.
abbrev pub quoted_bytes : ℕ → List ℕ → Option (List ℕ × List ℕ)
quoted_bytes before [] = None
quoted_bytes before (b ∷ bs) =
    if (b == 34) && not (before == 92) then Some ([], bs)
    else option_map (λ (r : List ℕ × List ℕ). (b ∷ r.0, r.1)) (quoted_bytes b bs)

abbrev pub begins_with_quote : List ℕ → Bool
begins_with_quote [] = false
begins_with_quote (b ∷ bs) = b == 34

-- A backslash before a quote is left out.
abbrev pub unescaped : List ℕ → List ℕ
unescaped [] = []
unescaped (b ∷ bs) = if (b == 92) && begins_with_quote bs then unescaped bs else b ∷ unescaped bs

abbrev pub quoted_kind : Option (List ℕ × List ℕ) → Kind
quoted_kind None = unclosed
quoted_kind (Some r) = quoted (unescaped r.0)

abbrev pub after_quoted : Option (List ℕ × List ℕ) → List ℕ
after_quoted None = []
after_quoted (Some r) = r.1

-- the token that begins with byte b, which is no blank
abbrev pub kind_at : ℕ → List ℕ → Kind
kind_at b bs =
    if b == 123 then open_brace
    else if b == 125 then close_brace
    else if b == 34 then quoted_kind (quoted_bytes 34 bs)
    else word (b ∷ take_while is_word_byte bs)

-- the bytes after it
abbrev pub bytes_after : ℕ → List ℕ → List ℕ
bytes_after b bs =
    if (b == 123) || (b == 125) then bs
    else if b == 34 then after_quoted (quoted_bytes 34 bs)
    else drop (length (take_while is_word_byte bs)) bs

-- The tokens of bytes that stand behind `at` others. The first number is at least the length of the bytes.
unfoldable pub tokens_from : ℕ → ℕ → List ℕ → List Token
tokens_from zero at bytes = []
tokens_from (suc n) at [] = []
tokens_from (suc n) at (b ∷ bs) =
    if is_blank b then tokens_from n (at + 1) bs
    else record { at = at; kind = kind_at b bs } ∷ tokens_from n (at + 1 + (length bs - length (bytes_after b bs))) (bytes_after b bs)

-- the tokens that are left of a text, and its length
pub record Stream : Type 0 where
  pub tokens : List Token
  pub end : ℕ

-- Bytes that stand behind `at` others, to the end of the text.
abbrev pub stream_from : ℕ → List ℕ → Stream
stream_from at bytes = record { tokens = tokens_from (length bytes) at bytes; end = at + length bytes }

-- a whole text
unfoldable pub stream_of : List ℕ → Stream
stream_of bytes = stream_from 0 bytes

abbrev pub first_or : Token → List Token → Token
first_or t [] = t
first_or t (u ∷ us) = u

-- the next token; behind the last it is the end, whose place is the length of the text
unfoldable pub next : Stream → Token
next s = first_or (record { at = s.end; kind = ended }) s.tokens

-- what is left behind the next token
unfoldable pub rest : Stream → Stream
rest s = record { tokens = drop 1 s.tokens; end = s.end }
