-- The forms of the lines of a report, and the first line that has none.
use Rattle.std.specs.Prelude.{ℕ, zero, suc, ◌+◌, ◌==◌, ◌||◌, Bool, true, false, if◌then◌else◌, List, [], ◌∷◌, length, codes, Option, Some, None}
use Rattle.std.specs.List.{slice_split}
use Rattle.std.specs.Str.{bytes_eq}
use Rattle.report_lines.specs.declared.pattern.Kind.{Kind}
use Rattle.report_lines.specs.declared.pattern.Kind.TheVariants.{Whole, Fraction, Pair, Item}
use Rattle.report_lines.specs.Spelled.{is_whole, is_fraction, is_pair}
use Rattle.report_lines.specs.Words.{words_of}

-- the words of a line behind those that were taken, or none where one wasn't what it was to be
abbrev pub Rest : Type 0
Rest = Option (List (List ℕ))

abbrev pub next_of : Rest → List ℕ
next_of None = []
next_of (Some []) = []
next_of (Some (w ∷ ws)) = w

-- behind the next word, if there is one and it passes
abbrev pub behind : Bool → Rest → Rest
behind passes None = None
behind passes (Some []) = None
behind passes (Some (w ∷ ws)) = if passes then Some ws else None

unfoldable pub the : List ℕ → Rest → Rest
the name rest = behind (bytes_eq (next_of rest) name) rest

unfoldable pub whole : Rest → Rest
whole rest = behind (is_whole (next_of rest)) rest

unfoldable pub fraction : Rest → Rest
fraction rest = behind (is_fraction (next_of rest)) rest

unfoldable pub pair : Rest → Rest
pair rest = behind (is_pair (next_of rest)) rest

-- an item of a certificate
unfoldable pub item : Rest → Rest
item rest =
    if bytes_eq (next_of rest) (codes "level") then whole (whole (whole (the (codes "level") rest)))
    else whole (whole (whole (whole (the (codes "gain") rest))))

abbrev pub one : Kind → Rest → Rest
one Whole rest = whole rest
one Fraction rest = fraction rest
one Pair rest = pair rest
one Item rest = item rest

abbrev pub or_else : Rest → Rest → Rest
or_else rest None = rest
or_else rest (Some ws) = Some ws

-- behind as many of a kind as there are, and at most so many
abbrev pub at_most : Kind → ℕ → Rest → Rest
at_most kind zero rest = rest
at_most kind (suc n) rest = or_else (at_most kind n rest) (one kind (at_most kind n rest))

abbrev pub count_of : Rest → ℕ
count_of None = 0
count_of (Some ws) = length ws

unfoldable pub any : Kind → Rest → Rest
any kind rest = at_most kind (count_of rest) rest

unfoldable pub some : Kind → Rest → Rest
some kind rest = any kind (one kind rest)

abbrev pub ends : Rest → Bool
ends None = false
ends (Some []) = true
ends (Some (w ∷ ws)) = false

-- ---- the lines
unfoldable pub is_head : Rest → Bool
is_head line =
    ends (the (codes "1") (the (codes "payoff") line))
    || ends (the (codes "settled") (the (codes "status") line))
    || ends (the (codes "spent") (the (codes "status") line))
    || ends (some Fraction (the (codes "discount") line))
    || ends (the (codes "end") line)

unfoldable pub is_number : Rest → Bool
is_number line =
    ends (whole (the (codes "players") line))
    || ends (whole (the (codes "states") line))
    || ends (whole (the (codes "directions") line))
    || ends (whole (the (codes "unit") line))
    || ends (whole (the (codes "slack") line))
    || ends (whole (the (codes "sweeps") line))
    || ends (whole (the (codes "solves") line))
    || ends (whole (the (codes "empty") line))

unfoldable pub is_row : Rest → Bool
is_row line =
    ends (whole (whole (whole (the (codes "row") line))))
    || ends (the (codes "empty") (whole (whole (the (codes "row") line))))
    || ends (some Fraction (whole (whole (whole (the (codes "point") line)))))
    || ends (fraction (whole (whole (whole (the (codes "stop") line)))))
    || ends (the (codes "none") (whole (whole (whole (the (codes "stop") line)))))

unfoldable pub is_reason : Rest → Bool
is_reason words =
    ends (whole (the (codes "successor") words))
    || ends (whole (whole (whole (the (codes "deviation") words))))
    || ends (some Item (the (codes "farkas") words))

-- behind the lottery of an entry
unfoldable pub lottery : Rest → Rest
lottery line =
    some Pair (the (codes "lottery") (whole (the (codes "profile") (some Fraction (whole (whole (the (codes "entry") line)))))))

unfoldable pub is_set : Rest → Bool
is_set line =
    ends (whole (whole (the (codes "set") line)))
    || ends (any Whole (the (codes "punish") (lottery line)))

unfoldable pub has_form : List ℕ → Bool
has_form line =
    let words = Some (words_of line) in
    is_head words || is_number words || is_row words || is_reason (whole (whole (the (codes "why") words))) || is_set words

-- ---- the place of the fault
-- the bytes before each line feed, and those behind the last
abbrev pub lines_of : List ℕ → List (List ℕ)
lines_of bytes = slice_split (λ b. b == 10) bytes

-- The start of the first line that has no form. The last are the bytes behind the last line feed: no line, or one without a form.
abbrev pub place_from : ℕ → List (List ℕ) → ℕ
place_from at [] = at
place_from at (line ∷ []) = at
place_from at (line ∷ next ∷ lines) = if has_form line then place_from (at + length line + 1) (next ∷ lines) else at

unfoldable pub place_of : List ℕ → ℕ
place_of bytes = place_from 0 (lines_of bytes)
