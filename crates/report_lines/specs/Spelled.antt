-- How a report writes numbers.
use Rattle.std.specs.Prelude.{ℕ, ◌++◌, ◌==◌, ◌&&◌, Bool, false, if◌then◌else◌, List, ◌∷◌, pos, Result, Ok, Err, nat_lt, length, take, drop, ◌+◌}
use Rattle.std.specs.List.{position_or_len}
use Rattle.std.specs.Fmt.{signed_decimal}
use Rattle.std.specs.Ordering.{int_eq}
use Rattle.std.specs.Str.{bytes_eq}
use Rattle.pay_frac.specs.declared.numbers.NumberFault.{NumberFault}
use Rattle.pay_frac.specs.Ratio.{Ratio}
use Rattle.pay_frac.specs.Number.{number_of}

-- `n`, or `n/d` where d is not 1
abbrev pub ratio_word : Ratio → List ℕ
ratio_word r = if int_eq r.den (pos 1) then signed_decimal r.num else (signed_decimal r.num ++ 47 ∷ signed_decimal r.den)

abbrev pub writes : List ℕ → Result Ratio NumberFault → Bool
writes word (Ok r) = bytes_eq word (ratio_word r)
writes word (Err e) = false

-- The word is what a report writes for the number that it spells, which has at most 36 digits.
unfoldable pub is_fraction : List ℕ → Bool
is_fraction word = writes word (number_of word)

abbrev pub writes_whole : List ℕ → Result Ratio NumberFault → Bool
writes_whole word (Ok r) = int_eq r.den (pos 1) && bytes_eq word (ratio_word r)
writes_whole word (Err e) = false

-- the same of a whole number
unfoldable pub is_whole : List ℕ → Bool
is_whole word = writes_whole word (number_of word)

-- two whole numbers with a colon between, which is 58
unfoldable pub is_pair : List ℕ → Bool
is_pair word =
    let at = position_or_len (λ b. b == 58) word in
    nat_lt at (length word) && is_whole (take at word) && is_whole (drop (at + 1) word)
