-- The number that a token is, by its bytes.
use Rattle.std.specs.Prelude.{ℕ, zero, suc, ◌+◌, ◌%◌, ◌==◌, ◌&&◌, nat_lt, Bool, true, false, not, if◌then◌else◌, List, [], ◌∷◌, ◌++◌, length, ℤ, pos, Option, Some, None, Result, Ok, Err}
use Rattle.std.specs.Option.{option_map}
use Rattle.std.specs.Char.{is_ascii_digit}
use Rattle.std.specs.Str.Parse.{digits_value}
use Rattle.std.specs.Int.RustNames.{int_div, unsigned_abs}
use Rattle.pay_frac.specs.declared.numbers.NumberFault.{NumberFault}
use Rattle.pay_frac.specs.declared.numbers.NumberFault.TheVariants.{NotNumber, Beyond}
use Rattle.pay_frac.specs.Ratio.{Ratio}
use Rattle.pay_frac.specs.Spelling.{Form, whole, decimal, fraction, form_den, Spelling, spelled_num, digit_count}

abbrev pub all_digits : List ℕ → Bool
all_digits [] = true
all_digits (b ∷ bs) = is_ascii_digit b && all_digits bs

abbrev pub all_zeros : List ℕ → Bool
all_zeros [] = true
all_zeros (b ∷ bs) = (b == 48) && all_zeros bs

-- the whole number that digits alone write, however many
abbrev pub whole_of : List ℕ → Option ℕ
whole_of w = if nat_lt 0 (length w) && all_digits w then Some (digits_value 10 w) else None

-- The form of digits and the bytes after them: 46 is '.', and 47 is '/'.
abbrev pub form_after : List ℕ → List ℕ → Option Form
form_after ds [] = if nat_lt 0 (length ds) then Some (whole ds) else None
form_after ds (b ∷ bs) =
    if is_ascii_digit b then form_after (ds ++ b ∷ []) bs
    else if b == 46 then (if all_digits bs && nat_lt 0 (length ds + length bs) then Some (decimal ds bs) else None)
    else if b == 47 then (if nat_lt 0 (length ds) && all_digits bs && not (all_zeros bs) then Some (fraction ds bs) else None)
    else None

-- 45 is '-'
abbrev pub spelling_of : List ℕ → Option Spelling
spelling_of [] = None
spelling_of (b ∷ bs) =
    if b == 45 then option_map (λ (f : Form). record { negative = true; form = f }) (form_after [] bs)
    else option_map (λ (f : Form). record { negative = false; form = f }) (form_after [] (b ∷ bs))

-- Euclid's algorithm; the second number is at most the first argument
abbrev pub euclid : ℕ → ℕ → ℕ → ℕ
euclid zero a b = a
euclid (suc n) a zero = a
euclid (suc n) a (suc b) = euclid n (suc b) (a % suc b)

-- the fraction in lowest terms
unfoldable pub lowest : ℤ → ℕ → Ratio
lowest num den =
    let g = pos (euclid den (unsigned_abs num) den) in
    record { num = int_div num g; den = int_div (pos den) g }

abbrev pub number_from : List ℕ → Option Spelling → Result Ratio NumberFault
number_from token None = Err NotNumber
number_from token (Some s) =
    if nat_lt 36 (digit_count token) then Err (Beyond (digit_count token))
    else Ok (lowest (spelled_num s) (form_den s.form))

-- the number in lowest terms, or why there is none
unfoldable pub number_of : List ℕ → Result Ratio NumberFault
number_of token = number_from token (spelling_of token)
