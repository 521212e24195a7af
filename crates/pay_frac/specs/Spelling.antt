-- How numbers are spelled: a whole number, a decimal or a fraction, with `-` before it or nothing.
use Rattle.std.specs.Prelude.{◌≡◌, ℕ, ◌+◌, ◌^◌, ◌<◌, ◌≤◌, ◌≢◌, ℤ, pos, Bool, true, false, List, ◌∷◌, ◌++◌, length, count_by, Any}
use Rattle.std.specs.Char.{is_ascii_digit}
use Rattle.std.specs.Str.Parse.{AllDigits, IsNumeral, digits_value}
use lib.IntN.{neg_ℤ}

-- the digits of each form: D, D.D where one side may be empty, D/D
pub data Form : Type 0 where
  whole : List ℕ → Form
  decimal : List ℕ → List ℕ → Form
  fraction : List ℕ → List ℕ → Form

-- the bytes: 46 is '.', and 47 is '/'
abbrev pub form_text : Form → List ℕ
form_text (whole ds) = ds
form_text (decimal ds es) = ds ++ 46 ∷ es
form_text (fraction ds es) = ds ++ 47 ∷ es

-- a decimal has a digit on one side at least, and the lower part of a fraction has a digit other than '0'
abbrev pub IsForm : Form → Type 0
IsForm (whole ds) = IsNumeral 10 ds
IsForm (decimal ds es) = AllDigits 10 ds × AllDigits 10 es × (0 < length ds + length es)
IsForm (fraction ds es) = IsNumeral 10 ds × AllDigits 10 es × Any (λ c. c ≢ 48) es

abbrev pub form_num : Form → ℕ
form_num (whole ds) = digits_value 10 ds
form_num (decimal ds es) = digits_value 10 (ds ++ es)
form_num (fraction ds es) = digits_value 10 ds

abbrev pub form_den : Form → ℕ
form_den (whole ds) = 1
form_den (decimal ds es) = 10 ^ length es
form_den (fraction ds es) = digits_value 10 es

-- a form, and whether `-` stands before it
pub record Spelling : Type 0 where
  pub negative : Bool
  pub form : Form

-- 45 is '-'
abbrev pub signed_text : Bool → List ℕ → List ℕ
signed_text true text = 45 ∷ text
signed_text false text = text

abbrev pub signed_num : Bool → ℕ → ℤ
signed_num true n = neg_ℤ (pos n)
signed_num false n = pos n

-- the token is this spelling of a number
pub record Spells (token : List ℕ) (s : Spelling) : Type 0 where
  pub text : token ≡ signed_text s.negative (form_text s.form)
  pub form : IsForm s.form

-- the numerator and the denominator of the number that is spelled
abbrev pub spelled_num : Spelling → ℤ
spelled_num s = signed_num s.negative (form_num s.form)

abbrev pub spelled_den : Spelling → ℤ
spelled_den s = pos (form_den s.form)

-- how many digits a token has, leading zeros too
abbrev pub digit_count : List ℕ → ℕ
digit_count token = count_by is_ascii_digit token

-- 1 to 18 decimal digits that write n, leading zeros too
pub record SpellsWhole (text : List ℕ) (n : ℕ) : Type 0 where
  pub numeral : IsNumeral 10 text
  pub few : length text ≤ 18
  pub value : n ≡ digits_value 10 text
