-- What the reader of numbers answers for a form.
use Rattle.std.specs.Prelude.{◌≡◌, ℕ, ◌<◌, ◌≤◌, ◌⊎◌, Result, Ok, Err}
use Rattle.pay_frac.specs.declared.numbers.NumberFault.{NumberFault}
use Rattle.pay_frac.specs.declared.numbers.NumberFault.TheVariants.{NotNumber, Beyond}
use Rattle.pay_frac.specs.Spelling.{Form, IsForm, form_num, form_den, digit_count, form_text}

-- the parts of the number, or the count of its digits where that is more than 36
pub record FormGives (f : Form) (r : Result (ℕ × ℕ) NumberFault) : Type 0 where
  pub few : digit_count (form_text f) ≤ 36 → r ≡ Ok (form_num f, form_den f)
  pub many : 36 < digit_count (form_text f) → r ≡ Err (Beyond (digit_count (form_text f)))

-- the same where the form is right, and no number where it isn't
pub record ReadsAs (f : Form) (r : Result (ℕ × ℕ) NumberFault) : Type 0 where
  pub right : IsForm f → FormGives f r
  pub otherwise : IsForm f ⊎ (r ≡ Err NotNumber)
