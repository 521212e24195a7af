-- Fractions of signed whole numbers.
use Rattle.std.specs.Prelude.{◌≡◌, ◌^◌, ◌<◌, ◌≤◌, ℤ, pos, ◌*ℤ◌, ◌<ℤ◌}
use Rattle.std.specs.Int.RustNames.{unsigned_abs}
use Rattle.std.specs.Int.{IsGcd}

pub record Ratio : Type 0 where
  pub num : ℤ
  pub den : ℤ

-- a positive denominator, lowest terms, and parts of which also the negatives fit 128 bits
pub record IsLowest (r : Ratio) : Type 0 where
  pub positive : pos 0 <ℤ r.den
  pub coprime : IsGcd (unsigned_abs r.num) (unsigned_abs r.den) 1
  pub num_fits : unsigned_abs r.num < 2 ^ 127
  pub den_fits : unsigned_abs r.den < 2 ^ 127

-- the same number as one whole number over another, by cross products
abbrev pub Equals : Ratio → ℤ → ℤ → Type 0
Equals r num den = r.num *ℤ den ≡ num *ℤ r.den

-- both parts are at most 2^62 in absolute value
pub record IsSmall (r : Ratio) : Type 0 where
  pub num_small : unsigned_abs r.num ≤ 2 ^ 62
  pub den_small : unsigned_abs r.den ≤ 2 ^ 62
