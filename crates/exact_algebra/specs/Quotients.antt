-- Quotients by a positive number, rounded up and down.
use Rattle.std.specs.Prelude.{ℤ, pos, ◌-ℤ◌, ◌+ℤ◌, ◌*ℤ◌, ◌<ℤ◌, ◌≤ℤ◌}

-- q is the least whole number that is not below n / d, where d is positive
pub record IsCeiling (n d q : ℤ) : Type 0 where
  pub reaches : n ≤ℤ (q *ℤ d)
  pub no_less : ((q -ℤ pos 1) *ℤ d) <ℤ n

-- q is the greatest whole number that is not above n / d, where d is positive
pub record IsFloor (n d q : ℤ) : Type 0 where
  pub within : (q *ℤ d) ≤ℤ n
  pub no_more : n <ℤ ((q +ℤ pos 1) *ℤ d)
