-- Two fractions.
use Rattle.pay_frac.specs.Ratio.{Ratio}

pub record Pair : Type 0 where
  pub first : Ratio
  pub second : Ratio
