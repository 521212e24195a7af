-- Programs some of whose variables have been eliminated.
use Rattle.std.specs.Prelude.{List, Bool}
use Rattle.lp_core.specs.declared.reduced.Line.{Line}

-- which variables are live, and the rows; the entries of the others are 0
pub record Reduced : Type 0 where
  pub live : List Bool
  pub lines : List Line
