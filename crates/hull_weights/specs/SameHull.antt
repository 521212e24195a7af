-- Lists of points with the same hull.
use Rattle.std.specs.Prelude.{ℤ, List, Contains}
use Rattle.hull_weights.specs.Hull.{IsInHull}

-- each point of the one list is in the hull of the other
abbrev pub AreIn : List (List ℤ) → List (List ℤ) → Type 0
AreIn xs ys = (v : List ℤ) → Contains xs v → IsInHull ys v

pub record HaveSameHull (xs ys : List (List ℤ)) : Type 0 where
  pub forth : AreIn xs ys
  pub back : AreIn ys xs
