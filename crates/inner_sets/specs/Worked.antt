-- Worked examples: choices of points in the prisoner's dilemma.
use Rattle.std.specs.Prelude.{ℤ, pos, List, [], ◌∷◌}

-- each defects for ever
abbrev pub apart : List ℤ
apart = pos 1 ∷ pos 1 ∷ []

-- both cooperate
abbrev pub together : List ℤ
together = pos 2 ∷ pos 2 ∷ []

abbrev pub both_points : List (List (List ℤ))
both_points = (apart ∷ together ∷ []) ∷ []

abbrev pub one_point : List (List (List ℤ))
one_point = (apart ∷ []) ∷ []
