-- Words on the answer of `triangle`.
use Rattle.std.specs.Prelude.{ℕ, ℤ, List, ⊤}
use Rattle.hull_weights.specs.declared.HullAnswer.{HullAnswer}
use Rattle.hull_weights.specs.declared.HullAnswer.TheVariants.{Weights, Outside}

abbrev pub IfWeights : HullAnswer → (List (ℕ × ℤ) → Type 0) → Type 0
IfWeights (Weights items) P = P items
IfWeights (Outside normal) P = ⊤

abbrev pub IfOutside : HullAnswer → (List ℤ → Type 0) → Type 0
IfOutside (Weights items) P = ⊤
IfOutside (Outside normal) P = P normal

abbrev pub IsOutside : HullAnswer → Type 0
IsOutside (Weights items) = ⊥
IsOutside (Outside normal) = ⊤
