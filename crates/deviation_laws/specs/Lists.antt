-- Plans in a list, by their places.
use Rattle.std.specs.Prelude.{◌≡◌, ℕ, suc, ◌<◌, List, [], ◌∷◌, ◌++◌, length, slice_index_or, pos}
use Rattle.game_model.specs.Game.{DynamicGame}
use Rattle.game_model.specs.SelfGeneration.{Correspondence, total_weight}
use Rattle.pay_frac.specs.Ratio.{Ratio}
use Rattle.deviation_laws.specs.declared.plan.DevPlan.{DevPlan, Stop}
use Rattle.deviation_laws.specs.Fractions.{Fraction, whole, plus, times, divided_by, product}
use Rattle.deviation_laws.specs.Gains.{discount, formed, units, value_of, weighed}
use Rattle.deviation_laws.specs.Plans.{Fits, worth}

-- one plan for each outcome in state t, which fits there
abbrev pub FitInTurn : DynamicGame → Correspondence → ℕ → ℕ → List (ℕ × ℕ) → List DevPlan → Type 0
FitInTurn g c i t os plans = (length plans ≡ length os) × ((j : ℕ) → j < length plans → Fits g c i t (slice_index_or os j (0, 0)).0 (slice_index_or plans j Stop))

-- the sum of weight times worth
abbrev pub worth_in_turn : DynamicGame → Correspondence → ℕ → ℕ → List (ℕ × ℕ) → List DevPlan → Fraction
worth_in_turn g c i t [] plans = whole (pos 0)
worth_in_turn g c i t (o ∷ os) [] = whole (pos 0)
worth_in_turn g c i t (o ∷ os) (plan ∷ plans) = plus (times (pos o.1) (worth g c i t o.0 plan)) (worth_in_turn g c i t os plans)

-- the average of what the plans are worth, in units of the game
abbrev pub average_in_turn : DynamicGame → Correspondence → ℕ → ℕ → List (ℕ × ℕ) → List DevPlan → Fraction
average_in_turn g c i t os plans = divided_by (units g c) (divided_by (pos (total_weight os)) (worth_in_turn g c i t os plans))

-- the fractions that are formed for the outcomes of a plan at depth n, after the sum `before`
abbrev pub formed_in_turn : DynamicGame → Correspondence → ℕ → ℕ → ℕ → ℕ → Fraction → List (ℕ × ℕ) → List DevPlan → List (ℕ × Fraction)
formed_in_turn g c i n t total before [] plans = []
formed_in_turn g c i n t total before (o ∷ os) [] = []
formed_in_turn g c i n t total before (o ∷ os) (plan ∷ plans) =
    formed g c i (suc n) t o.0 plan
    ++ ((n, record { num = pos o.1; den = pos total })
    ∷ (n, weighed o.1 total (value_of g c i t o.0 plan))
    ∷ (n, plus before (weighed o.1 total (value_of g c i t o.0 plan)))
    ∷ formed_in_turn g c i n t total (plus before (weighed o.1 total (value_of g c i t o.0 plan))) os plans)

-- a fraction as it is held
abbrev pub held : Ratio → Fraction
held r = record { num = r.num; den = r.den }

-- the fractions that are formed when an outcome with a weight and a value is added to a sum
abbrev pub formed_at : ℕ → ℕ → ℕ → Fraction → Fraction → List (ℕ × Fraction)
formed_at n w total before x = (n, record { num = pos w; den = pos total }) ∷ (n, weighed w total x) ∷ (n, plus before (weighed w total x)) ∷ []

-- those that are formed when the payoff of a period and the discounted average are added
abbrev pub formed_then : DynamicGame → ℕ → ℕ → Fraction → Fraction → List (ℕ × Fraction)
formed_then g i n now average = (n, product (discount g i) average) ∷ (n, now) ∷ (n, plus now (product (discount g i) average)) ∷ []
