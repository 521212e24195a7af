-- What a plan gains, and the fractions that are formed to find it.
use Rattle.std.specs.Prelude.{◌≡◌, ℕ, suc, ◌-◌, ◌⊎◌, List, [], ◌∷◌, ◌++◌, slice_index, ℤ, pos, ◌*ℤ◌, neg_ℤ, Result, Ok, Err}
use Rattle.game_model.specs.Game.{DynamicGame, payoff_at}
use Rattle.game_model.specs.SelfGeneration.{Correspondence, entry_at, part, total_weight}
use Rattle.pay_frac.specs.Ratio.{Ratio, IsLowest, IsSmall, Equals}
use Rattle.deviation_laws.specs.declared.gains.GainBeyond.{GainBeyond}
use Rattle.deviation_laws.specs.declared.plan.DevPlan.{DevPlan, Stop, Play', Row_of-DevPlan, end_of-DevPlan, more_of-DevPlan}
use Rattle.deviation_laws.specs.Fractions.{Fraction, whole, plus, divided_by, product}
use Rattle.deviation_laws.specs.Plans.{profile_after, state_after, outcomes_after, worth, worth_of_each}

-- how many units of the entries' parts one unit of the game is
abbrev pub units : DynamicGame → Correspondence → ℤ
units g c = pos c.scale *ℤ g.denominator

-- the worth of a plan, and the worth less the entry's part, in units of the game
abbrev pub value_of : DynamicGame → Correspondence → ℕ → ℕ → ℕ → DevPlan → Fraction
value_of g c i s k plan = divided_by (units g c) (worth g c i s k plan)

abbrev pub gain_of : DynamicGame → Correspondence → ℕ → ℕ → ℕ → DevPlan → Fraction
gain_of g c i s k plan = plus (value_of g c i s k plan) (record { num = neg_ℤ (part (entry_at c s k).point i); den = units g c })

-- the discount factor, and what is left of 1
abbrev pub discount : DynamicGame → ℕ → Fraction
discount g i = record { num = pos (slice_index g.discounts i); den = pos g.q }

-- (1 - d_i) * payoff
abbrev pub now_share : DynamicGame → ℕ → ℕ → ℕ → Fraction
now_share g s a i = record { num = pos (g.q - slice_index g.discounts i) *ℤ payoff_at g s a i; den = pos g.q *ℤ g.denominator }

-- an outcome's share of the weights, times a value
abbrev pub weighed : ℕ → ℕ → Fraction → Fraction
weighed w total x = product (record { num = pos w; den = pos total }) x

-- The fractions that are formed for a plan at depth n, in their order, each with the depth of the plan at which it is formed.
-- For each outcome: those of its plan, its share of the weights, this share times the value of its plan, and the sum so far.
-- Then the discounted sum, the payoff of the period, and the value of the plan. A plan that stops forms none.
abbrev mutual
  pub formed : DynamicGame → Correspondence → ℕ → ℕ → ℕ → ℕ → DevPlan → List (ℕ × Fraction)
  formed g c i n s k Stop = []
  formed g c i n s k (Play' b shape plans) =
      formed_each g c i n (state_after g s (entry_at c s k) i b) (total_weight (outcomes_after g s (entry_at c s k) i b)) (whole (pos 0)) (outcomes_after g s (entry_at c s k) i b) plans
      ++ ((
        n,
        product (discount g i) (divided_by (units g c) (divided_by (pos (total_weight (outcomes_after g s (entry_at c s k) i b)))
            (worth_of_each g c i (state_after g s (entry_at c s k) i b) (outcomes_after g s (entry_at c s k) i b) plans))),
      )
      ∷ (n, now_share g s (profile_after g s (entry_at c s k) i b) i)
      ∷ (n, value_of g c i s k (Play' b shape plans)) ∷ [])

  pub formed_each : DynamicGame → Correspondence → ℕ → ℕ → ℕ → ℕ → Fraction → List (ℕ × ℕ) → {m : _} → Row_of-DevPlan m → List (ℕ × Fraction)
  formed_each g c i n t total before [] plans = []
  formed_each g c i n t total before (o ∷ os) end_of-DevPlan = []
  formed_each g c i n t total before (o ∷ os) (more_of-DevPlan plan plans) =
      formed g c i (suc n) t o.0 plan
      ++ ((n, record { num = pos o.1; den = pos total })
      ∷ (n, weighed o.1 total (value_of g c i t o.0 plan))
      ∷ (n, plus before (weighed o.1 total (value_of g c i t o.0 plan)))
      ∷ formed_each g c i n t total (plus before (weighed o.1 total (value_of g c i t o.0 plan))) os plans)

-- all that are formed for a plan and its gain
abbrev pub all_formed : DynamicGame → Correspondence → ℕ → ℕ → ℕ → DevPlan → List (ℕ × Fraction)
all_formed g c i s k plan = formed g c i 0 s k plan ++ ((0, gain_of g c i s k plan) ∷ [])

-- in lowest terms both parts are at most 2^62 in absolute value
abbrev pub IsSmallValue : Fraction → Type 0
IsSmallValue x = (r : Ratio) × IsLowest r × Equals r x.num x.den × IsSmall r

abbrev pub AreSmall : List (ℕ × Fraction) → Type 0
AreSmall [] = Unit {0}
AreSmall (x ∷ xs) = IsSmallValue x.1 × AreSmall xs

-- the first fraction that isn't small is formed at depth n
abbrev pub IsFirstBeyond : List (ℕ × Fraction) → ℕ → Type 0
IsFirstBeyond [] n = ⊥
IsFirstBeyond (x ∷ xs) n = ((¬ IsSmallValue x.1) × (n ≡ x.0)) ⊎ (IsSmallValue x.1 × IsFirstBeyond xs n)

-- The answer x in lowest terms where all fractions are small, and else the depth of the first that isn't.
abbrev pub Answers : List (ℕ × Fraction) → Fraction → Result Ratio GainBeyond → Type 0
Answers xs x (Ok f) = AreSmall xs × IsLowest f × Equals f x.num x.den × IsSmall f
Answers xs x (Err e) = IsFirstBeyond xs e.depth
