-- Plans of deviations of one player, and what they are worth to the player. The other players follow the entries.
use Rattle.std.specs.Prelude.{ℕ, suc, max, ◌-◌, ◌*◌, ◌<◌, List, [], ◌∷◌, length, slice_index, nat_eq, if◌then◌else◌, ℤ, pos, ◌*ℤ◌, ◌≤ℤ◌, ◌<ℤ◌}
use Rattle.game_model.specs.Game.{DynamicGame, states, counts, payoff_at, successor, strategy_at, deviation_at}
use Rattle.game_model.specs.SelfGeneration.{Correspondence, Entry, entries_of, entry_at, part, total_weight, punishment, profile_of}
use Rattle.deviation_laws.specs.declared.plan.DevPlan.{DevPlan, Stop, Play', Row_of-DevPlan, end_of-DevPlan, more_of-DevPlan}
use Rattle.deviation_laws.specs.Fractions.{Fraction, whole, plus, times, divided_by}

-- the profile where player i plays b, which is the entry's own strategy or another, and the state that follows
abbrev pub profile_after : DynamicGame → ℕ → Entry → ℕ → ℕ → ℕ
profile_after g s e i b = deviation_at g s (profile_of g s e) i b

abbrev pub state_after : DynamicGame → ℕ → Entry → ℕ → ℕ → ℕ
state_after g s e i b = successor g s (profile_after g s e i b)

-- the entries that may follow, with their weights: those of the lottery after the entry's own strategy, and else the punishing one
abbrev pub outcomes_after : DynamicGame → ℕ → Entry → ℕ → ℕ → List (ℕ × ℕ)
outcomes_after g s e i b = if nat_eq b (strategy_at g s (profile_of g s e) i) then e.lottery else ((punishment g s e i b, 1) ∷ [])

-- Each strategy is in range, and there is one plan for each entry that may follow, which fits there.
abbrev mutual
  pub Fits : DynamicGame → Correspondence → ℕ → ℕ → ℕ → DevPlan → Type 0
  Fits g c i s k Stop = Unit {0}
  Fits g c i s k (Play' b shape plans) = (b < slice_index (counts g s) i) × FitEach g c i (state_after g s (entry_at c s k) i b) (outcomes_after g s (entry_at c s k) i b) plans

  pub FitEach : DynamicGame → Correspondence → ℕ → ℕ → List (ℕ × ℕ) → {m : _} → Row_of-DevPlan m → Type 0
  FitEach g c i t [] end_of-DevPlan = Unit {0}
  FitEach g c i t [] (more_of-DevPlan plan plans) = ⊥
  FitEach g c i t (o ∷ os) end_of-DevPlan = ⊥
  FitEach g c i t (o ∷ os) (more_of-DevPlan plan plans) = Fits g c i t o.0 plan × FitEach g c i t os plans

-- The worth of a plan of player i at entry k of state s, in the units of the entries' parts: the entry's part where the plan
-- stops, and else (1 - d_i) * payoff + d_i * (average of what the plans are worth that follow).
abbrev mutual
  pub worth : DynamicGame → Correspondence → ℕ → ℕ → ℕ → DevPlan → Fraction
  worth g c i s k Stop = whole (part (entry_at c s k).point i)
  worth g c i s k (Play' b shape plans) =
      divided_by (pos g.q) (plus
      (whole (pos ((g.q - slice_index g.discounts i) * c.scale) *ℤ payoff_at g s (profile_after g s (entry_at c s k) i b) i))
      (times (pos (slice_index g.discounts i)) (divided_by (pos (total_weight (outcomes_after g s (entry_at c s k) i b)))
      (worth_of_each g c i (state_after g s (entry_at c s k) i b) (outcomes_after g s (entry_at c s k) i b) plans))))

  -- the sum of weight times worth, over the entries that may follow
  pub worth_of_each : DynamicGame → Correspondence → ℕ → ℕ → List (ℕ × ℕ) → {m : _} → Row_of-DevPlan m → Fraction
  worth_of_each g c i t [] plans = whole (pos 0)
  worth_of_each g c i t (o ∷ os) end_of-DevPlan = whole (pos 0)
  worth_of_each g c i t (o ∷ os) (more_of-DevPlan plan plans) = plus (times (pos o.1) (worth g c i t o.0 plan)) (worth_of_each g c i t os plans)

-- the number of periods that a plan plays at most
abbrev mutual
  pub depth_of : DevPlan → ℕ
  depth_of Stop = 0
  depth_of (Play' b shape plans) = suc (greatest_depth plans)

  pub greatest_depth : {m : _} → Row_of-DevPlan m → ℕ
  greatest_depth end_of-DevPlan = 0
  greatest_depth (more_of-DevPlan plan plans) = max (depth_of plan) (greatest_depth plans)

-- a fraction over a positive denominator that is at most x
pub record IsAtMostPart (f : Fraction) (x : ℤ) : Type 0 where
  pub positive : pos 0 <ℤ f.den
  pub at_most : f.num ≤ℤ (x *ℤ f.den)

-- Whatever plan fits at whatever entry, for whichever player: its worth is at most the player's part of the entry.
abbrev pub NoPlanGains : DynamicGame → Correspondence → Type 0
NoPlanGains g c = (i s k : ℕ) (plan : DevPlan) → i < g.players → s < states g → k < length (entries_of c s) → Fits g c i s k plan → IsAtMostPart (worth g c i s k plan) (part (entry_at c s k).point i)
