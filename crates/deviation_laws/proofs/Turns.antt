-- Plans in a row, and the same in a list.
use Rattle.std.proofs.Common.{◌≡◌, ℕ, zero, suc, ◌<◌, List, [], ◌∷◌, length, get_or, refl, ap, subst, arith, Vec}
use Rattle.std.specs.Prelude.{◌↔◌, slice_index}
use Rattle.std.specs.Global.{Global}
use Rattle.game_model.specs.Game.{DynamicGame, counts}
use Rattle.game_model.specs.SelfGeneration.{Correspondence, entry_at}
use Rattle.deviation_laws.specs.declared.plan.DevPlan.{DevPlan, Stop, Row_of-DevPlan, end_of-DevPlan, more_of-DevPlan, items-the_row-DevPlan}
use Rattle.deviation_laws.specs.declared.plan.DevPlan.TheBlock.{hidden-the_row-DevPlan-0, items_hidden-the_row-DevPlan-0}
use Rattle.deviation_laws.specs.declared.plan.DevPlan.TheViews.{Play}
use Rattle.deviation_laws.specs.Plans.{Fits, FitEach, state_after, outcomes_after}
use Rattle.deviation_laws.specs.Lists.{FitInTurn}

-- one plan more in front
one_more : (g : DynamicGame) (c : Correspondence) (i t : ℕ) (o : ℕ × ℕ) (os : List (ℕ × ℕ)) (plan : DevPlan) (plans : List DevPlan) → Fits g c i t o.0 plan → FitInTurn g c i t os plans → FitInTurn g c i t (o ∷ os) (plan ∷ plans)
one_more g c i t o os plan plans fits rest = (ap suc rest.0, each)
  where
    each : (j : ℕ) → j < suc (length plans) → Fits g c i t (get_or {A = ℕ × ℕ} (o ∷ os) j (0, 0)).0 (get_or {A = DevPlan} (plan ∷ plans) j Stop)
    each zero h = fits
    each (suc j) h = rest.1 j (omega arith)

pub in_turn : (g : DynamicGame) (c : Correspondence) (i t : ℕ) (os : List (ℕ × ℕ)) (m : _) (plans : Row_of-DevPlan m) → FitEach g c i t os plans → FitInTurn g c i t os (items-the_row-DevPlan m plans)
in_turn g c i t [] m end_of-DevPlan fits = (refl, λ j h. absurd (omega arith))
in_turn g c i t [] m (more_of-DevPlan plan plans) fits = absurd fits
in_turn g c i t (o ∷ os) m end_of-DevPlan fits = absurd fits
in_turn g c i t (o ∷ os) m (more_of-DevPlan {n = n} plan plans) fits = one_more g c i t o os plan (items-the_row-DevPlan n plans) fits.0 (in_turn g c i t os n plans fits.1)

pub in_row : (g : DynamicGame) (c : Correspondence) (i t : ℕ) (os : List (ℕ × ℕ)) (m : _) (plans : Row_of-DevPlan m) → FitInTurn g c i t os (items-the_row-DevPlan m plans) → FitEach g c i t os plans
in_row g c i t [] m end_of-DevPlan fits = tt
in_row g c i t [] m (more_of-DevPlan plan plans) fits = absurd (omega (arith, fits.0))
in_row g c i t (o ∷ os) m end_of-DevPlan fits = absurd (omega (arith, fits.0))
in_row g c i t (o ∷ os) m (more_of-DevPlan {n = n} plan plans) fits =
    let count : suc (length (items-the_row-DevPlan n plans)) ≡ suc (length os) = fits.0 in
    (fits.1 0 (omega arith), in_row g c i t os n plans (omega arith, λ j h. fits.1 (suc j) (omega arith)))

-- a plan that is held in a list, as the program reads it
pub fits_play : (g : DynamicGame) (c : Correspondence) (i s k b : ℕ) (plans : Vec DevPlan Global) (r : Type 0) → b < slice_index (counts g s) i →
    r ↔ FitInTurn g c i (state_after g s (entry_at c s k) i b) (outcomes_after g s (entry_at c s k) i b) plans.items → r ↔ Fits g c i s k (Play b plans)
fits_play g c i s k b plans r within h =
    let e : items-the_row-DevPlan _ (hidden-the_row-DevPlan-0 plans) ≡ plans.items = items_hidden-the_row-DevPlan-0 plans in (
      (λ x. (within, in_row g c i (state_after g s (entry_at c s k) i b) (outcomes_after g s (entry_at c s k) i b) _ (hidden-the_row-DevPlan-0 plans) (rw e (h.0 x)))),
      (λ f. h.1 (subst (λ (ps : List DevPlan). FitInTurn g c i (state_after g s (entry_at c s k) i b) (outcomes_after g s (entry_at c s k) i b) ps) e
          (in_turn g c i (state_after g s (entry_at c s k) i b) (outcomes_after g s (entry_at c s k) i b) _ (hidden-the_row-DevPlan-0 plans) f.1))),
    )
