-- How many periods the plans of a row play, and those of the same in a list.
use Rattle.std.proofs.Common.{◌≡◌, ℕ, zero, suc, ◌-◌, ◌<◌, ◌≤◌, List, ◌∷◌, length, get_or, max, subst, arith, Vec}
use Rattle.std.specs.Prelude.{◌↔◌}
use Rattle.std.specs.Global.{Global}
use Rattle.deviation_laws.specs.declared.plan.DevPlan.{DevPlan, Stop, Row_of-DevPlan, end_of-DevPlan, more_of-DevPlan, items-the_row-DevPlan}
use Rattle.deviation_laws.specs.declared.plan.DevPlan.TheBlock.{hidden-the_row-DevPlan-0, items_hidden-the_row-DevPlan-0}
use Rattle.deviation_laws.specs.declared.plan.DevPlan.TheViews.{Play}
use Rattle.deviation_laws.specs.Plans.{depth_of, greatest_depth}

abbrev pub AllAtMost : List DevPlan → ℕ → Type 0
AllAtMost plans n = (j : ℕ) → j < length plans → depth_of (get_or plans j Stop) ≤ n

max_left : (a b n : ℕ) → max a b ≤ n → a ≤ n
max_left a b n h = omega (arith, h)

max_right : (a b n : ℕ) → max a b ≤ n → b ≤ n
max_right a b n h = omega (arith, h)

max_both : (a b n : ℕ) → a ≤ n → b ≤ n → max a b ≤ n
max_both a b n h k = omega (arith, h, k)

one_more : (plan : DevPlan) (plans : List DevPlan) (n : ℕ) → depth_of plan ≤ n → AllAtMost plans n → AllAtMost (plan ∷ plans) n
one_more plan plans n h rest zero k = h
one_more plan plans n h rest (suc j) k = rest j (omega arith)

pub each_of_row : (m : _) (plans : Row_of-DevPlan m) (n : ℕ) → greatest_depth plans ≤ n → AllAtMost (items-the_row-DevPlan m plans) n
each_of_row m end_of-DevPlan n h = λ j k. absurd (omega arith)
each_of_row m (more_of-DevPlan {n = l} plan plans) n h =
    one_more plan (items-the_row-DevPlan l plans) n (max_left (depth_of plan) (greatest_depth plans) n h) (each_of_row l plans n (max_right (depth_of plan) (greatest_depth plans) n h))

pub row_of_each : (m : _) (plans : Row_of-DevPlan m) (n : ℕ) → AllAtMost (items-the_row-DevPlan m plans) n → greatest_depth plans ≤ n
row_of_each m end_of-DevPlan n h = omega arith
row_of_each m (more_of-DevPlan {n = l} plan plans) n h =
    max_both (depth_of plan) (greatest_depth plans) n (h 0 (omega arith)) (row_of_each l plans n (λ j k. h (suc j) (omega arith)))

-- a plan that is held in a list, as the program reads it
pub depth_each : (b : ℕ) (plans : Vec DevPlan Global) (n : ℕ) → depth_of (Play b plans) ≤ suc n → AllAtMost plans.items n
depth_each b plans n h =
    let e : items-the_row-DevPlan _ (hidden-the_row-DevPlan-0 plans) ≡ plans.items = items_hidden-the_row-DevPlan-0 plans in
    subst (λ (ps : List DevPlan). AllAtMost ps n) e (each_of_row _ (hidden-the_row-DevPlan-0 plans) n (omega (arith, h)))

pub depth_play : (b : ℕ) (plans : Vec DevPlan Global) (n : ℕ) (r : Type 0) → 0 < n → r ↔ AllAtMost plans.items (n - 1) → r ↔ (depth_of (Play b plans) ≤ n)
depth_play b plans n r some h =
    let e : items-the_row-DevPlan _ (hidden-the_row-DevPlan-0 plans) ≡ plans.items = items_hidden-the_row-DevPlan-0 plans in (
      (λ x. let k : greatest_depth (hidden-the_row-DevPlan-0 plans) ≤ n - 1 = row_of_each _ (hidden-the_row-DevPlan-0 plans) (n - 1) (rw e (h.0 x)) in omega (arith, k)),
      (λ d. h.1 (depth_each b plans (n - 1) (omega (arith, d)))),
    )
