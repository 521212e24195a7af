-- A plan that plays: its plans in a row and in a list, and what it is worth by its parts.
use Rattle.std.proofs.Common.{◌≡◌, ℕ, suc, ◌+◌, ◌-◌, ◌*◌, ◌<◌, ◌≤◌, ◌++◌, List, [], ◌∷◌, length, get_or, Result, Ok, Err, refl, ap, sym, subst, ◌∙◌, arith, Vec}
use Rattle.std.specs.Prelude.{ℤ, pos, neg_ℤ, ◌+ℤ◌, ◌*ℤ◌, ◌<ℤ◌, slice_index}
use Rattle.std.specs.Global.{Global}
use Rattle.std.proofs.lemmas.Int.{ints}
use Rattle.exact_algebra.specs.Poly.{var, lit, ◌⊕◌, ◌⊗◌}
use Rattle.exact_algebra.proofs.Normal.{ring}
use Rattle.exact_algebra.proofs.Order.{product_above_zero}
use Rattle.game_model.specs.Game.{DynamicGame, IsGame, states, counts, payoff_at}
use Rattle.game_model.specs.SelfGeneration.{Correspondence, IsSelfGenerating, entries_of, entry_at, part, total_weight}
use Rattle.pay_frac.specs.Ratio.{Ratio, IsLowest, Equals}
use Rattle.deviation_laws.specs.declared.gains.GainBeyond.{GainBeyond}
use Rattle.deviation_laws.specs.declared.plan.DevPlan.{DevPlan, Stop, Row_of-DevPlan, end_of-DevPlan, more_of-DevPlan, items-the_row-DevPlan}
use Rattle.deviation_laws.specs.declared.plan.DevPlan.TheBlock.{hidden-the_row-DevPlan-0, items_hidden-the_row-DevPlan-0}
use Rattle.deviation_laws.specs.declared.plan.DevPlan.TheViews.{Play}
use Rattle.deviation_laws.specs.Fractions.{Fraction, whole, plus, times, divided_by, product}
use Rattle.deviation_laws.specs.Gains.{units, value_of, gain_of, discount, now_share, weighed, formed, formed_each, all_formed, IsFirstBeyond, Answers}
use Rattle.deviation_laws.specs.Lists.{FitInTurn, worth_in_turn, formed_in_turn, formed_then, held}
use Rattle.deviation_laws.specs.Plans.{Fits, worth, worth_of_each, depth_of, profile_after, state_after, outcomes_after}
use Rattle.deviation_laws.proofs.Depths.{depth_each}
use Rattle.deviation_laws.proofs.Outcomes.{discount_positive}
use Rattle.deviation_laws.proofs.Periods.{AllPositive, same_scaled, units_positive}
use Rattle.deviation_laws.proofs.Turns.{in_turn}
use Rattle.deviation_laws.proofs.Values.{Same, IsPositive, same_trans, product_along, plus_along, beyond_before, err_answers, KeptAs, last_kept, Alike, small_alike, beyond_alike, answers_along, answers_after}
use Rattle.deviation_laws.proofs.Worths.{plan_at_most}

pub play_fits : (g : DynamicGame) (c : Correspondence) (i s k b : ℕ) (plans : Vec DevPlan Global) → Fits g c i s k (Play b plans) →
    FitInTurn g c i (state_after g s (entry_at c s k) i b) (outcomes_after g s (entry_at c s k) i b) plans.items
play_fits g c i s k b plans f =
    subst (λ (ps : List DevPlan). FitInTurn g c i (state_after g s (entry_at c s k) i b) (outcomes_after g s (entry_at c s k) i b) ps) (items_hidden-the_row-DevPlan-0 plans)
    (in_turn g c i (state_after g s (entry_at c s k) i b) (outcomes_after g s (entry_at c s k) i b) _ (hidden-the_row-DevPlan-0 plans) f.1)

pub play_strategy : (g : DynamicGame) (c : Correspondence) (i s k b : ℕ) (plans : Vec DevPlan Global) → Fits g c i s k (Play b plans) → b < slice_index (counts g s) i
play_strategy g c i s k b plans f = f.0

pub play_depth : (n m b : ℕ) (plans : Vec DevPlan Global) → n + depth_of (Play b plans) < m → (j : ℕ) → j < length plans.items → n + 1 + depth_of (get_or plans.items j Stop) < m
play_depth n m b plans h j k =
    let d : depth_of (get_or plans.items j Stop) ≤ depth_of (Play b plans) - 1 = depth_each b plans (depth_of (Play b plans) - 1) (omega arith) j k in
    let e : 0 < depth_of (Play b plans) = omega arith in
    omega (arith, h, d, e)

pub all_positive : (g : DynamicGame) (c : Correspondence) (i : ℕ) → IsGame g → IsSelfGenerating g c → i < g.players → (t : ℕ) → t < states g → (os : List (ℕ × ℕ)) (plans : List DevPlan) →
    ((j : ℕ) → j < length os → (get_or os j (0, 0)).0 < length (entries_of c t)) → FitInTurn g c i t os plans → AllPositive g c i t os plans
all_positive g c i ok self player t state os plans known fit k h =
    (plan_at_most g c i ok self player t (get_or os k (0, 0)).0 state (known k (omega (arith, fit.0))) (get_or plans k Stop) (fit.1 k h)).positive

row_worth : (g : DynamicGame) (c : Correspondence) (i t : ℕ) (os : List (ℕ × ℕ)) (m : _) (plans : Row_of-DevPlan m) → worth_of_each g c i t os plans ≡ worth_in_turn g c i t os (items-the_row-DevPlan m plans)
row_worth g c i t [] m plans = refl
row_worth g c i t (o ∷ os) m end_of-DevPlan = refl
row_worth g c i t (o ∷ os) m (more_of-DevPlan {n = n} plan plans) = ap (λ (x : Fraction). plus (times (pos o.1) (worth g c i t o.0 plan)) x) (row_worth g c i t os n plans)

row_formed : (g : DynamicGame) (c : Correspondence) (i n t total : ℕ) (before : Fraction) (os : List (ℕ × ℕ)) (m : _) (plans : Row_of-DevPlan m) →
    formed_each g c i n t total before os plans ≡ formed_in_turn g c i n t total before os (items-the_row-DevPlan m plans)
row_formed g c i n t total before [] m plans = refl
row_formed g c i n t total before (o ∷ os) m end_of-DevPlan = refl
row_formed g c i n t total before (o ∷ os) m (more_of-DevPlan {n = l} plan plans) =
    ap (λ (xs : List (ℕ × Fraction)). formed g c i (suc n) t o.0 plan ++ ((n, record { num = pos o.1; den = pos total }) ∷ (n, weighed o.1 total (value_of g c i t o.0 plan)) ∷ (n, plus before (weighed o.1 total (value_of g c i t o.0 plan))) ∷ xs))
    (row_formed g c i n t total (plus before (weighed o.1 total (value_of g c i t o.0 plan))) os l plans)

-- ---- by the list that the program reads
abbrev pub value_by : DynamicGame → Correspondence → ℕ → ℕ → ℕ → ℕ → Fraction → Fraction
value_by g c i s k b x =
    divided_by (units g c) (divided_by (pos g.q) (plus
    (whole (pos ((g.q - slice_index g.discounts i) * c.scale) *ℤ payoff_at g s (profile_after g s (entry_at c s k) i b) i))
    (times (pos (slice_index g.discounts i)) (divided_by (pos (total_weight (outcomes_after g s (entry_at c s k) i b))) x))))

abbrev pub formed_by : DynamicGame → Correspondence → ℕ → ℕ → ℕ → ℕ → ℕ → List (ℕ × Fraction) → Fraction → List (ℕ × Fraction)
formed_by g c i n s k b xs x =
    xs ++ ((n, product (discount g i) (divided_by (units g c) (divided_by (pos (total_weight (outcomes_after g s (entry_at c s k) i b))) x)))
    ∷ (n, now_share g s (profile_after g s (entry_at c s k) i b) i)
    ∷ (n, value_by g c i s k b x) ∷ [])

-- the answers for a plan that plays, from those for its list
pub play_answers : (g : DynamicGame) (c : Correspondence) (i n s k b : ℕ) (plans : Vec DevPlan Global) (r : Result Ratio GainBeyond) →
    Answers (formed_by g c i n s k b
    (formed_in_turn g c i n (state_after g s (entry_at c s k) i b) (total_weight (outcomes_after g s (entry_at c s k) i b)) (whole (pos 0)) (outcomes_after g s (entry_at c s k) i b) plans.items)
    (worth_in_turn g c i (state_after g s (entry_at c s k) i b) (outcomes_after g s (entry_at c s k) i b) plans.items))
    (value_by g c i s k b (worth_in_turn g c i (state_after g s (entry_at c s k) i b) (outcomes_after g s (entry_at c s k) i b) plans.items)) r →
    Answers (formed g c i n s k (Play b plans)) (value_of g c i s k (Play b plans)) r
play_answers g c i n s k b plans r h =
    let e : items-the_row-DevPlan _ (hidden-the_row-DevPlan-0 plans) ≡ plans.items = items_hidden-the_row-DevPlan-0 plans in
    let w : worth_in_turn g c i (state_after g s (entry_at c s k) i b) (outcomes_after g s (entry_at c s k) i b) plans.items ≡ worth_of_each g c i (state_after g s (entry_at c s k) i b) (outcomes_after g s (entry_at c s k) i b) (hidden-the_row-DevPlan-0 plans) =
    sym (row_worth g c i (state_after g s (entry_at c s k) i b) (outcomes_after g s (entry_at c s k) i b) _ (hidden-the_row-DevPlan-0 plans)
    ∙ ap (λ (ps : List DevPlan). worth_in_turn g c i (state_after g s (entry_at c s k) i b) (outcomes_after g s (entry_at c s k) i b) ps) e) in
    let f : formed_in_turn g c i n (state_after g s (entry_at c s k) i b) (total_weight (outcomes_after g s (entry_at c s k) i b)) (whole (pos 0)) (outcomes_after g s (entry_at c s k) i b) plans.items
    ≡ formed_each g c i n (state_after g s (entry_at c s k) i b) (total_weight (outcomes_after g s (entry_at c s k) i b)) (whole (pos 0)) (outcomes_after g s (entry_at c s k) i b) (hidden-the_row-DevPlan-0 plans) =
    sym (row_formed g c i n (state_after g s (entry_at c s k) i b) (total_weight (outcomes_after g s (entry_at c s k) i b)) (whole (pos 0)) (outcomes_after g s (entry_at c s k) i b) _ (hidden-the_row-DevPlan-0 plans)
    ∙ ap (λ (ps : List DevPlan). formed_in_turn g c i n (state_after g s (entry_at c s k) i b) (total_weight (outcomes_after g s (entry_at c s k) i b)) (whole (pos 0)) (outcomes_after g s (entry_at c s k) i b) ps) e) in
    subst (λ (x : Fraction). Answers (formed_by g c i n s k b
    (formed_each g c i n (state_after g s (entry_at c s k) i b) (total_weight (outcomes_after g s (entry_at c s k) i b)) (whole (pos 0)) (outcomes_after g s (entry_at c s k) i b) (hidden-the_row-DevPlan-0 plans)) x) (value_by g c i s k b x) r) w
    (subst (λ (xs : List (ℕ × Fraction)). Answers (formed_by g c i n s k b xs
    (worth_in_turn g c i (state_after g s (entry_at c s k) i b) (outcomes_after g s (entry_at c s k) i b) plans.items))
    (value_by g c i s k b (worth_in_turn g c i (state_after g s (entry_at c s k) i b) (outcomes_after g s (entry_at c s k) i b) plans.items)) r) f h)

-- the payoff of the period and the discounted average make the value
period_value : (d q scale rest : ℕ) (denominator u total : ℤ) (x : Fraction) →
    Same (plus (record { num = pos rest *ℤ u; den = pos q *ℤ denominator }) (product (record { num = pos d; den = pos q }) (divided_by (pos scale *ℤ denominator) (divided_by total x))))
    (divided_by (pos scale *ℤ denominator) (divided_by (pos q) (plus (whole (pos (rest * scale) *ℤ u)) (times (pos d) (divided_by total x)))))
period_value d q scale rest denominator u total x =
    same_scaled
    (plus (record { num = pos rest *ℤ u; den = pos q *ℤ denominator }) (product (record { num = pos d; den = pos q }) (divided_by (pos scale *ℤ denominator) (divided_by total x))))
    (divided_by (pos scale *ℤ denominator) (divided_by (pos q) (plus (whole (pos (rest * scale) *ℤ u)) (times (pos d) (divided_by total x))))) (pos q *ℤ denominator)
    (ring (pos d ∷ pos q ∷ pos scale ∷ pos rest ∷ denominator ∷ u ∷ total ∷ x.num ∷ x.den ∷ [])
    (((var 3 ⊗ var 5) ⊗ (var 1 ⊗ ((var 2 ⊗ var 4) ⊗ (var 6 ⊗ var 8)))) ⊕ ((var 0 ⊗ var 7) ⊗ (var 1 ⊗ var 4)))
    ((var 1 ⊗ var 4) ⊗ ((((var 3 ⊗ var 2) ⊗ var 5) ⊗ (var 6 ⊗ var 8)) ⊕ ((var 0 ⊗ var 7) ⊗ lit (pos 1)))) refl)
    (ring (pos q ∷ pos scale ∷ denominator ∷ total ∷ x.den ∷ [])
    ((var 0 ⊗ var 2) ⊗ (var 0 ⊗ ((var 1 ⊗ var 2) ⊗ (var 3 ⊗ var 4))))
    ((var 0 ⊗ var 2) ⊗ ((var 1 ⊗ var 2) ⊗ (var 0 ⊗ (lit (pos 1) ⊗ (var 3 ⊗ var 4))))) refl)

pub period_answers : (g : DynamicGame) (c : Correspondence) (i n s k b : ℕ) (xs : List (ℕ × Fraction)) (x : Fraction) (now average : Ratio) (r : Result Ratio GainBeyond) →
    0 < g.q → pos 0 <ℤ g.denominator → pos 0 <ℤ units g c → 0 < total_weight (outcomes_after g s (entry_at c s k) i b) → IsPositive x →
    IsLowest now → Equals now (now_share g s (profile_after g s (entry_at c s k) i b) i).num (now_share g s (profile_after g s (entry_at c s k) i b) i).den →
    Answers xs (divided_by (units g c) (divided_by (pos (total_weight (outcomes_after g s (entry_at c s k) i b))) x)) (Ok average) →
    Answers (formed_then g i n (held now) (held average)) (plus (held now) (product (discount g i) (held average))) r →
    Answers (formed_by g c i n s k b xs x) (value_by g c i s k b x) r
period_answers g c i n s k b xs x now average r some denominator u weights p low equal before after =
    let tx : pos 0 <ℤ (pos (total_weight (outcomes_after g s (entry_at c s k) i b)) *ℤ x.den) = product_above_zero (pos (total_weight (outcomes_after g s (entry_at c s k) i b))) x.den (omega (arith, ints)) p in
    let yp : IsPositive (divided_by (units g c) (divided_by (pos (total_weight (outcomes_after g s (entry_at c s k) i b))) x)) =
    product_above_zero (units g c) (pos (total_weight (outcomes_after g s (entry_at c s k) i b)) *ℤ x.den) u tx in
    let zp : IsPositive (now_share g s (profile_after g s (entry_at c s k) i b) i) = product_above_zero (pos g.q) g.denominator (omega (arith, ints)) denominator in
    let ap1 : IsPositive (product (discount g i) (held average)) = discount_positive g i (held average) some before.1.positive in
    let yq : IsPositive (product (discount g i) (divided_by (units g c) (divided_by (pos (total_weight (outcomes_after g s (entry_at c s k) i b))) x))) =
    discount_positive g i (divided_by (units g c) (divided_by (pos (total_weight (outcomes_after g s (entry_at c s k) i b))) x)) some yp in
    let later : Same (product (discount g i) (held average)) (product (discount g i) (divided_by (units g c) (divided_by (pos (total_weight (outcomes_after g s (entry_at c s k) i b))) x))) =
    product_along (discount g i) (held average) (discount g i) (divided_by (units g c) (divided_by (pos (total_weight (outcomes_after g s (entry_at c s k) i b))) x)) refl before.2 in
    let lp : IsPositive (plus (held now) (product (discount g i) (held average))) = product_above_zero now.den (pos g.q *ℤ average.den) low.positive ap1 in
    let mp : IsPositive (plus (now_share g s (profile_after g s (entry_at c s k) i b) i) (product (discount g i) (divided_by (units g c) (divided_by (pos (total_weight (outcomes_after g s (entry_at c s k) i b))) x)))) =
    product_above_zero (pos g.q *ℤ g.denominator) (pos g.q *ℤ (units g c *ℤ (pos (total_weight (outcomes_after g s (entry_at c s k) i b)) *ℤ x.den))) zp yq in
    let vp : IsPositive (value_by g c i s k b x) =
    product_above_zero (units g c) (pos g.q *ℤ (pos 1 *ℤ (pos (total_weight (outcomes_after g s (entry_at c s k) i b)) *ℤ x.den))) u
    (product_above_zero (pos g.q) (pos 1 *ℤ (pos (total_weight (outcomes_after g s (entry_at c s k) i b)) *ℤ x.den)) (omega (arith, ints))
    (product_above_zero (pos 1) (pos (total_weight (outcomes_after g s (entry_at c s k) i b)) *ℤ x.den) (omega (arith, ints)) tx)) in
    let sum : Same (plus (held now) (product (discount g i) (held average))) (value_by g c i s k b x) =
    same_trans (plus (held now) (product (discount g i) (held average)))
    (plus (now_share g s (profile_after g s (entry_at c s k) i b) i) (product (discount g i) (divided_by (units g c) (divided_by (pos (total_weight (outcomes_after g s (entry_at c s k) i b))) x))))
    (value_by g c i s k b x) mp
    (plus_along (held now) (product (discount g i) (held average)) (now_share g s (profile_after g s (entry_at c s k) i b) i)
    (product (discount g i) (divided_by (units g c) (divided_by (pos (total_weight (outcomes_after g s (entry_at c s k) i b))) x))) equal later)
    (period_value (slice_index g.discounts i) g.q c.scale (g.q - slice_index g.discounts i) g.denominator (payoff_at g s (profile_after g s (entry_at c s k) i b) i) (pos (total_weight (outcomes_after g s (entry_at c s k) i b))) x) in
    let like : Alike (formed_then g i n (held now) (held average))
    ((n, product (discount g i) (divided_by (units g c) (divided_by (pos (total_weight (outcomes_after g s (entry_at c s k) i b))) x)))
    ∷ (n, now_share g s (profile_after g s (entry_at c s k) i b) i) ∷ (n, value_by g c i s k b x) ∷ []) =
    (refl, ap1, yq, later, (refl, low.positive, zp, equal, (refl, lp, vp, sum, refl))) in
    answers_after xs ((n, product (discount g i) (divided_by (units g c) (divided_by (pos (total_weight (outcomes_after g s (entry_at c s k) i b))) x)))
    ∷ (n, now_share g s (profile_after g s (entry_at c s k) i b) i) ∷ (n, value_by g c i s k b x) ∷ []) (value_by g c i s k b x) r before.0
    (answers_along (formed_then g i n (held now) (held average))
    ((n, product (discount g i) (divided_by (units g c) (divided_by (pos (total_weight (outcomes_after g s (entry_at c s k) i b))) x)))
    ∷ (n, now_share g s (profile_after g s (entry_at c s k) i b) i) ∷ (n, value_by g c i s k b x) ∷ [])
    (plus (held now) (product (discount g i) (held average))) (value_by g c i s k b x) r lp sum
    (small_alike (formed_then g i n (held now) (held average))
    ((n, product (discount g i) (divided_by (units g c) (divided_by (pos (total_weight (outcomes_after g s (entry_at c s k) i b))) x)))
    ∷ (n, now_share g s (profile_after g s (entry_at c s k) i b) i) ∷ (n, value_by g c i s k b x) ∷ []) like)
    (λ m. beyond_alike (formed_then g i n (held now) (held average))
    ((n, product (discount g i) (divided_by (units g c) (divided_by (pos (total_weight (outcomes_after g s (entry_at c s k) i b))) x)))
    ∷ (n, now_share g s (profile_after g s (entry_at c s k) i b) i) ∷ (n, value_by g c i s k b x) ∷ []) m like)
    after)

pub play_fails : (g : DynamicGame) (c : Correspondence) (i n s k b : ℕ) (plans : Vec DevPlan Global) (e : GainBeyond) (r : Result Ratio GainBeyond) → r ≡ Err e →
    IsFirstBeyond (formed_in_turn g c i n (state_after g s (entry_at c s k) i b) (total_weight (outcomes_after g s (entry_at c s k) i b)) (whole (pos 0)) (outcomes_after g s (entry_at c s k) i b) plans.items) e.depth →
    Answers (formed g c i n s k (Play b plans)) (value_of g c i s k (Play b plans)) r
play_fails g c i n s k b plans e r h beyond =
    let xs : List (ℕ × Fraction) = formed_in_turn g c i n (state_after g s (entry_at c s k) i b) (total_weight (outcomes_after g s (entry_at c s k) i b)) (whole (pos 0)) (outcomes_after g s (entry_at c s k) i b) plans.items in
    let x : Fraction = worth_in_turn g c i (state_after g s (entry_at c s k) i b) (outcomes_after g s (entry_at c s k) i b) plans.items in
    play_answers g c i n s k b plans r
    (err_answers
    (formed_by g c i n s k b
    (formed_in_turn g c i n (state_after g s (entry_at c s k) i b) (total_weight (outcomes_after g s (entry_at c s k) i b)) (whole (pos 0)) (outcomes_after g s (entry_at c s k) i b) plans.items)
    (worth_in_turn g c i (state_after g s (entry_at c s k) i b) (outcomes_after g s (entry_at c s k) i b) plans.items))
    (value_by g c i s k b (worth_in_turn g c i (state_after g s (entry_at c s k) i b) (outcomes_after g s (entry_at c s k) i b) plans.items)) e r h
    (beyond_before xs ((n, product (discount g i) (divided_by (units g c) (divided_by (pos (total_weight (outcomes_after g s (entry_at c s k) i b))) x)))
    ∷ (n, now_share g s (profile_after g s (entry_at c s k) i b) i) ∷ (n, value_by g c i s k b x) ∷ []) e.depth beyond))

pub stop_equal : (f : Ratio) (z u : ℤ) → Equals f z u → Equals f z (u *ℤ pos 1)
stop_equal f z u h = ring (f.num ∷ u ∷ []) (var 0 ⊗ (var 1 ⊗ lit (pos 1))) (var 0 ⊗ var 1) refl ∙ h

-- ---- the gain of a plan
pub gain_answers : (g : DynamicGame) (c : Correspondence) (i : ℕ) → IsGame g → IsSelfGenerating g c → i < g.players → (s k : ℕ) → s < states g → k < length (entries_of c s) → (plan : DevPlan) → Fits g c i s k plan →
    (v part_less new : Ratio) (r : Result Ratio GainBeyond) → Answers (formed g c i 0 s k plan) (value_of g c i s k plan) (Ok v) →
    IsLowest part_less → Equals part_less (neg_ℤ (part (entry_at c s k).point i)) (units g c) →
    IsLowest new → Equals new ((v.num *ℤ part_less.den) +ℤ (part_less.num *ℤ v.den)) (v.den *ℤ part_less.den) → KeptAs new 0 r →
    Answers (all_formed g c i s k plan) (gain_of g c i s k plan) r
gain_answers g c i ok self player s k state within plan fits v part_less new r known low equal low' h kept =
    let u : pos 0 <ℤ units g c = units_positive g c ok self.scaled in
    let p : IsPositive (value_of g c i s k plan) = product_above_zero (units g c) (worth g c i s k plan).den u (plan_at_most g c i ok self player s k state within plan fits).positive in
    last_kept (formed g c i 0 s k plan) 0 (gain_of g c i s k plan) new r (product_above_zero (value_of g c i s k plan).den (units g c) p u) known.0 low'
    (same_trans (held new) (plus (held v) (held part_less)) (gain_of g c i s k plan) (product_above_zero v.den part_less.den known.1.positive low.positive) h
    (plus_along (held v) (held part_less) (value_of g c i s k plan) (record { num = neg_ℤ (part (entry_at c s k).point i); den = units g c }) known.2 equal))
    kept

pub gain_positive : (g : DynamicGame) (c : Correspondence) (i : ℕ) → IsGame g → IsSelfGenerating g c → i < g.players → (s k : ℕ) → s < states g → k < length (entries_of c s) → (plan : DevPlan) → Fits g c i s k plan →
    IsPositive (gain_of g c i s k plan)
gain_positive g c i ok self player s k state within plan fits =
    let u : pos 0 <ℤ units g c = units_positive g c ok self.scaled in
    product_above_zero (value_of g c i s k plan).den (units g c) (product_above_zero (units g c) (worth g c i s k plan).den u (plan_at_most g c i ok self player s k state within plan fits).positive) u
