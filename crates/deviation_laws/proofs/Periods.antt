-- What the plans of a period are worth together, outcome by outcome.
use Rattle.std.proofs.Common.{◌≡◌, ℕ, zero, suc, ◌+◌, ◌<◌, ◌≤◌, ◌++◌, List, [], ◌∷◌, length, get_or, Ok, refl, ap, sym, ◌∙◌, arith, unsigned_abs, add-one}
use Rattle.std.specs.Prelude.{ℤ, pos, ◌*ℤ◌, ◌<ℤ◌}
use Rattle.std.proofs.Math.ListN.{drop}
use Rattle.std.proofs.Math.Seq.{drop-cons}
use Rattle.std.proofs.lemmas.Int.{ints}
use Rattle.exact_algebra.specs.Poly.{var, lit, ◌⊕◌, ◌⊗◌}
use Rattle.exact_algebra.proofs.Normal.{ring}
use Rattle.exact_algebra.proofs.Order.{product_above_zero}
use Rattle.game_model.specs.Game.{DynamicGame, IsGame}
use Rattle.game_model.specs.SelfGeneration.{Correspondence, total_weight}
use Rattle.pay_frac.specs.Ratio.{Ratio, IsLowest, IsSmall, Equals}
use Rattle.deviation_laws.specs.declared.plan.DevPlan.{DevPlan, Stop}
use Rattle.deviation_laws.specs.Fractions.{Fraction, whole, plus, times, divided_by}
use Rattle.deviation_laws.specs.Gains.{units, value_of, weighed, formed, AreSmall, IsFirstBeyond, Answers}
use Rattle.deviation_laws.specs.Lists.{worth_in_turn, average_in_turn, formed_in_turn, held, formed_at}
use Rattle.deviation_laws.specs.Plans.{worth}
use Rattle.deviation_laws.proofs.Outcomes.{weighed_positive}
use Rattle.deviation_laws.proofs.Values.{Same, IsPositive, same_trans, product_along, plus_along, small_then, beyond_before, beyond_after, Alike, small_alike, beyond_alike}

pub same_scaled : (x y : Fraction) (k : ℤ) → x.num ≡ k *ℤ y.num → x.den ≡ k *ℤ y.den → Same x y
same_scaled x y k h j =
    let e : (k *ℤ y.num) *ℤ y.den ≡ y.num *ℤ (k *ℤ y.den) = ring (k ∷ y.num ∷ y.den ∷ []) ((var 0 ⊗ var 1) ⊗ var 2) (var 1 ⊗ (var 0 ⊗ var 2)) refl in
    ap (λ z. z *ℤ y.den) h ∙ e ∙ ap (λ z. y.num *ℤ z) (sym j)

pub units_positive : (g : DynamicGame) (c : Correspondence) → IsGame g → 0 < c.scale → pos 0 <ℤ units g c
units_positive g c ok scaled = product_above_zero (pos c.scale) g.denominator (omega (arith, ints)) (omega (arith, ints, ok.denominator_positive))

-- the average of what is left, after outcomes that were added already
abbrev pub rest_of : DynamicGame → Correspondence → ℕ → ℕ → ℕ → List (ℕ × ℕ) → List DevPlan → Fraction
rest_of g c i t total os plans = divided_by (units g c) (divided_by (pos total) (worth_in_turn g c i t os plans))

step_total : (before : Fraction) (w total : ℕ) (u : ℤ) (x r : Fraction) →
    Same (plus (plus before (weighed w total (divided_by u x))) (divided_by u (divided_by (pos total) r))) (plus before (divided_by u (divided_by (pos total) (plus (times (pos w) x) r))))
step_total before w total u x r =
    same_scaled (plus (plus before (weighed w total (divided_by u x))) (divided_by u (divided_by (pos total) r))) (plus before (divided_by u (divided_by (pos total) (plus (times (pos w) x) r)))) (u *ℤ pos total)
    (ring (before.num ∷ before.den ∷ pos w ∷ pos total ∷ u ∷ x.num ∷ x.den ∷ r.num ∷ r.den ∷ [])
    ((((var 0 ⊗ (var 3 ⊗ (var 4 ⊗ var 6))) ⊕ ((var 2 ⊗ var 5) ⊗ var 1)) ⊗ (var 4 ⊗ (var 3 ⊗ var 8))) ⊕ (var 7 ⊗ (var 1 ⊗ (var 3 ⊗ (var 4 ⊗ var 6)))))
    ((var 4 ⊗ var 3) ⊗ ((var 0 ⊗ (var 4 ⊗ (var 3 ⊗ (var 6 ⊗ var 8)))) ⊕ ((((var 2 ⊗ var 5) ⊗ var 8) ⊕ (var 7 ⊗ var 6)) ⊗ var 1))) refl)
    (ring (before.den ∷ pos total ∷ u ∷ x.den ∷ r.den ∷ [])
    ((var 0 ⊗ (var 1 ⊗ (var 2 ⊗ var 3))) ⊗ (var 2 ⊗ (var 1 ⊗ var 4)))
    ((var 2 ⊗ var 1) ⊗ (var 0 ⊗ (var 2 ⊗ (var 1 ⊗ (var 3 ⊗ var 4))))) refl)

-- ---- what is worth something has a positive denominator
abbrev pub AllPositive : DynamicGame → Correspondence → ℕ → ℕ → List (ℕ × ℕ) → List DevPlan → Type 0
AllPositive g c i t os plans = (k : ℕ) → k < length plans → IsPositive (worth g c i t (get_or os k (0, 0)).0 (get_or plans k Stop))

no_plans : (g : DynamicGame) (c : Correspondence) (i t : ℕ) (os : List (ℕ × ℕ)) → IsPositive (worth_in_turn g c i t os [])
no_plans g c i t [] = omega (arith, ints)
no_plans g c i t (o ∷ os) = omega (arith, ints)

pub worth_positive : (g : DynamicGame) (c : Correspondence) (i t : ℕ) (os : List (ℕ × ℕ)) (plans : List DevPlan) → AllPositive g c i t os plans → IsPositive (worth_in_turn g c i t os plans)
worth_positive g c i t [] plans h = omega (arith, ints)
worth_positive g c i t (o ∷ os) [] h = omega (arith, ints)
worth_positive g c i t (o ∷ os) (plan ∷ plans) h =
    product_above_zero (worth g c i t o.0 plan).den (worth_in_turn g c i t os plans).den (h 0 (omega arith)) (worth_positive g c i t os plans (λ k j. h (suc k) (omega arith)))

rest_positive : (g : DynamicGame) (c : Correspondence) (i t : ℕ) (j : ℕ) (os : List (ℕ × ℕ)) (plans : List DevPlan) → AllPositive g c i t os plans → IsPositive (worth_in_turn g c i t (drop j os) (drop j plans))
rest_positive g c i t zero os plans h = worth_positive g c i t os plans h
rest_positive g c i t (suc j) [] plans h = omega (arith, ints)
rest_positive g c i t (suc j) (o ∷ os) [] h = no_plans g c i t (drop j os)
rest_positive g c i t (suc j) (o ∷ os) (plan ∷ plans) h = rest_positive g c i t j os plans (λ k l. h (suc k) (omega arith))

-- ---- one outcome more
next_small : (g : DynamicGame) (c : Correspondence) (i n t total : ℕ) (before : Fraction) (o : ℕ × ℕ) (os rest : List (ℕ × ℕ)) (plan : DevPlan) (plans left : List DevPlan) → rest ≡ o ∷ os → left ≡ plan ∷ plans →
    AreSmall (formed g c i (suc n) t o.0 plan) → AreSmall (formed_at n o.1 total before (value_of g c i t o.0 plan)) →
    AreSmall (formed_in_turn g c i n t total (plus before (weighed o.1 total (value_of g c i t o.0 plan))) os plans) → AreSmall (formed_in_turn g c i n t total before rest left)
next_small g c i n t total before o os rest plan plans left e f x y z =
    rw (e, f) (small_then (formed g c i (suc n) t o.0 plan) (formed_at n o.1 total before (value_of g c i t o.0 plan) ++ formed_in_turn g c i n t total (plus before (weighed o.1 total (value_of g c i t o.0 plan))) os plans) x
    (small_then (formed_at n o.1 total before (value_of g c i t o.0 plan)) (formed_in_turn g c i n t total (plus before (weighed o.1 total (value_of g c i t o.0 plan))) os plans) y z))

next_beyond : (g : DynamicGame) (c : Correspondence) (i n t total : ℕ) (before : Fraction) (o : ℕ × ℕ) (os rest : List (ℕ × ℕ)) (plan : DevPlan) (plans left : List DevPlan) (m : ℕ) → rest ≡ o ∷ os → left ≡ plan ∷ plans →
    AreSmall (formed g c i (suc n) t o.0 plan) →
    IsFirstBeyond (formed_at n o.1 total before (value_of g c i t o.0 plan) ++ formed_in_turn g c i n t total (plus before (weighed o.1 total (value_of g c i t o.0 plan))) os plans) m →
    IsFirstBeyond (formed_in_turn g c i n t total before rest left) m
next_beyond g c i n t total before o os rest plan plans left m e f x y =
    rw (e, f) (beyond_after (formed g c i (suc n) t o.0 plan) (formed_at n o.1 total before (value_of g c i t o.0 plan) ++ formed_in_turn g c i n t total (plus before (weighed o.1 total (value_of g c i t o.0 plan))) os plans) m x y)

plan_beyond : (g : DynamicGame) (c : Correspondence) (i n t total : ℕ) (before : Fraction) (o : ℕ × ℕ) (os rest : List (ℕ × ℕ)) (plan : DevPlan) (plans left : List DevPlan) (m : ℕ) → rest ≡ o ∷ os → left ≡ plan ∷ plans →
    IsFirstBeyond (formed g c i (suc n) t o.0 plan) m → IsFirstBeyond (formed_in_turn g c i n t total before rest left) m
plan_beyond g c i n t total before o os rest plan plans left m e f x =
    rw (e, f) (beyond_before (formed g c i (suc n) t o.0 plan) (formed_at n o.1 total before (value_of g c i t o.0 plan) ++ formed_in_turn g c i n t total (plus before (weighed o.1 total (value_of g c i t o.0 plan))) os plans) m x)

-- the same that is formed of a sum and a worth in lowest terms
outcome_alike : (n w total : ℕ) (sum v : Ratio) (before x : Fraction) → 0 < total → IsLowest sum → IsLowest v → IsPositive before → IsPositive x → Equals sum before.num before.den → Equals v x.num x.den →
    Alike (formed_at n w total (held sum) (held v)) (formed_at n w total before x)
outcome_alike n w total sum v before x some low low' p q e f =
    let s : Same (weighed w total (held v)) (weighed w total x) = product_along (record { num = pos w; den = pos total }) (held v) (record { num = pos w; den = pos total }) x refl f in
    let a : IsPositive (weighed w total (held v)) = weighed_positive w total (held v) some low'.positive in
    let b : IsPositive (weighed w total x) = weighed_positive w total x some q in (
      refl,
      omega (arith, ints),
      omega (arith, ints),
      refl,
      (refl, a, b, s, (refl, product_above_zero sum.den (weighed w total (held v)).den low.positive a, product_above_zero before.den (weighed w total x).den p b, plus_along (held sum) (weighed w total (held v)) before (weighed w total x) e s, refl)),
    )

-- ---- the sum so far, and what is formed from here on
pub record Goes (g : DynamicGame) (c : Correspondence) (i n t : ℕ) (os : List (ℕ × ℕ)) (plans : List DevPlan) (sum : Ratio) (j : ℕ) : Type 0 where
  pub lowest : IsLowest sum
  pub small : IsSmall sum
  pub before : Fraction
  pub positive : IsPositive before
  pub equal : Equals sum before.num before.den
  pub total : Same (plus before (rest_of g c i t (total_weight os) (drop j os) (drop j plans))) (average_in_turn g c i t os plans)
  pub ends_small : AreSmall (formed_in_turn g c i n t (total_weight os) before (drop j os) (drop j plans)) → AreSmall (formed_in_turn g c i n t (total_weight os) (whole (pos 0)) os plans)
  pub ends_beyond : (m : ℕ) → IsFirstBeyond (formed_in_turn g c i n t (total_weight os) before (drop j os) (drop j plans)) m → IsFirstBeyond (formed_in_turn g c i n t (total_weight os) (whole (pos 0)) os plans) m

start_total : (x : Fraction) → Same (plus (whole (pos 0)) x) x
start_total x = ring (x.num ∷ x.den ∷ []) (((lit (pos 0) ⊗ var 1) ⊕ (var 0 ⊗ lit (pos 1))) ⊗ var 1) (var 0 ⊗ (lit (pos 1) ⊗ var 1)) refl

pub goes_start : (g : DynamicGame) (c : Correspondence) (i n t : ℕ) (os : List (ℕ × ℕ)) (plans : List DevPlan) (sum : Ratio) → IsLowest sum → Equals sum (pos 0) (pos 1) → unsigned_abs sum.num ≤ 0 → unsigned_abs sum.den ≤ 1 → Goes g c i n t os plans sum 0
goes_start g c i n t os plans sum low equal num den = record {
  lowest = low;
  small = record { num_small = omega (arith, num); den_small = omega (arith, den) };
  before = whole (pos 0);
  positive = omega (arith, ints);
  equal = equal;
  total = start_total (average_in_turn g c i t os plans);
  ends_small = λ h. h;
  ends_beyond = λ m h. h;
}

-- what the plan at place j is worth
abbrev pub value_at : DynamicGame → Correspondence → ℕ → ℕ → List (ℕ × ℕ) → List DevPlan → ℕ → Fraction
value_at g c i t os plans j = value_of g c i t (get_or os j (0, 0)).0 (get_or plans j Stop)

value_positive : (g : DynamicGame) (c : Correspondence) (i t : ℕ) (os : List (ℕ × ℕ)) (plans : List DevPlan) (j : ℕ) → pos 0 <ℤ units g c → AllPositive g c i t os plans → j < length plans → IsPositive (value_at g c i t os plans j)
value_positive g c i t os plans j u all h = product_above_zero (units g c) (worth g c i t (get_or os j (0, 0)).0 (get_or plans j Stop)).den u (all j h)

next_total : (g : DynamicGame) (c : Correspondence) (i t total : ℕ) (before : Fraction) (o : ℕ × ℕ) (os rest : List (ℕ × ℕ)) (plan : DevPlan) (plans left : List DevPlan) (average : Fraction) → rest ≡ o ∷ os → left ≡ plan ∷ plans →
    IsPositive (plus before (rest_of g c i t total rest left)) → Same (plus before (rest_of g c i t total rest left)) average →
    Same (plus (plus before (weighed o.1 total (value_of g c i t o.0 plan))) (rest_of g c i t total os plans)) average
next_total g c i t total before o os rest plan plans left average e f p h =
    same_trans (plus (plus before (weighed o.1 total (value_of g c i t o.0 plan))) (rest_of g c i t total os plans)) (plus before (rest_of g c i t total (o ∷ os) (plan ∷ plans))) average
    (rw (e, f) at p) (step_total before o.1 total (units g c) (worth g c i t o.0 plan) (worth_in_turn g c i t os plans)) (rw (e, f) at h)

pub goes_on : (g : DynamicGame) (c : Correspondence) (i n t : ℕ) (os : List (ℕ × ℕ)) (plans : List DevPlan) (sum v new : Ratio) (j : ℕ) → pos 0 <ℤ units g c → 0 < total_weight os → AllPositive g c i t os plans → length plans ≡ length os → j < length plans →
    Answers (formed g c i (suc n) t (get_or os j (0, 0)).0 (get_or plans j Stop)) (value_at g c i t os plans j) (Ok v) →
    Answers (formed_at n (get_or os j (0, 0)).1 (total_weight os) (held sum) (held v)) (plus (held sum) (weighed (get_or os j (0, 0)).1 (total_weight os) (held v))) (Ok new) →
    Goes g c i n t os plans sum j → Goes g c i n t os plans new (j + 1)
goes_on g c i n t os plans sum v new j u some all same h worth next k =
    let xp : IsPositive (value_at g c i t os plans j) = value_positive g c i t os plans j u all h in
    let wp : IsPositive (weighed (get_or os j (0, 0)).1 (total_weight os) (value_at g c i t os plans j)) = weighed_positive (get_or os j (0, 0)).1 (total_weight os) (value_at g c i t os plans j) some xp in
    let ds : drop j os ≡ get_or os j (0, 0) ∷ drop (suc j) os = drop-cons os j (0, 0) (omega (arith, same)) in
    let dp : drop j plans ≡ get_or plans j Stop ∷ drop (suc j) plans = drop-cons plans j Stop h in
    let like : Alike (formed_at n (get_or os j (0, 0)).1 (total_weight os) (held sum) (held v)) (formed_at n (get_or os j (0, 0)).1 (total_weight os) k.before (value_at g c i t os plans j)) =
    outcome_alike n (get_or os j (0, 0)).1 (total_weight os) sum v k.before (value_at g c i t os plans j) some k.lowest worth.1 k.positive xp k.equal worth.2 in
    let left : IsPositive (plus k.before (rest_of g c i t (total_weight os) (drop j os) (drop j plans))) =
    product_above_zero k.before.den (units g c *ℤ (pos (total_weight os) *ℤ (worth_in_turn g c i t (drop j os) (drop j plans)).den)) k.positive
    (product_above_zero (units g c) (pos (total_weight os) *ℤ (worth_in_turn g c i t (drop j os) (drop j plans)).den) u
    (product_above_zero (pos (total_weight os)) (worth_in_turn g c i t (drop j os) (drop j plans)).den (omega (arith, ints)) (rest_positive g c i t j os plans all))) in
    let moved : Same (plus (held sum) (weighed (get_or os j (0, 0)).1 (total_weight os) (held v))) (plus k.before (weighed (get_or os j (0, 0)).1 (total_weight os) (value_at g c i t os plans j))) =
    plus_along (held sum) (weighed (get_or os j (0, 0)).1 (total_weight os) (held v)) k.before (weighed (get_or os j (0, 0)).1 (total_weight os) (value_at g c i t os plans j)) k.equal
    (product_along (record { num = pos (get_or os j (0, 0)).1; den = pos (total_weight os) }) (held v) (record { num = pos (get_or os j (0, 0)).1; den = pos (total_weight os) }) (value_at g c i t os plans j) refl worth.2) in
    rw add-one (record {
      lowest = next.1;
      small = next.3;
      before = plus k.before (weighed (get_or os j (0, 0)).1 (total_weight os) (value_at g c i t os plans j));
      positive = product_above_zero k.before.den (weighed (get_or os j (0, 0)).1 (total_weight os) (value_at g c i t os plans j)).den k.positive wp;
      equal = same_trans (held new) (plus (held sum) (weighed (get_or os j (0, 0)).1 (total_weight os) (held v))) (plus k.before (weighed (get_or os j (0, 0)).1 (total_weight os) (value_at g c i t os plans j)))
          (product_above_zero sum.den (pos (total_weight os) *ℤ v.den) k.lowest.positive (weighed_positive (get_or os j (0, 0)).1 (total_weight os) (held v) some worth.1.positive)) next.2 moved;
      total = next_total g c i t (total_weight os) k.before (get_or os j (0, 0)) (drop (suc j) os) (drop j os) (get_or plans j Stop) (drop (suc j) plans) (drop j plans) (average_in_turn g c i t os plans) ds dp left k.total;
      ends_small = λ z. k.ends_small (next_small g c i n t (total_weight os) k.before (get_or os j (0, 0)) (drop (suc j) os) (drop j os) (get_or plans j Stop) (drop (suc j) plans) (drop j plans) ds dp worth.0
          (small_alike (formed_at n (get_or os j (0, 0)).1 (total_weight os) (held sum) (held v)) (formed_at n (get_or os j (0, 0)).1 (total_weight os) k.before (value_at g c i t os plans j)) like next.0) z);
      ends_beyond = λ m z. k.ends_beyond m (next_beyond g c i n t (total_weight os) k.before (get_or os j (0, 0)) (drop (suc j) os) (drop j os) (get_or plans j Stop) (drop (suc j) plans) (drop j plans) m ds dp worth.0
          (beyond_after (formed_at n (get_or os j (0, 0)).1 (total_weight os) k.before (value_at g c i t os plans j))
          (formed_in_turn g c i n t (total_weight os) (plus k.before (weighed (get_or os j (0, 0)).1 (total_weight os) (value_at g c i t os plans j))) (drop (suc j) os) (drop (suc j) plans)) m
          (small_alike (formed_at n (get_or os j (0, 0)).1 (total_weight os) (held sum) (held v)) (formed_at n (get_or os j (0, 0)).1 (total_weight os) k.before (value_at g c i t os plans j)) like next.0) z));
    })

-- where the plan at place j has a fraction that isn't small
pub plan_fails : (g : DynamicGame) (c : Correspondence) (i n t : ℕ) (os : List (ℕ × ℕ)) (plans : List DevPlan) (sum : Ratio) (j m : ℕ) → length plans ≡ length os → j < length plans →
    IsFirstBeyond (formed g c i (suc n) t (get_or os j (0, 0)).0 (get_or plans j Stop)) m → Goes g c i n t os plans sum j → IsFirstBeyond (formed_in_turn g c i n t (total_weight os) (whole (pos 0)) os plans) m
plan_fails g c i n t os plans sum j m same h z k =
    k.ends_beyond m (plan_beyond g c i n t (total_weight os) k.before (get_or os j (0, 0)) (drop (suc j) os) (drop j os) (get_or plans j Stop) (drop (suc j) plans) (drop j plans) m
    (drop-cons os j (0, 0) (omega (arith, same))) (drop-cons plans j Stop h) z)

-- where one that is formed with it isn't small
pub outcome_fails : (g : DynamicGame) (c : Correspondence) (i n t : ℕ) (os : List (ℕ × ℕ)) (plans : List DevPlan) (sum v : Ratio) (j m : ℕ) → pos 0 <ℤ units g c → 0 < total_weight os → AllPositive g c i t os plans → length plans ≡ length os → j < length plans →
    Answers (formed g c i (suc n) t (get_or os j (0, 0)).0 (get_or plans j Stop)) (value_at g c i t os plans j) (Ok v) →
    IsFirstBeyond (formed_at n (get_or os j (0, 0)).1 (total_weight os) (held sum) (held v)) m →
    Goes g c i n t os plans sum j → IsFirstBeyond (formed_in_turn g c i n t (total_weight os) (whole (pos 0)) os plans) m
outcome_fails g c i n t os plans sum v j m u some all same h worth z k =
    let like : Alike (formed_at n (get_or os j (0, 0)).1 (total_weight os) (held sum) (held v)) (formed_at n (get_or os j (0, 0)).1 (total_weight os) k.before (value_at g c i t os plans j)) =
    outcome_alike n (get_or os j (0, 0)).1 (total_weight os) sum v k.before (value_at g c i t os plans j) some k.lowest worth.1 k.positive (value_positive g c i t os plans j u all h) k.equal worth.2 in
    k.ends_beyond m (next_beyond g c i n t (total_weight os) k.before (get_or os j (0, 0)) (drop (suc j) os) (drop j os) (get_or plans j Stop) (drop (suc j) plans) (drop j plans) m
    (drop-cons os j (0, 0) (omega (arith, same))) (drop-cons plans j Stop h) worth.0
    (beyond_before (formed_at n (get_or os j (0, 0)).1 (total_weight os) k.before (value_at g c i t os plans j))
    (formed_in_turn g c i n t (total_weight os) (plus k.before (weighed (get_or os j (0, 0)).1 (total_weight os) (value_at g c i t os plans j))) (drop (suc j) os) (drop (suc j) plans)) m
    (beyond_alike (formed_at n (get_or os j (0, 0)).1 (total_weight os) (held sum) (held v)) (formed_at n (get_or os j (0, 0)).1 (total_weight os) k.before (value_at g c i t os plans j)) m like z)))

drop_end : {A : Type 0} (xs : List A) (j : ℕ) → length xs ≤ j → drop j xs ≡ []
drop_end [] zero h = refl
drop_end [] (suc j) h = refl
drop_end (x ∷ xs) zero h = absurd (omega (arith, h))
drop_end (x ∷ xs) (suc j) h = drop_end xs j (omega (arith, h))

end_total : (before : Fraction) (u : ℤ) (total : ℕ) → Same before (plus before (divided_by u (divided_by (pos total) (whole (pos 0)))))
end_total before u total =
    ring (before.num ∷ before.den ∷ u ∷ pos total ∷ []) (var 0 ⊗ (var 1 ⊗ (var 2 ⊗ (var 3 ⊗ lit (pos 1))))) (((var 0 ⊗ (var 2 ⊗ (var 3 ⊗ lit (pos 1)))) ⊕ (lit (pos 0) ⊗ var 1)) ⊗ var 1) refl

pub goes_end : (g : DynamicGame) (c : Correspondence) (i n t : ℕ) (os : List (ℕ × ℕ)) (plans : List DevPlan) (sum : Ratio) (j : ℕ) → pos 0 <ℤ units g c → 0 < total_weight os → length plans ≡ length os → length plans ≤ j → Goes g c i n t os plans sum j →
    Answers (formed_in_turn g c i n t (total_weight os) (whole (pos 0)) os plans) (average_in_turn g c i t os plans) (Ok sum)
goes_end g c i n t os plans sum j u some same h k =
    let ds : drop j os ≡ [] = drop_end os j (omega (arith, same, h)) in
    let total : Same (plus k.before (rest_of g c i t (total_weight os) [] [])) (average_in_turn g c i t os plans) = rw ds at k.total in
    let p : IsPositive (plus k.before (rest_of g c i t (total_weight os) [] [])) = product_above_zero k.before.den (units g c *ℤ (pos (total_weight os) *ℤ pos 1)) k.positive
    (product_above_zero (units g c) (pos (total_weight os) *ℤ pos 1) u (product_above_zero (pos (total_weight os)) (pos 1) (omega (arith, ints)) (omega (arith, ints)))) in
    let whole_sum : Same k.before (average_in_turn g c i t os plans) = same_trans k.before (plus k.before (rest_of g c i t (total_weight os) [] [])) (average_in_turn g c i t os plans) p (end_total k.before (units g c) (total_weight os)) total in (
      k.ends_small (rw ds tt),
      k.lowest,
      same_trans (held sum) k.before (average_in_turn g c i t os plans) k.positive k.equal whole_sum,
      k.small,
    )
