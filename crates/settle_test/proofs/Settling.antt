-- what the settling test says of rows, and of the table
use Rattle.std.proofs.Common.{◌≡◌, ℕ, zero, suc, ◌+◌, ◌*◌, ◌/◌, ◌%◌, ◌<◌, ◌≤◌, ⊎_elim, List, [], ◌∷◌, length, Option, Some, None, refl, sym, ap, ◌∙◌, subst, arith, ℤ, pos, ◌-ℤ◌, ◌*ℤ◌, ◌≤ℤ◌, ◌<ℤ◌}
use Rattle.std.specs.Prelude.{slice_index, ◌++◌}
use Rattle.std.specs.Option.{option_to_list}
use Rattle.std.proofs.lemmas.Bool.{cases_lt}
use Rattle.std.proofs.lemmas.Int.{ints, by_lt_z}
use Rattle.std.proofs.lemmas.Nat.{div-mul-add, mod-mul-add}
use Rattle.exact_algebra.specs.Poly.{var, ◌⊗◌}
use Rattle.exact_algebra.proofs.Normal.{ring}
use Rattle.exact_algebra.proofs.Order.{times_at_most, times_below, below_from_times, below_at_most_trans, at_most_below_trans, product_above_zero, product_at_least_zero, times_swap}
use Rattle.game_model.specs.Game.{counts, profile_count}
use Rattle.level_table.specs.declared.level.Level.TheVariants.{Empty, At}
use Rattle.level_table.specs.Problem.{Problem, direction_count, IsProblem}
use Rattle.level_table.specs.Levels.{Levels, Table, IsSmall, levels_in, level_at}
use Rattle.level_table.specs.Operator.{Admissible, Fractions, IsRowLevel, HasValueAbove, value, value_unit}
use Rattle.level_table.specs.Supported.{IsEven, IsSupported}
use Rattle.level_table.specs.Tables.{IsSmallTable}
use Rattle.level_table.proofs.Numbers.{fits_small}
use Rattle.bound_laws.proofs.Operator.{value_unit_positive}
use Rattle.bound_laws.proofs.Order.{at_most_along}
use Rattle.set_operator.specs.Answers.{IsLevelAnswer}
use Rattle.set_operator.specs.Boxes.{point_of}
use Rattle.lp_core.specs.declared.Point.{Point}
use Rattle.set_operator.specs.declared.row.Support.{Support}
use Rattle.settle_test.specs.Verdicts.{AreSupports, AreSupported, FailsAt, IsReadyAt, IsRowVerdict, IsVerdict, NoneFails, state_of, direction_of}
use Rattle.set_operator.specs.Prepared.{IsPrepared, PreparedState}
use Rattle.std.proofs.lemmas.List.{length-append}
use Rattle.settle_test.specs.declared.settle.RowVerdict.TheVariants.{Fine, Unsupported}
use Rattle.set_operator.specs.declared.row.Verdict.TheVariants as verdicts
use Rattle.pay_frac.specs.Ratio.{Ratio}
use mir.Syntax.{w64}
use mir.Val.{to_z, of_z}
use Rattle.settle_test.proofs.Places.{place_below, row_small}

-- no value is above a number that the row level isn't above
pub none_above : (p : Problem) (t : Levels) (s k : ℕ) (m x : ℤ) → IsProblem p → IsRowLevel p t s k (At m) → m ≤ℤ x → HasValueAbove p t s k x → ⊥
none_above p t s k m x problem level h above =
    let u : ℤ = value_unit p above.vector in
    let positive : pos 0 <ℤ u = value_unit_positive p above.vector problem above.admissible.positive in
    let most : value p s above.profile k above.vector ≤ℤ (m *ℤ u) = level.0 above.profile above.vector above.known above.admissible in
    let under : (x *ℤ u) <ℤ (m *ℤ u) = below_at_most_trans (x *ℤ u) (value p s above.profile k above.vector) (m *ℤ u) above.above most in
    let more : (m *ℤ u) ≤ℤ (x *ℤ u) = at_most_along (times_swap u m) (times_swap u x) (times_at_most u m x (omega (arith, ints)) h) in
    absurd (omega (arith, ints, under, more))

-- a point whose value is at least that of another
reaches : (x m q vw dw vp dp : ℤ) → pos 0 <ℤ q → pos 0 <ℤ dw → pos 0 <ℤ dp → x ≤ℤ (m -ℤ pos 1) → ((m -ℤ pos 1) *ℤ (q *ℤ dw)) <ℤ vw → (vw *ℤ dp) ≤ℤ (vp *ℤ dw) → (x *ℤ (q *ℤ dp)) <ℤ vp
reaches x m q vw dw vp dp q0 w0 p0 low above most =
    let n : ℤ = m -ℤ pos 1 in
    let qd : pos 0 <ℤ (q *ℤ dp) = product_above_zero q dp q0 p0 in
    let first : (dw *ℤ (x *ℤ (q *ℤ dp))) ≤ℤ (dp *ℤ (n *ℤ (q *ℤ dw))) =
    at_most_along (ring (dw ∷ q ∷ dp ∷ x ∷ []) ((var 0 ⊗ (var 1 ⊗ var 2)) ⊗ var 3) (var 0 ⊗ (var 3 ⊗ (var 1 ⊗ var 2))) refl)
    (ring (dw ∷ q ∷ dp ∷ n ∷ []) ((var 0 ⊗ (var 1 ⊗ var 2)) ⊗ var 3) (var 2 ⊗ (var 3 ⊗ (var 1 ⊗ var 0))) refl)
    (times_at_most (dw *ℤ (q *ℤ dp)) x n (product_at_least_zero dw (q *ℤ dp) (omega (arith, ints)) (omega (arith, ints))) low) in
    let second : (dp *ℤ (n *ℤ (q *ℤ dw))) <ℤ (dp *ℤ vw) = times_below dp (n *ℤ (q *ℤ dw)) vw p0 above in
    let third : (dp *ℤ vw) ≤ℤ (dw *ℤ vp) = at_most_along (times_swap vw dp) (times_swap vp dw) most in
    below_from_times dw (x *ℤ (q *ℤ dp)) vp (omega (arith, ints))
    (below_at_most_trans _ _ _ (at_most_below_trans _ _ _ first second) third)

pub point_supports : (p : Problem) (t : Levels) (s k : ℕ) (m x : ℤ) (a : ℕ) (y : Fractions) → IsProblem p → IsRowLevel p t s k (At m) → Admissible p t s a y
    → ((b : ℕ) (z : Fractions) → b < profile_count (counts p.game s) → Admissible p t s b z → (value p s b k z *ℤ y.denominator) ≤ℤ (value p s a k y *ℤ z.denominator))
    → x <ℤ m → (x *ℤ value_unit p y) <ℤ value p s a k y
point_supports p t s k m x a y problem level adm largest h =
    let w : HasValueAbove p t s k (m -ℤ pos 1) = level.1 in
    reaches x m (pos p.game.q) (value p s w.profile k w.vector) w.vector.denominator (value p s a k y) y.denominator
    (q_positive p problem) w.admissible.positive adm.positive (omega (arith, ints)) w.above (largest w.profile w.vector w.known w.admissible)
  where
    q_positive : (p : Problem) → IsProblem p → pos 0 <ℤ pos p.game.q
    q_positive p problem =
        let below : slice_index p.game.discounts 0 < p.game.q = problem.game.discounts_below 0 (omega (arith, problem.game.two_players)) in
        omega (arith, ints, below)

-- each finite row below n is supported
pub supported_from : (p : Problem) (t : Table) (slack n : ℕ) (supports : List Support) → AreSupports p t slack n supports → AreSupported p t slack n
supported_from p t slack zero supports h row x below level = absurd (omega arith)
supported_from p t slack (suc n) supports (before, added, so_far, is, fine) row x below level =
    ⊎_elim
    (λ (lt : row < n). supported_from p t slack n before so_far row x lt level)
    (λ (ge : n ≤ row). let e : row ≡ n = omega arith in subst (λ (r : ℕ). HasValueAbove p (levels_in t) (state_of p r) (direction_of p r) (x -ℤ pos slack)) (sym e) (last added fine (subst (λ (r : ℕ). level_at t r ≡ At x) e level)))
    (cases_lt row n)
  where
    last : (added : Option Support) → IsRowVerdict p t slack n (Fine added) → level_at t n ≡ At x → HasValueAbove p (levels_in t) (state_of p n) (direction_of p n) (x -ℤ pos slack)
    last None empty level = absurd (not_empty (sym empty ∙ level))
      where
        not_empty : {z : ℤ} → Empty ≡ At z → ⊥
        not_empty e = cc
    last (Some support) (z, there, place, h) level =
        let e : z ≡ x = same_number (sym there ∙ level) in
        record {
          profile = support.profile;
          vector = point_of support.point;
          known = h.first.known;
          admissible = h.first.admissible;
          above = subst (λ (w : ℤ). ((w -ℤ pos slack) *ℤ value_unit p (point_of support.point)) <ℤ value p (state_of p n) support.profile (direction_of p n) (point_of support.point)) e h.above;
        }
      where
        same_number : {u v : ℤ} → At u ≡ At v → u ≡ v
        same_number e = cc

pub table_supported : (p : Problem) (t : Table) (slack : ℕ) (supports : List Support) → IsSmallTable p t → IsEven p (levels_in t) → AreSupports p t slack (length t.levels) supports → IsSupported p (levels_in t) slack
table_supported p t slack supports run even all = record {
  even = even;
  supports = λ s k x row level.
      let k_below : k < t.directions = omega (arith, row.direction, run.sizes.directions_agree) in
      let d : t.directions ≡ direction_count p = run.sizes.directions_agree in
      let place : s * t.directions + k < length t.levels = place_below p t s k run row in
      let found : HasValueAbove p (levels_in t) (state_of p (s * t.directions + k)) (direction_of p (s * t.directions + k)) (x -ℤ pos slack) = supported_from p t slack (length t.levels) supports all (s * t.directions + k) x place level in
      let st : state_of p (s * t.directions + k) ≡ s = ap (λ (n : ℕ). (s * t.directions + k) / n) (sym d) ∙ div-mul-add s t.directions k k_below in
      let di : direction_of p (s * t.directions + k) ≡ k = ap (λ (n : ℕ). (s * t.directions + k) % n) (sym d) ∙ mod-mul-add s t.directions k k_below in
      subst (λ (i : ℕ). HasValueAbove p (levels_in t) i k (x -ℤ pos slack)) st (subst (λ (j : ℕ). HasValueAbove p (levels_in t) (state_of p (s * t.directions + k)) j (x -ℤ pos slack)) di found);
}

-- ---- what the code answers
unsupported_none : (p : Problem) (t : Table) (slack row : ℕ) (level : ℤ) → level_at t row ≡ At level → IsRowLevel p (levels_in t) (state_of p row) (direction_of p row) Empty → IsRowVerdict p t slack row (Unsupported level None)
unsupported_none p t slack row level is dead = (is, (λ h. dead h.profile h.vector h.known h.admissible), dead)

pub none_by_code : (p : Problem) (t : Table) (slack row n s : ℕ) (level z : ℤ) → level_at t row ≡ At level → n ≡ direction_count p → s ≡ state_of p row → z ≡ level → IsRowLevel p (levels_in t) s (row % n) Empty → IsRowVerdict p t slack row (Unsupported z None)
none_by_code p t slack row n s level z is e here back dead =
    subst (λ (w : ℤ). IsRowVerdict p t slack row (Unsupported w None)) (sym back)
    (unsupported_none p t slack row level is (subst (λ (i : ℕ). IsRowLevel p (levels_in t) i (direction_of p row) Empty) here (subst (λ (m : ℕ). IsRowLevel p (levels_in t) s (row % m) Empty) e dead)))

pub some_by_code : (p : Problem) (t : Table) (slack row n s : ℕ) (level z found : ℤ) (profile : ℕ) (point : Point) (r : Ratio) → IsProblem p → level_at t row ≡ At level → n ≡ direction_count p → s ≡ state_of p row → z ≡ level
    → IsLevelAnswer p (levels_in t) s (row % n) found profile point r → ((level -ℤ pos slack) <ℤ found → ⊥) → IsRowVerdict p t slack row (Unsupported z (Some r))
some_by_code p t slack row n s level z found profile point r problem is e here back answer low =
    let a : IsLevelAnswer p (levels_in t) (state_of p row) (direction_of p row) found profile point r =
    subst (λ (i : ℕ). IsLevelAnswer p (levels_in t) i (direction_of p row) found profile point r) here (subst (λ (m : ℕ). IsLevelAnswer p (levels_in t) s (row % m) found profile point r) e answer) in
    let most : found ≤ℤ (level -ℤ pos slack) = by_lt_z (level -ℤ pos slack) found (λ h. absurd (low h)) (λ h. h) in
    subst (λ (w : ℤ). IsRowVerdict p t slack row (Unsupported w (Some r))) (sym back) (
      is,
      none_above p (levels_in t) (state_of p row) (direction_of p row) found (level -ℤ pos slack) problem a.row_level most,
      record { lowest = a.reached_lowest; profile = profile; vector = point_of point; first = a.first; here = a.reached_is },
    )

pub fine_by_code : (p : Problem) (t : Table) (slack row n s : ℕ) (level found : ℤ) (profile : ℕ) (point : Point) (r : Ratio) → IsProblem p → level_at t row ≡ At level → n ≡ direction_count p → s ≡ state_of p row
    → IsLevelAnswer p (levels_in t) s (row % n) found profile point r → (level -ℤ pos slack) <ℤ found → IsRowVerdict p t slack row (Fine (Some (record { row = row; profile = profile; point = point })))
fine_by_code p t slack row n s level found profile point r problem is e here answer high =
    let a : IsLevelAnswer p (levels_in t) (state_of p row) (direction_of p row) found profile point r =
    subst (λ (i : ℕ). IsLevelAnswer p (levels_in t) i (direction_of p row) found profile point r) here (subst (λ (m : ℕ). IsLevelAnswer p (levels_in t) s (row % m) found profile point r) e answer) in (
      level,
      is,
      refl,
      record {
        first = a.first;
        above = point_supports p (levels_in t) (state_of p row) (direction_of p row) found (level -ℤ pos slack) profile (point_of point) problem a.row_level a.first.admissible a.first.largest high;
        small = a.small;
      },
    )

pub verdict_unsupported : (p : Problem) (t : Table) (slack row : ℕ) (level : ℤ) (reached : Option Ratio) (supports : List Support) → IsSmallTable p t → row < length t.levels → AreSupports p t slack row supports
    → IsRowVerdict p t slack row (Unsupported level reached) → IsVerdict p t slack (verdicts.Unsupported row (to_z w64 (of_z w64 level)) reached)
verdict_unsupported p t slack row level reached supports run below all h =
    let small : IsSmall (At level) = subst IsSmall h.0 (row_small p t row run below) in
    subst (λ (z : ℤ). IsVerdict p t slack (verdicts.Unsupported row z reached)) (sym (fits_small level small))
    (below, h.0, supported_from p t slack row supports all, h.1, h.2)

pub verdict_supported : (p : Problem) (t : Table) (slack n : ℕ) (supports : List Support) → IsSmallTable p t → IsEven p (levels_in t) → n ≡ length t.levels → AreSupports p t slack n supports → IsVerdict p t slack (verdicts.Supported supports)
verdict_supported p t slack n supports run even e all =
    let whole : AreSupports p t slack (length t.levels) supports = subst (λ (m : ℕ). AreSupports p t slack m supports) e all in
    (table_supported p t slack supports run even whole, whole)

-- a comparison of numbers that are read from their bits
pub above_from : (level found z w x : ℤ) → z ≡ level → w ≡ found → (z -ℤ x) <ℤ w → (level -ℤ x) <ℤ found
above_from level found z w x e f h = omega (arith, ints, e, f, h)

-- one row more
pub supports_more : (p : Problem) (t : Table) (slack row : ℕ) (before after : List Support) (added : Option Support) → AreSupports p t slack row before → after ≡ before ++ option_to_list added
    → IsRowVerdict p t slack row (Fine added) → AreSupports p t slack (row + 1) after
supports_more p t slack row before after added so_far is fine =
    let next : suc row ≡ row + 1 = omega arith in
    subst (λ (n : ℕ). AreSupports p t slack n after) next (before, added, so_far, is, fine)

few_added : (added : Option Support) → length (option_to_list added) ≤ 1
few_added None = omega arith
few_added (Some support) = omega arith

pub few_more : (row : ℕ) (before after : List Support) (added : Option Support) → length before ≤ row → after ≡ before ++ option_to_list added → length after ≤ row + 1
few_more row before after added few is = omega (arith, few, ap (λ (xs : List Support). length xs) is, length-append before (option_to_list added), few_added added)

-- the state that is ready where a row has a level
pub state_ready : (p : Problem) (t : Table) (q : PreparedState) (row n : ℕ) (level : ℤ) → level_at t row ≡ At level → n ≡ direction_count p → IsReadyAt p t q row → q.state ≡ state_of p row
state_ready p t q row n level is e ready =
    ⊎_elim
    (λ (empty : level_at t row ≡ Empty). absurd (apart (sym empty ∙ is)))
    (λ made. made.1)
    ready
  where
    apart : {z : ℤ} → Empty ≡ At z → ⊥
    apart e = cc

pub made_ready : (p : Problem) (t : Table) (q : PreparedState) (row : ℕ) (level : ℤ) → level_at t row ≡ At level → IsReadyAt p t q row → IsPrepared p (levels_in t) q
made_ready p t q row level is ready =
    ⊎_elim
    (λ (empty : level_at t row ≡ Empty). absurd (apart (sym empty ∙ is)))
    (λ made. made.0)
    ready
  where
    apart : {z : ℤ} → Empty ≡ At z → ⊥
    apart e = cc

-- one row more that doesn't fail
pub none_more : (p : Problem) (t : Table) (slack from row : ℕ) → NoneFails p t slack from row → (FailsAt p t slack row → ⊥) → NoneFails p t slack from (row + 1)
none_more p t slack from row none here r above before below fails =
    ⊎_elim
    (λ (lt : r < row). none r above lt below fails)
    (λ (ge : row ≤ r). let e : r ≡ row = omega arith in here (subst (FailsAt p t slack) e fails))
    (cases_lt r row)
