-- Values of admissible points are small, so row levels fit.
use Rattle.std.proofs.Common.{◌≡◌, ℕ, zero, suc, ◌+◌, ◌-◌, ◌*◌, ◌^◌, ◌<◌, ◌≤◌, [], ◌∷◌, refl, sym, ap, subst, arith, FitsSigned}
use Rattle.std.specs.Prelude.{ℤ, pos, ◌+ℤ◌, ◌-ℤ◌, ◌*ℤ◌, ◌≤ℤ◌, ◌<ℤ◌, neg_ℤ}
use Rattle.std.specs.Int.{w64}
use Rattle.std.specs.Int.RustNames.{unsigned_abs}
use Rattle.std.proofs.lemmas.Int.{ints, fits_signed_from_abs}
use Rattle.std.proofs.Math.Nat.{mul-le-mul}
use Rattle.std.proofs.lemmas.List.{get_or_default}
use Rattle.direction_set.specs.DirectionTable.{zero_vector}
use Rattle.exact_algebra.specs.Poly.{var, lit, neg, ◌⊖◌, ◌⊗◌}
use Rattle.exact_algebra.specs.Quotients.{IsCeiling}
use Rattle.exact_algebra.proofs.Normal.{ring}
use Rattle.exact_algebra.proofs.Order.{abs_product, abs_sum, abs_within, at_most_trans, times_at_most, below_at_most_trans, at_most_from_times, below_from_times, within_abs, positive_is}
use Rattle.game_model.specs.Game.{states, counts, profile_count, payoff_at, successor}
use Rattle.game_model.specs.SelfGeneration.{dot, part, sum_below}
use Rattle.level_table.specs.declared.level.Level.{Level}
use Rattle.level_table.specs.declared.level.Level.TheVariants.{Empty, At}
use Rattle.level_table.specs.Problem.{Problem, direction, direction_count, discount_at, fineness, plus_axis, minus_axis, IsProblem}
use Rattle.level_table.specs.Levels.{Levels, IsNumber, IsRow, IsSmall}
use Rattle.level_table.specs.Operator.{Fractions, Admissible, value}
use Rattle.level_table.specs.Tables.{HasSmallOpening}
use Rattle.bound_laws.proofs.Directions.{dot-plus_axis, dot-minus_axis}
use Rattle.bound_laws.proofs.Places.{plus_axis_known, minus_axis_known, next_state}
use Rattle.set_operator.specs.declared.best.Best.{Best}
use Rattle.set_operator.specs.Boxes.{point_of}
use Rattle.set_operator.specs.Search.{IsBestOf}
use Rattle.set_operator.proofs.Openings.{payoff_scaled}

-- each level of the table is within 2^50 of zero
abbrev pub AreSmall : Problem → Levels → Type 0
AreSmall p t = (s k : ℕ) → IsRow p s k → IsSmall (t s k)

sum_small : (f : ℕ → ℤ) (b n : ℕ) → ((i : ℕ) → i < n → unsigned_abs (f i) ≤ b) → unsigned_abs (sum_below f n) ≤ n * b
sum_small f b zero h = omega arith
sum_small f b (suc n) h =
    let rest : unsigned_abs (sum_below f n) ≤ n * b = sum_small f b n (λ i below. h i (omega arith)) in
    let all : unsigned_abs (sum_below f n +ℤ f n) ≤ n * b + b = abs_sum (sum_below f n) (f n) (n * b) b rest (h n (omega arith)) in
    omega arith

direction_part : (p : Problem) (k i : ℕ) → IsProblem p → k < direction_count p → unsigned_abs (part (direction p k) i) ≤ 3
direction_part p k i ok known = subst (λ v. unsigned_abs (part v i) ≤ 3) (get_or_default p.directions k zero_vector [] known) (ok.directions.part_small k i)

-- ---- one player's part of a point
number : (l : Level) → IsNumber l → (x : ℤ) × (l ≡ At x)
number Empty h = absurd h
number (At x) h = (x, refl)

-- each half-plane is within 2^50
plane_bound : (p : Problem) (t : Levels) (s a k : ℕ) (y : Fractions) → AreSmall p t → successor p.game s a < states p.game → k < direction_count p → Admissible p t s a y
    → dot p.game.players (direction p k) y.numerators ≤ℤ (pos (2 ^ 50) *ℤ y.denominator)
plane_bound p t s a k y small next within adm =
    let x = number (t (successor p.game s a) k) (adm.next_known k within) in
    let low : IsSmall (At x.0) = subst IsSmall x.1 (small (successor p.game s a) k (record { state = next; direction = within })) in
    let scaled : (y.denominator *ℤ x.0) ≤ℤ (y.denominator *ℤ pos (2 ^ 50)) = times_at_most y.denominator x.0 (pos (2 ^ 50)) (omega (arith, ints, adm.positive)) low.1 in
    let l : y.denominator *ℤ x.0 ≡ x.0 *ℤ y.denominator = ring (y.denominator ∷ x.0 ∷ []) (var 0 ⊗ var 1) (var 1 ⊗ var 0) refl in
    let r : y.denominator *ℤ pos (2 ^ 50) ≡ pos (2 ^ 50) *ℤ y.denominator = ring (y.denominator ∷ pos (2 ^ 50) ∷ []) (var 0 ⊗ var 1) (var 1 ⊗ var 0) refl in
    at_most_trans (dot p.game.players (direction p k) y.numerators) (x.0 *ℤ y.denominator) (pos (2 ^ 50) *ℤ y.denominator) (adm.half_planes k x.0 within x.1) (rw (l, r) at scaled)

within : (z : ℤ) (m d : ℕ) → z ≤ℤ (pos m *ℤ pos d) → neg_ℤ z ≤ℤ (pos m *ℤ pos d) → unsigned_abs z ≤ m * d
within z m d up down =
    let same : pos m *ℤ pos d ≡ pos (m * d) = refl in
    abs_within z (m * d) (turned z (m * d) (rw same at down)) (rw same at up)
  where
    turned : (x : ℤ) (n : ℕ) → neg_ℤ x ≤ℤ pos n → neg_ℤ (pos n) ≤ℤ x
    turned x n h = omega (arith, ints)

part_small : (p : Problem) (t : Levels) (s a i : ℕ) (y : Fractions) → IsProblem p → AreSmall p t → s < states p.game → a < profile_count (counts p.game s) → i < p.game.players
    → Admissible p t s a y → unsigned_abs (part y.numerators i) ≤ 2 ^ 50 * unsigned_abs y.denominator
part_small p t s a i y ok small state profile player adm =
    let next : successor p.game s a < states p.game = next_state p.game s a ok.game state profile in
    let d : y.denominator ≡ pos (unsigned_abs y.denominator) = positive_is y.denominator adm.positive in
    let up : part y.numerators i ≤ℤ (pos (2 ^ 50) *ℤ y.denominator) = rw (dot-plus_axis p i y.numerators ok player) at (plane_bound p t s a (plus_axis i) y small next (plus_axis_known p i ok player) adm) in
    let down : neg_ℤ (part y.numerators i) ≤ℤ (pos (2 ^ 50) *ℤ y.denominator) = rw (dot-minus_axis p i y.numerators ok player) at (plane_bound p t s a (minus_axis i) y small next (minus_axis_known p i ok player) adm) in
    within (part y.numerators i) (2 ^ 50) (unsigned_abs y.denominator)
    (subst (λ z. part y.numerators i ≤ℤ (pos (2 ^ 50) *ℤ z)) d up) (subst (λ z. neg_ℤ (part y.numerators i) ≤ℤ (pos (2 ^ 50) *ℤ z)) d down)

-- ---- one player's term of a value
stage_small : (m f b : ℕ) (u : ℤ) → unsigned_abs (pos f *ℤ u) ≤ b → unsigned_abs (pos (m * f) *ℤ u) ≤ m * b
stage_small m f b u h =
    let e : pos (m * f) *ℤ u ≡ pos m *ℤ (pos f *ℤ u) = ring (pos m ∷ pos f ∷ u ∷ []) ((var 0 ⊗ var 1) ⊗ var 2) (var 0 ⊗ (var 1 ⊗ var 2)) refl in
    rw e (abs_product (pos m) (pos f *ℤ u) m b (omega arith) h)

term_small : (c w u d y : ℤ) (r q b n : ℕ) → r ≤ q → unsigned_abs c ≤ 3 → unsigned_abs (w *ℤ u) ≤ (q - r) * b → unsigned_abs d ≤ n → unsigned_abs y ≤ b * n
    → unsigned_abs (c *ℤ ((w *ℤ u *ℤ d) +ℤ (pos r *ℤ y))) ≤ 3 * (b * (q * n))
term_small c w u d y r q b n below direction stage den point =
    let first : unsigned_abs (w *ℤ u *ℤ d) ≤ (q - r) * b * n = abs_product (w *ℤ u) d ((q - r) * b) n stage den in
    let second : unsigned_abs (pos r *ℤ y) ≤ r * (b * n) = abs_product (pos r) y r (b * n) (omega arith) point in
    let sum : unsigned_abs ((w *ℤ u *ℤ d) +ℤ (pos r *ℤ y)) ≤ (q - r) * b * n + r * (b * n) = abs_sum (w *ℤ u *ℤ d) (pos r *ℤ y) ((q - r) * b * n) (r * (b * n)) first second in
    abs_product c ((w *ℤ u *ℤ d) +ℤ (pos r *ℤ y)) 3 (b * (q * n)) direction (convex (q - r) (omega arith) sum)
  where
    convex : (m : ℕ) → q ≡ m + r → unsigned_abs ((w *ℤ u *ℤ d) +ℤ (pos r *ℤ y)) ≤ m * b * n + r * (b * n) → unsigned_abs ((w *ℤ u *ℤ d) +ℤ (pos r *ℤ y)) ≤ b * (q * n)
    convex m e h =
        let total : m * b * n + r * (b * n) ≡ b * ((m + r) * n) = omega arith in
        let all : unsigned_abs ((w *ℤ u *ℤ d) +ℤ (pos r *ℤ y)) ≤ b * ((m + r) * n) = rw total at h in
        subst (λ z. unsigned_abs ((w *ℤ u *ℤ d) +ℤ (pos r *ℤ y)) ≤ b * (z * n)) (sym e) all

-- ---- values
pub value_small : (p : Problem) (t : Levels) (s a k : ℕ) (y : Fractions) → IsProblem p → HasSmallOpening p → AreSmall p t → s < states p.game → a < profile_count (counts p.game s) → k < direction_count p
    → Admissible p t s a y → unsigned_abs (value p s a k y) ≤ (p.game.q * unsigned_abs y.denominator) * (9 * 2 ^ 50)
value_small p t s a k y ok opening small state profile known adm =
    let n : ℕ = unsigned_abs y.denominator in
    let q : ℕ = p.game.q in
    let one : (i : ℕ) → i < p.game.players → unsigned_abs (part (direction p k) i *ℤ ((pos ((q - discount_at p i) * p.game.base * fineness p) *ℤ payoff_at p.game s a i *ℤ y.denominator) +ℤ (pos (discount_at p i) *ℤ part y.numerators i))) ≤ 3 * (2 ^ 50 * (q * n)) = λ (i : ℕ) (player : i < p.game.players).
    let weighed : unsigned_abs (pos ((q - discount_at p i) * p.game.base * fineness p) *ℤ payoff_at p.game s a i) ≤ (q - discount_at p i) * 2 ^ 50 =
    (let assoc : (q - discount_at p i) * p.game.base * fineness p ≡ (q - discount_at p i) * (p.game.base * fineness p) = omega arith in
    rw assoc (stage_small (q - discount_at p i) (p.game.base * fineness p) (2 ^ 50) (payoff_at p.game s a i) (payoff_scaled p s a i ok opening state profile player))) in
    let below : discount_at p i < q = ok.game.discounts_below i player in
    term_small (part (direction p k) i) (pos ((q - discount_at p i) * p.game.base * fineness p)) (payoff_at p.game s a i) y.denominator (part y.numerators i) (discount_at p i) q (2 ^ 50) n
    (omega arith) (direction_part p k i ok known) weighed (omega arith) (part_small p t s a i y ok small state profile player adm) in
    let all : unsigned_abs (value p s a k y) ≤ p.game.players * (3 * (2 ^ 50 * (q * n))) = sum_small (λ i. part (direction p k) i *ℤ ((pos ((q - discount_at p i) * p.game.base * fineness p) *ℤ payoff_at p.game s a i *ℤ y.denominator) +ℤ (pos (discount_at p i) *ℤ part y.numerators i))) (3 * (2 ^ 50 * (q * n))) p.game.players one in
    few p.game.players (q * n) (value p s a k y) ok.game.three_players all
  where
    few : (i m : ℕ) (v : ℤ) → i ≤ 3 → unsigned_abs v ≤ i * (3 * (2 ^ 50 * m)) → unsigned_abs v ≤ m * (9 * 2 ^ 50)
    few i m v h k =
        let l : i * (3 * (2 ^ 50 * m)) ≤ 3 * (3 * (2 ^ 50 * m)) = mul-le-mul h (omega arith) in
        omega arith

-- ---- row levels
ceiling_small : (q n : ℕ) (v level : ℤ) → 0 < q → unsigned_abs v ≤ q * n → IsCeiling v (pos q) level → unsigned_abs level ≤ n
ceiling_small q n v level positive small ceiling =
    let b : (neg_ℤ (pos (q * n)) ≤ℤ v) × (v ≤ℤ pos (q * n)) = within_abs v (q * n) small in
    let up : pos q *ℤ neg_ℤ (pos n) ≡ neg_ℤ (pos (q * n)) = ring (pos q ∷ pos n ∷ []) (var 0 ⊗ neg (var 1)) (neg (var 0 ⊗ var 1)) refl in
    let down : pos q *ℤ pos n ≡ pos (q * n) = refl in
    let x : level *ℤ pos q ≡ pos q *ℤ level = ring (level ∷ pos q ∷ []) (var 0 ⊗ var 1) (var 1 ⊗ var 0) refl in
    let z : (level -ℤ pos 1) *ℤ pos q ≡ pos q *ℤ (level -ℤ pos 1) = ring (level ∷ pos q ∷ []) ((var 0 ⊖ lit (pos 1)) ⊗ var 1) (var 1 ⊗ (var 0 ⊖ lit (pos 1))) refl in
    let reaches : v ≤ℤ (pos q *ℤ level) = rw x at ceiling.reaches in
    let no_less : (pos q *ℤ (level -ℤ pos 1)) <ℤ v = rw z at ceiling.no_less in
    let l : (pos q *ℤ neg_ℤ (pos n)) ≤ℤ (pos q *ℤ level) = rw up (at_most_trans (neg_ℤ (pos (q * n))) v (pos q *ℤ level) b.0 reaches) in
    let u : (pos q *ℤ (level -ℤ pos 1)) <ℤ (pos q *ℤ pos n) = rw down (below_at_most_trans (pos q *ℤ (level -ℤ pos 1)) v (pos (q * n)) no_less b.1) in
    let last : (level -ℤ pos 1) <ℤ pos n = below_from_times (pos q) (level -ℤ pos 1) (pos n) (omega (arith, ints)) u in
    abs_within level n (at_most_from_times (pos q) (neg_ℤ (pos n)) level (omega (arith, ints)) l) (omega (arith, ints))

pub level_small : (p : Problem) (d v level : ℤ) → 0 < p.game.q → pos 0 <ℤ d → unsigned_abs v ≤ (p.game.q * unsigned_abs d) * (9 * 2 ^ 50) → IsCeiling v (pos p.game.q *ℤ d) level → unsigned_abs level ≤ 2 ^ 62
level_small p d v level some positive small ceiling =
    let is : pos p.game.q *ℤ d ≡ pos (p.game.q * unsigned_abs d) = ap (λ z. pos p.game.q *ℤ z) (positive_is d positive) in
    let d_some : 1 ≤ unsigned_abs d = omega (arith, ints) in
    let unit : 1 ≤ p.game.q * unsigned_abs d = mul-le-mul some d_some in
    let low : unsigned_abs level ≤ 9 * 2 ^ 50 = ceiling_small (p.game.q * unsigned_abs d) (9 * 2 ^ 50) v level (omega arith) small (subst (λ z. IsCeiling v z level) is ceiling) in
    omega arith

pub level_fits : (level : ℤ) → unsigned_abs level ≤ 2 ^ 62 → FitsSigned w64 level
level_fits level small = fits_signed_from_abs w64 level (omega arith)

pub best_small : (p : Problem) (t : Levels) (s k : ℕ) (best : Best) → IsProblem p → HasSmallOpening p → AreSmall p t → s < states p.game → k < direction_count p → best.profile < profile_count (counts p.game s)
    → IsBestOf p t s k best.profile best → unsigned_abs best.value ≤ (p.game.q * unsigned_abs best.point.den) * (9 * 2 ^ 50)
best_small p t s k best ok opening small state dir known h =
    rw h.here at (value_small p t s best.profile k (point_of best.point) ok opening small state known dir h.admissible)
