-- The operator is monotone, and never goes below a supported table.
use Rattle.std.proofs.Common.{◌≡◌, ℕ, zero, suc, ◌-◌, ◌*◌, ◌<◌, refl, sym, subst, arith}
use Rattle.std.specs.Prelude.{ℤ, pos, ◌+ℤ◌, ◌-ℤ◌, ◌*ℤ◌, ◌<ℤ◌}
use Rattle.std.proofs.lemmas.Int.{ints}
use Rattle.exact_algebra.proofs.Order.{product_above_zero}
use Rattle.game_model.specs.Game.{states, counts, profile_count, successor, reached, payoff_at, IsDeviation}
use Rattle.game_model.specs.SelfGeneration.{part}
use Rattle.level_table.specs.declared.level.Level.{Level}
use Rattle.level_table.specs.declared.level.Level.TheVariants.{Empty, At}
use Rattle.level_table.specs.Problem.{Problem, direction_count, minus_axis, discount_at, fineness, IsProblem}
use Rattle.level_table.specs.Levels.{Levels, AtMost, IsBelow, IsRow, lesser}
use Rattle.level_table.specs.Operator.{Fractions, Admissible, HasValueAbove, IsRowLevel, value, value_unit}
use Rattle.level_table.specs.Supported.{IsSupported}
use Rattle.level_table.specs.Iterates.{IsNext, IsIterate}
use Rattle.bound_laws.proofs.Levels.{number_above, number_at_most, same_level, level_at_most_self, level_at_most_trans, lesser_at_most, at_most_lesser, lesser_grows}
use Rattle.bound_laws.proofs.Order.{between_multiples, loosen, widen}
use Rattle.bound_laws.proofs.Places.{next_state, reached_state, minus_axis_known, q_positive}

pub admissible_grows : (p : Problem) (t u : Levels) (s a : ℕ) (y : Fractions) → IsProblem p → IsBelow p t u → s < states p.game → a < profile_count (counts p.game s)
    → Admissible p t s a y → Admissible p u s a y
admissible_grows p t u s a y ok below state profile h =
    let next : successor p.game s a < states p.game = next_state p.game s a ok.game state profile in
    let next_row = λ (k : ℕ) (within : k < direction_count p). below (successor p.game s a) k (record { state = next; direction = within }) in
    let reached_row = λ (i b k : ℕ) (d : IsDeviation p.game s a i b) (within : k < direction_count p).
    below (reached p.game s a i b) k (record { state = reached_state p.game s a i b ok.game state profile d; direction = within }) in
    record {
      positive = h.positive;
      next_known = λ k within. number_above (t (successor p.game s a) k) (u (successor p.game s a) k) (next_row k within) (h.next_known k within);
      reached_known = λ i b k d within. number_above (t (reached p.game s a i b) k) (u (reached p.game s a i b) k) (reached_row i b k d within) (h.reached_known i b k d within);
      half_planes = λ k x within e.
          let f = number_at_most (t (successor p.game s a) k) (u (successor p.game s a) k) x (next_row k within) e (h.next_known k within) in
          widen y.denominator _ f.0 x h.positive f.2 (h.half_planes k f.0 within f.1);
      incentives = λ i b x d e.
          let within : minus_axis i < direction_count p = minus_axis_known p i ok d.player in
          let f = number_at_most (t (reached p.game s a i b) (minus_axis i)) (u (reached p.game s a i b) (minus_axis i)) x (reached_row i b (minus_axis i) d within) e (h.reached_known i b (minus_axis i) d within) in
          loosen y.denominator _ _ f.0 x h.positive f.2 (h.incentives i b f.0 d f.1);
    }

-- player i's part of the value of a vector, in the unit of values
abbrev pub value_part : Problem → ℕ → ℕ → Fractions → ℕ → ℤ
value_part p s a y i =
    (pos ((p.game.q - discount_at p i) * p.game.base * fineness p) *ℤ payoff_at p.game s a i *ℤ y.denominator) +ℤ (pos (discount_at p i) *ℤ part y.numerators i)

-- the unit of values is positive
pub value_unit_positive : (p : Problem) (y : Fractions) → IsProblem p → pos 0 <ℤ y.denominator → pos 0 <ℤ value_unit p y
value_unit_positive p y ok positive =
    let q : 0 < p.game.q = q_positive p.game ok.game in
    product_above_zero (pos p.game.q) y.denominator (omega (arith, ints)) positive

-- a value that a lower table admits is at most the row level
below_row_level : (p : Problem) (t u : Levels) (s k : ℕ) (x : ℤ) (l : Level) → IsProblem p → s < states p.game → IsBelow p u t
    → HasValueAbove p u s k (x -ℤ pos 1) → IsRowLevel p t s k l → AtMost (At x) l
below_row_level p t u s k x Empty ok state below h level =
    level h.profile h.vector h.known (admissible_grows p u t s h.profile h.vector ok below state h.known h.admissible)
below_row_level p t u s k x (At z) ok state below h level =
    between_multiples (value_unit p h.vector) (value p s h.profile k h.vector) x z
    (value_unit_positive p h.vector ok h.admissible.positive)
    h.above
    (level.0 h.profile h.vector h.known (admissible_grows p u t s h.profile h.vector ok below state h.known h.admissible))

pub row_levels_grow : (p : Problem) (t u : Levels) (s k : ℕ) (l m : Level) → IsProblem p → s < states p.game → IsBelow p t u
    → IsRowLevel p t s k l → IsRowLevel p u s k m → AtMost l m
row_levels_grow p t u s k Empty m ok state below hl hm = tt
row_levels_grow p t u s k (At x) m ok state below hl hm = below_row_level p u t s k x m ok state below hl.1 hm

pub row_level_is_unique : (p : Problem) (t : Levels) (s k : ℕ) (l m : Level) → IsProblem p → s < states p.game → IsRowLevel p t s k l → IsRowLevel p t s k m → l ≡ m
row_level_is_unique p t s k l m ok state hl hm =
    let self : IsBelow p t t = λ r j row. level_at_most_self (t r j) in
    same_level l m (row_levels_grow p t t s k l m ok state self hl hm) (row_levels_grow p t t s k m l ok state self hm hl)

-- ---- supported tables
pub supported_at_most_row_level : (p : Problem) (t u : Levels) (s k : ℕ) (l : Level) → IsProblem p → IsRow p s k → IsBelow p u t → IsSupported p u 1
    → IsRowLevel p t s k l → AtMost (u s k) l
supported_at_most_row_level p t u s k l ok row below supported level = at (u s k) refl
  where
    at : (m : Level) → u s k ≡ m → AtMost m l
    at Empty e = tt
    at (At x) e = below_row_level p t u s k x l ok row.state below (supported.supports s k x row e) level

pub supported_at_most_lowered : (p : Problem) (t u : Levels) (s k : ℕ) (word l : Level) → IsProblem p → IsRow p s k → IsBelow p u t → IsSupported p u 1
    → AtMost (u s k) word → IsRowLevel p t s k l → AtMost (u s k) (lesser word l)
supported_at_most_lowered p t u s k word l ok row below supported h level =
    at_most_lesser (u s k) word l h (supported_at_most_row_level p t u s k l ok row below supported level)

pub supported_below_next : (p : Problem) (t u v : Levels) → IsProblem p → IsBelow p u t → IsSupported p u 1 → IsNext p t v → IsBelow p u v
supported_below_next p t u v ok below supported next s k row =
    let n = next s k row in
    subst (AtMost (u s k)) (sym n.2) (supported_at_most_lowered p t u s k (t s k) n.0 ok row below supported (below s k row) n.1)

pub supported_below_iterate : (p : Problem) (start u : Levels) (r : ℕ) (t : Levels) → IsProblem p → IsBelow p u start → IsSupported p u 1 → IsIterate p start r t → IsBelow p u t
supported_below_iterate p start u zero t ok below supported iterate = λ s k row. subst (AtMost (u s k)) (sym (iterate s k row)) (below s k row)
supported_below_iterate p start u (suc r) t ok below supported iterate =
    supported_below_next p iterate.0 u t ok (supported_below_iterate p start u r iterate.0 ok below supported iterate.1) supported iterate.2

pub next_is_below : (p : Problem) (t u : Levels) → IsNext p t u → IsBelow p u t
next_is_below p t u next s k row =
    let n = next s k row in
    subst (λ l. AtMost l (t s k)) (sym n.2) (lesser_at_most (t s k) n.0)

pub iterate_is_below : (p : Problem) (start : Levels) (r : ℕ) (t : Levels) → IsIterate p start r t → IsBelow p t start
iterate_is_below p start zero t iterate s k row = subst (λ l. AtMost l (start s k)) (sym (iterate s k row)) (level_at_most_self (start s k))
iterate_is_below p start (suc r) t iterate s k row =
    level_at_most_trans (t s k) (iterate.0 s k) (start s k) (next_is_below p iterate.0 t iterate.2 s k row) (iterate_is_below p start r iterate.0 iterate.1 s k row)

-- ---- the operator on whole tables
pub next_grows : (p : Problem) (t u t' u' : Levels) → IsProblem p → IsBelow p t u → IsNext p t t' → IsNext p u u' → IsBelow p t' u'
next_grows p t u t' u' ok below next next' s k row =
    let n = next s k row in
    let m = next' s k row in
    subst (AtMost (t' s k)) (sym m.2) (subst (λ l. AtMost l (lesser (u s k) m.0)) (sym n.2)
    (lesser_grows (t s k) n.0 (u s k) m.0 (below s k row) (row_levels_grow p t u s k n.0 m.0 ok row.state below n.1 m.1)))

pub iterates_grow : (p : Problem) (start start' : Levels) (r : ℕ) (t t' : Levels) → IsProblem p → IsBelow p start start' → IsIterate p start r t → IsIterate p start' r t' → IsBelow p t t'
iterates_grow p start start' zero t t' ok below iterate iterate' = λ s k row.
    subst (AtMost (t s k)) (sym (iterate' s k row)) (subst (λ l. AtMost l (start' s k)) (sym (iterate s k row)) (below s k row))
iterates_grow p start start' (suc r) t t' ok below iterate iterate' =
    next_grows p iterate.0 iterate'.0 t t' ok (iterates_grow p start start' r iterate.0 iterate'.0 ok below iterate.1 iterate'.1) iterate.2 iterate'.2
