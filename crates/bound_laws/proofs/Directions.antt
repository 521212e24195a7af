-- What a table of directions says of sums over players.
use Rattle.std.proofs.Common.{◌≡◌, ◌≢◌, ℕ, zero, suc, ◌<◌, List, [], ◌∷◌, refl, ap, sym, ◌∙◌, arith}
use Rattle.std.specs.Prelude.{ℤ, pos, ◌*ℤ◌, neg_ℤ}
use Rattle.std.proofs.lemmas.List.{get_or_default, get_or-set_same, get_or-set_other}
use Rattle.direction_set.specs.DirectionTable.{vector_at, negative, unit_vector, zero_vector, opposite_of}
use Rattle.game_model.specs.SelfGeneration.{part, dot}
use Rattle.level_table.specs.Problem.{Problem, direction_count, direction, plus_axis, minus_axis, IsProblem}
use Rattle.bound_laws.proofs.Order.{nought_times, one_times, minus_times}
use Rattle.bound_laws.proofs.Places.{plus_axis_known, minus_axis_known}
use Rattle.bound_laws.proofs.Sums.{sum_below-one}

pub direction_is : (p : Problem) (k : ℕ) → k < direction_count p → direction p k ≡ vector_at p.directions k
direction_is p k within = get_or_default p.directions k [] zero_vector within

part-negative : (v : List ℤ) (j : ℕ) → part (negative v) j ≡ neg_ℤ (part v j)
part-negative [] j = refl
part-negative (x ∷ v) zero = refl
part-negative (x ∷ v) (suc j) = part-negative v j

part-zero_vector : (j : ℕ) → part zero_vector j ≡ pos 0
part-zero_vector zero = refl
part-zero_vector (suc zero) = refl
part-zero_vector (suc (suc zero)) = refl
part-zero_vector (suc (suc (suc j))) = refl

part-unit_same : (i : ℕ) → i < 3 → part (unit_vector i) i ≡ pos 1
part-unit_same i within = get_or-set_same zero_vector i (pos 1) (pos 0) within

part-unit_other : (i j : ℕ) → j ≢ i → part (unit_vector i) j ≡ pos 0
part-unit_other i j other = get_or-set_other zero_vector i j (pos 1) (pos 0) other ∙ part-zero_vector j

-- ---- the axes
pub part-plus_axis_same : (p : Problem) (i : ℕ) → IsProblem p → i < p.game.players → part (direction p (plus_axis i)) i ≡ pos 1
part-plus_axis_same p i ok player =
    ap (λ v. part v i) (direction_is p (plus_axis i) (plus_axis_known p i ok player) ∙ ok.directions.plus_axis i player)
    ∙ part-unit_same i (omega (arith, ok.directions.at_most_three_players))

pub part-plus_axis_other : (p : Problem) (i j : ℕ) → IsProblem p → i < p.game.players → j ≢ i → part (direction p (plus_axis i)) j ≡ pos 0
part-plus_axis_other p i j ok player other =
    ap (λ v. part v j) (direction_is p (plus_axis i) (plus_axis_known p i ok player) ∙ ok.directions.plus_axis i player) ∙ part-unit_other i j other

pub part-minus_axis_same : (p : Problem) (i : ℕ) → IsProblem p → i < p.game.players → part (direction p (minus_axis i)) i ≡ neg_ℤ (pos 1)
part-minus_axis_same p i ok player =
    ap (λ v. part v i) (direction_is p (minus_axis i) (minus_axis_known p i ok player) ∙ ok.directions.minus_axis i player)
    ∙ part-negative (unit_vector i) i ∙ ap neg_ℤ (part-unit_same i (omega (arith, ok.directions.at_most_three_players)))

pub part-minus_axis_other : (p : Problem) (i j : ℕ) → IsProblem p → i < p.game.players → j ≢ i → part (direction p (minus_axis i)) j ≡ pos 0
part-minus_axis_other p i j ok player other =
    ap (λ v. part v j) (direction_is p (minus_axis i) (minus_axis_known p i ok player) ∙ ok.directions.minus_axis i player)
    ∙ part-negative (unit_vector i) j ∙ ap neg_ℤ (part-unit_other i j other)

pub dot-plus_axis : (p : Problem) (i : ℕ) (w : List ℤ) → IsProblem p → i < p.game.players → dot p.game.players (direction p (plus_axis i)) w ≡ part w i
dot-plus_axis p i w ok player =
    sum_below-one (λ j. part (direction p (plus_axis i)) j *ℤ part w j) p.game.players i player
    (λ j within other. ap (λ z. z *ℤ part w j) (part-plus_axis_other p i j ok player other) ∙ nought_times (part w j))
    ∙ ap (λ z. z *ℤ part w i) (part-plus_axis_same p i ok player) ∙ one_times (part w i)

pub dot-minus_axis : (p : Problem) (i : ℕ) (w : List ℤ) → IsProblem p → i < p.game.players → dot p.game.players (direction p (minus_axis i)) w ≡ neg_ℤ (part w i)
dot-minus_axis p i w ok player =
    sum_below-one (λ j. part (direction p (minus_axis i)) j *ℤ part w j) p.game.players i player
    (λ j within other. ap (λ z. z *ℤ part w j) (part-minus_axis_other p i j ok player other) ∙ nought_times (part w j))
    ∙ ap (λ z. z *ℤ part w i) (part-minus_axis_same p i ok player) ∙ minus_times (part w i)

-- ---- opposites
pub opposite_known : (p : Problem) (k : ℕ) → IsProblem p → k < direction_count p → opposite_of k < direction_count p
opposite_known p k ok within = ok.directions.opposite_within k within

pub part-opposite : (p : Problem) (k j : ℕ) → IsProblem p → k < direction_count p → part (direction p (opposite_of k)) j ≡ neg_ℤ (part (direction p k) j)
part-opposite p k j ok within =
    ap (λ v. part v j) (direction_is p (opposite_of k) (opposite_known p k ok within) ∙ ok.directions.opposite_is_negative k within ∙ ap negative (sym (direction_is p k within)))
    ∙ part-negative (direction p k) j
