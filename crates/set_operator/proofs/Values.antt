-- What the best point of a profile's program is worth.
use Rattle.std.proofs.Common.{◌≡◌, ℕ, ◌^◌, ◌≤◌, List, [], ◌∷◌, refl, ap, sym, ◌∙◌, subst, arith}
use Rattle.std.specs.Prelude.{ℤ, pos, ◌+ℤ◌, ◌*ℤ◌, ◌≤ℤ◌}
use Rattle.std.specs.Int.RustNames.{unsigned_abs}
use Rattle.std.proofs.lemmas.Int.{ints}
use Rattle.exact_algebra.specs.Poly.{var, ◌⊕◌, ◌⊗◌}
use Rattle.exact_algebra.specs.Sums.{dot}
use Rattle.exact_algebra.proofs.Normal.{ring}
use Rattle.exact_algebra.proofs.Order.{plus_at_most, at_most_self}
use Rattle.bound_laws.proofs.Order.{at_most_along}
use Rattle.bound_laws.proofs.Sums.{sum_below-same, sum_below-plus, sum_below-times}
use Rattle.game_model.specs.Game.{payoff_at}
use Rattle.game_model.specs.SelfGeneration.{part, sum_below}
use Rattle.game_model.specs.SelfGeneration.{dot as players_dot}
use Rattle.level_table.specs.Problem.{Problem, IsProblem, direction, discount_at}
use Rattle.level_table.specs.Levels.{Levels}
use Rattle.level_table.specs.Operator.{Fractions, value}
use Rattle.lp_cert.specs.Program.{Program}
use Rattle.lp_cert.proofs.Duality.{bound_holds}
use Rattle.lp_core.specs.Answer.{IsBestPoint}
use Rattle.lp_core.specs.declared.Point.{Point}
use Rattle.set_operator.specs.declared.best.Best.{Best}
use Rattle.set_operator.specs.declared.boxes.ProfileBox.{ProfileBox}
use Rattle.set_operator.specs.Boxes.{IsBoxOf, point_of, stage_at, stage_scale}
use Rattle.set_operator.specs.Program.{IsObjective, IsProgramOf, stage_value}
use Rattle.set_operator.specs.Search.{IsBestOf}
use Rattle.set_operator.proofs.Points.{first_three, dot_first, dots_agree, meets_rows, admits_point, vector_of}

-- the objective along a vector
pub objective_dot : (p : Problem) (k : ℕ) (o y : List ℤ) → IsProblem p → IsObjective p k o → dot o (first_three y) ≡ players_dot p.game.players o y
objective_dot p k o y ok is = dots_agree p.game.players o y ok.directions.at_least_two_players ok.directions.at_most_three_players is.three is.unused

-- a value is the payoffs of the profile, and the objective along the vector
pub value_is : (p : Problem) (t : Levels) (b : ProfileBox) (k : ℕ) (o : List ℤ) (z : Fractions) → IsProblem p → IsBoxOf p t b → IsObjective p k o
    → value p b.state b.profile k z ≡ (z.denominator *ℤ stage_value p b k) +ℤ dot o (first_three z.numerators)
value_is p t b k o z ok box is =
    sum_below-same
    (λ i. part (direction p k) i *ℤ ((pos (stage_scale p i) *ℤ payoff_at p.game b.state b.profile i *ℤ z.denominator) +ℤ (pos (discount_at p i) *ℤ part z.numerators i)))
    (λ i. (z.denominator *ℤ (part (direction p k) i *ℤ stage_at b i)) +ℤ (part o i *ℤ part z.numerators i)) p.game.players
    (λ i w.
    ring (part (direction p k) i ∷ (pos (stage_scale p i) *ℤ payoff_at p.game b.state b.profile i) ∷ z.denominator ∷ pos (discount_at p i) ∷ part z.numerators i ∷ [])
    (var 0 ⊗ ((var 1 ⊗ var 2) ⊕ (var 3 ⊗ var 4))) ((var 2 ⊗ (var 0 ⊗ var 1)) ⊕ ((var 3 ⊗ var 0) ⊗ var 4)) refl
    ∙ ap (λ x. (z.denominator *ℤ (part (direction p k) i *ℤ x)) +ℤ ((pos (discount_at p i) *ℤ part (direction p k) i) *ℤ part z.numerators i)) (sym (box.stage i w))
    ∙ ap (λ x. (z.denominator *ℤ (part (direction p k) i *ℤ stage_at b i)) +ℤ (x *ℤ part z.numerators i)) (sym (is.part_is i w)))
    ∙ sum_below-plus (λ i. z.denominator *ℤ (part (direction p k) i *ℤ stage_at b i)) (λ i. part o i *ℤ part z.numerators i) p.game.players
    ∙ ap (λ x. x +ℤ sum_below (λ i. part o i *ℤ part z.numerators i) p.game.players) (sum_below-times z.denominator (λ i. part (direction p k) i *ℤ stage_at b i) p.game.players)
    ∙ ap (λ x. (z.denominator *ℤ stage_value p b k) +ℤ x) (sym (objective_dot p k o z.numerators ok is))

-- den * (zd * s + d) ≤ (den * s + v) * zd, from den * d ≤ v * zd
crossed : (zd s d den v : ℤ) → (den *ℤ d) ≤ℤ (v *ℤ zd) → (((zd *ℤ s) +ℤ d) *ℤ den) ≤ℤ (((den *ℤ s) +ℤ v) *ℤ zd)
crossed zd s d den v h =
    at_most_along
    (ring (zd ∷ s ∷ d ∷ den ∷ []) (((var 0 ⊗ var 1) ⊗ var 3) ⊕ (var 3 ⊗ var 2)) (((var 0 ⊗ var 1) ⊕ var 2) ⊗ var 3) refl)
    (ring (zd ∷ s ∷ v ∷ den ∷ []) (((var 0 ⊗ var 1) ⊗ var 3) ⊕ (var 2 ⊗ var 0)) (((var 3 ⊗ var 1) ⊕ var 2) ⊗ var 0) refl)
    (plus_at_most ((zd *ℤ s) *ℤ den) ((zd *ℤ s) *ℤ den) (den *ℤ d) (v *ℤ zd) (at_most_self ((zd *ℤ s) *ℤ den)) h)

den_fits : (x : ℤ) (m : ℕ) → unsigned_abs x ≤ m → x ≤ℤ pos m
den_fits x m h = omega (arith, ints)

pub best_from : (p : Problem) (t : Levels) (b : ProfileBox) (k : ℕ) (rows : Program) (o : List ℤ) (point : Point) (v : ℤ) (items : List (ℕ × ℤ)) (best : Best)
    → IsProblem p → IsBoxOf p t b → IsProgramOf p t b rows → IsObjective p k o → IsBestPoint rows o point v items
    → best.point ≡ point → best.profile ≡ b.profile → best.value ≡ (point.den *ℤ stage_value p b k) +ℤ v → unsigned_abs best.value ≤ 2 ^ 103
    → IsBestOf p t b.state k b.profile best
best_from p t b k rows o point v items best ok box prog is lp here_is profile_is value_is_sum small =
    subst (λ (x : Best). IsBestOf p t b.state k b.profile x) (sym (best_same best point (point.den *ℤ stage_value p b k +ℤ v) here_is value_is_sum)) (record {
      profile_is = profile_is;
      admissible = admits_point p t b rows point.num point.den ok box prog lp.meets;
      here = value_is p t b k o (point_of point) ok box is
          ∙ ap (λ x. (point.den *ℤ stage_value p b k) +ℤ x) (sym (dot_first o point.num is.three) ∙ lp.reaches);
      largest = λ z adm.
          at_most_along (ap (λ x. x *ℤ point.den) (sym (value_is p t b k o z ok box is))) refl
          (crossed z.denominator (stage_value p b k) (dot o (first_three z.numerators)) point.den v
          (bound_holds rows o items v point.den (vector_of z) is.three prog.program lp.proves (meets_rows p t b rows z ok box prog adm)));
      small = record {
        value_small = subst (λ x. unsigned_abs x ≤ 2 ^ 103) value_is_sum small;
        positive = lp.meets.positive;
        den_small = den_fits point.den (2 ^ 20) lp.small_den;
        num_small = lp.small_num;
      };
    })
  where
    best_same : (x : Best) (q : Point) (w : ℤ) → x.point ≡ q → x.value ≡ w → x ≡ record { value = w; profile = x.profile; point = q }
    best_same x q w e f = ap (λ r. record { value = x.value; profile = x.profile; point = r }) e ∙ ap (λ r. record { value = r; profile = x.profile; point = q }) f
