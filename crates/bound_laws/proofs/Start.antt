-- The opening table is a start, and iterates of a start keep its range.
use Rattle.std.proofs.Common.{◌≡◌, inr, ℕ, zero, suc, ◌*◌, ◌<◌, ◌≤◌, [], ◌∷◌, refl, ap, sym, ◌∙◌, subst, arith}
use Rattle.std.specs.Prelude.{ℤ, pos, ◌*ℤ◌, ◌≤ℤ◌, neg_ℤ}
use Rattle.std.specs.Int.{int_min}
use Rattle.std.proofs.lemmas.Int.{ints, clamps}
use Rattle.exact_algebra.specs.Poly.{var, lit, neg, ◌⊗◌}
use Rattle.exact_algebra.proofs.Normal.{ring}
use Rattle.exact_algebra.proofs.Order.{at_most_self, at_most_trans, times_at_most}
use Rattle.bound_laws.proofs.Order.{at_most_along, at_most_turned, minus_times, negative_times}
use Rattle.direction_set.specs.DirectionTable.{opposite_of}
use Rattle.game_model.specs.Game.{DynamicGame, IsGame, states, counts, profile_count, payoff_at}
use Rattle.game_model.specs.SelfGeneration.{part, sum_below}
use Rattle.level_table.specs.declared.level.Level.{Level}
use Rattle.level_table.specs.declared.level.Level.TheVariants.{Empty, At}
use Rattle.level_table.specs.Problem.{Problem, direction, fineness, largest_payoff, opening_level, IsProblem}
use Rattle.level_table.specs.Levels.{Levels, AtMost, IsBelow, IsRow, lesser, opening_table}
use Rattle.level_table.specs.Iterates.{IsIterate}
use Rattle.level_table.specs.Start.{IsBetween, IsStart}
use Rattle.bound_laws.specs.Laws.{HasBounds, HasRange}
use Rattle.bound_laws.proofs.Directions.{part-opposite}
use Rattle.bound_laws.proofs.Opening.{payoff_at_most_largest, opening_bounds, profile_count_positive, row_level_is_between, top_payoff}
use Rattle.bound_laws.proofs.Places.{each_positive}
use Rattle.bound_laws.proofs.Sums.{sum_below-times, sum_below-at_most}

-- ---- a direction's opening level and the opposite one are a height apart that is not negative
largest_opposite : (g : DynamicGame) (c d : ℤ) (i : ℕ) → IsGame g → d ≡ neg_ℤ c → (neg_ℤ (pos 1) *ℤ largest_payoff g d i) ≤ℤ largest_payoff g c i
largest_opposite g c d i ok e =
    let u : ℤ = payoff_at g 0 0 i in
    let some : 1 ≤ states g = ok.some_state in
    let state : 0 < states g = omega arith in
    let profile : 0 < profile_count (counts g 0) = profile_count_positive (counts g 0) (each_positive g 0 ok state) in
    let up : (c *ℤ u) ≤ℤ largest_payoff g c i = payoff_at_most_largest g c i 0 0 state profile in
    let down : neg_ℤ (c *ℤ u) ≤ℤ largest_payoff g d i = at_most_along (ap (λ z. z *ℤ u) e ∙ negative_times c u) refl (payoff_at_most_largest g d i 0 0 state profile) in
    at_most_along (sym (minus_times (largest_payoff g d i))) refl
    (at_most_trans (neg_ℤ (largest_payoff g d i)) (c *ℤ u) (largest_payoff g c i) (at_most_turned (c *ℤ u) (largest_payoff g d i) down) up)

opening_is_between : (p : Problem) (s k : ℕ) → IsProblem p → IsRow p s k → IsBetween p k (opening_table p s k)
opening_is_between p s k ok row =
    let f : ℤ = pos (p.game.base * fineness p) in
    let there : ℤ = sum_below (top_payoff p (opposite_of k)) p.game.players in
    let here : ℤ = sum_below (top_payoff p k) p.game.players in
    let sums : (neg_ℤ (pos 1) *ℤ there) ≤ℤ here = at_most_along (sum_below-times (neg_ℤ (pos 1)) (top_payoff p (opposite_of k)) p.game.players) refl
    (sum_below-at_most (λ i. neg_ℤ (pos 1) *ℤ top_payoff p (opposite_of k) i) (top_payoff p k) p.game.players
    (λ i player. largest_opposite p.game (part (direction p k) i) (part (direction p (opposite_of k)) i) i ok.game (part-opposite p k i ok row.direction))) in (
      at_most_along (ring (f ∷ there ∷ []) (var 0 ⊗ (neg (lit (pos 1)) ⊗ var 1)) (neg (var 0 ⊗ var 1)) refl) refl
          (times_at_most f (neg_ℤ (pos 1) *ℤ there) here (omega (arith, ints)) sums),
      at_most_self (opening_level p k),
    )

pub opening_has_bounds : (p : Problem) → IsProblem p → HasBounds p (opening_table p)
opening_has_bounds p ok s k row = opening_bounds p s k ok row

pub opening_is_start : (p : Problem) → IsProblem p → IsStart p (opening_table p) []
opening_is_start p ok =
    record {
      between = λ s k row. opening_is_between p s k ok row;
      bounds = opening_has_bounds p ok;
      even = λ s state. inr (λ k within. tt);
      named = λ s k row e. cc;
      emptied = λ s k row h. absurd (let none : h.0 < 0 = h.1 in omega arith);
      right = λ l within. absurd (omega arith);
      kept_above = λ l within. absurd (omega arith);
    }

-- ---- iterates
pub between_is_below : (p : Problem) (t : Levels) → HasRange p t → IsBelow p t (opening_table p)
between_is_below p t between s k row = at (t s k) (between s k row)
  where
    at : (l : Level) → IsBetween p k l → AtMost l (At (opening_level p k))
    at Empty h = tt
    at (At x) h = h.1

pub lesser_is_between : (p : Problem) (k : ℕ) (l m : Level) → IsBetween p k l → IsBetween p k m → IsBetween p k (lesser l m)
lesser_is_between p k Empty m h n = tt
lesser_is_between p k (At x) Empty h n = tt
lesser_is_between p k (At x) (At y) h n = (at_least (opening_level p (opposite_of k)) h.0 n.0, at_most (opening_level p k) h.1 n.1)
  where
    at_least : (o : ℤ) → neg_ℤ o ≤ℤ x → neg_ℤ o ≤ℤ y → neg_ℤ o ≤ℤ int_min x y
    at_least o i j = omega (arith, ints, clamps)

    at_most : (o : ℤ) → x ≤ℤ o → y ≤ℤ o → int_min x y ≤ℤ o
    at_most o i j = omega (arith, ints, clamps)

pub iterate_is_between : (p : Problem) (start : Levels) (r : ℕ) (t : Levels) → IsProblem p → HasRange p start
    → IsIterate p start r t → (s k : ℕ) → IsRow p s k → IsBetween p k (t s k)
iterate_is_between p start zero t ok between iterate s k row = subst (IsBetween p k) (sym (iterate s k row)) (between s k row)
iterate_is_between p start (suc r) t ok between iterate s k row =
    let old_between : (r' j : ℕ) → IsRow p r' j → IsBetween p j (iterate.0 r' j) = iterate_is_between p start r iterate.0 ok between iterate.1 in
    let n = iterate.2 s k row in
    subst (IsBetween p k) (sym n.2)
    (lesser_is_between p k (iterate.0 s k) n.0 (old_between s k row) (row_level_is_between p iterate.0 s k n.0 ok (between_is_below p iterate.0 old_between) row n.1))
