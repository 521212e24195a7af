-- Where each opening level is within its limit, so is each payoff of the game in the unit of levels.
use Rattle.std.proofs.Common.{◌≡◌, ℕ, ◌-◌, ◌*◌, ◌^◌, ◌<◌, ◌≤◌, [], ◌∷◌, refl, ap, ◌∙◌, arith, ℤ, pos, ◌*ℤ◌, ◌≤ℤ◌}
use Rattle.std.specs.Prelude.{neg_ℤ}
use Rattle.std.specs.Int.RustNames.{unsigned_abs}
use Rattle.std.proofs.lemmas.Int.{ints}
use Rattle.exact_algebra.specs.Poly.{var, lit, neg, ◌⊗◌}
use Rattle.exact_algebra.proofs.Normal.{ring}
use Rattle.exact_algebra.proofs.Order.{abs_within, at_most_trans, times_at_most, within_abs}
use Rattle.game_model.specs.Game.{DynamicGame, states, counts, profile_count, payoff_at}
use Rattle.game_model.specs.SelfGeneration.{part}
use Rattle.level_table.specs.Problem.{Problem, direction, direction_count, fineness, plus_axis, minus_axis, largest, largest_payoff, opening_level, IsProblem}
use Rattle.level_table.specs.Tables.{HasSmallOpening}
use Rattle.bound_laws.proofs.Directions.{part-plus_axis_same, part-plus_axis_other, part-minus_axis_same, part-minus_axis_other}
use Rattle.bound_laws.proofs.Opening.{payoff_at_most_largest}
use Rattle.bound_laws.proofs.Order.{nought_times}
use Rattle.bound_laws.proofs.Places.{plus_axis_known, minus_axis_known}
use Rattle.bound_laws.proofs.Sums.{sum_below-one, largest_reached}

largest_is_nought : (f : ℕ → ℤ) (n : ℕ) → ((i : ℕ) → f i ≡ pos 0) → largest f n ≡ pos 0
largest_is_nought f n h = let r = largest_reached f n in r.2 ∙ h r.0

weightless : (g : DynamicGame) (i : ℕ) → largest_payoff g (pos 0) i ≡ pos 0
weightless g i =
    largest_is_nought (λ s. largest (λ a. pos 0 *ℤ payoff_at g s a i) (profile_count (counts g s) - 1)) (states g - 1)
    (λ s. largest_is_nought (λ a. pos 0 *ℤ payoff_at g s a i) (profile_count (counts g s) - 1) (λ a. nought_times (payoff_at g s a i)))

-- the opening level of a direction that one player alone has a part in
opening_of_one : (p : Problem) (k i : ℕ) (v : ℤ) → i < p.game.players → part (direction p k) i ≡ v → ((j : ℕ) → (j ≡ i → ⊥) → part (direction p k) j ≡ pos 0)
    → opening_level p k ≡ pos (p.game.base * fineness p) *ℤ largest_payoff p.game v i
opening_of_one p k i v player here others =
    ap (λ z. pos (p.game.base * fineness p) *ℤ z)
    (sum_below-one (λ j. largest_payoff p.game (part (direction p k) j) j) p.game.players i player
    (λ j within other. ap (λ z. largest_payoff p.game z j) (others j other) ∙ weightless p.game j)
    ∙ ap (λ z. largest_payoff p.game z i) here)

-- a payoff, turned by v, is at most such an opening level
below_opening : (p : Problem) (k s a i : ℕ) (v : ℤ) → HasSmallOpening p → k < direction_count p → s < states p.game → a < profile_count (counts p.game s)
    → opening_level p k ≡ pos (p.game.base * fineness p) *ℤ largest_payoff p.game v i → (pos (p.game.base * fineness p) *ℤ (v *ℤ payoff_at p.game s a i)) ≤ℤ pos (2 ^ 50)
below_opening p k s a i v small within state profile is =
    let f : ℤ = pos (p.game.base * fineness p) in
    let most : (f *ℤ (v *ℤ payoff_at p.game s a i)) ≤ℤ (f *ℤ largest_payoff p.game v i) =
    times_at_most f (v *ℤ payoff_at p.game s a i) (largest_payoff p.game v i) (omega (arith, ints)) (payoff_at_most_largest p.game v i s a state profile) in
    at_most_trans (f *ℤ (v *ℤ payoff_at p.game s a i)) (f *ℤ largest_payoff p.game v i) (pos (2 ^ 50)) most (rw is at (within_abs (opening_level p k) (2 ^ 50) (small k within)).1)

pub payoff_scaled : (p : Problem) (s a i : ℕ) → IsProblem p → HasSmallOpening p → s < states p.game → a < profile_count (counts p.game s) → i < p.game.players
    → unsigned_abs (pos (p.game.base * fineness p) *ℤ payoff_at p.game s a i) ≤ 2 ^ 50
payoff_scaled p s a i ok small state profile player =
    let f : ℤ = pos (p.game.base * fineness p) in
    let u : ℤ = payoff_at p.game s a i in
    let plus = below_opening p (plus_axis i) s a i (pos 1) small (plus_axis_known p i ok player) state profile
    (opening_of_one p (plus_axis i) i (pos 1) player (part-plus_axis_same p i ok player) (λ j other. part-plus_axis_other p i j ok player other)) in
    let minus = below_opening p (minus_axis i) s a i (neg_ℤ (pos 1)) small (minus_axis_known p i ok player) state profile
    (opening_of_one p (minus_axis i) i (neg_ℤ (pos 1)) player (part-minus_axis_same p i ok player) (λ j other. part-minus_axis_other p i j ok player other)) in
    let up : f *ℤ (pos 1 *ℤ u) ≡ f *ℤ u = ring (f ∷ u ∷ []) (var 0 ⊗ (lit (pos 1) ⊗ var 1)) (var 0 ⊗ var 1) refl in
    let down : f *ℤ (neg_ℤ (pos 1) *ℤ u) ≡ neg_ℤ (f *ℤ u) = ring (f ∷ u ∷ []) (var 0 ⊗ (neg (lit (pos 1)) ⊗ var 1)) (neg (var 0 ⊗ var 1)) refl in
    let most : (f *ℤ u) ≤ℤ pos (2 ^ 50) = rw up at plus in
    let least : neg_ℤ (f *ℤ u) ≤ℤ pos (2 ^ 50) = rw down at minus in
    abs_within (f *ℤ u) (2 ^ 50) (turned (f *ℤ u) (2 ^ 50) least) most
  where
    turned : (x : ℤ) (n : ℕ) → neg_ℤ x ≤ℤ pos n → neg_ℤ (pos n) ≤ℤ x
    turned x n h = omega (arith, ints)
