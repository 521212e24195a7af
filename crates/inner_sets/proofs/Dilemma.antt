-- The prisoner's dilemma keeps the limits of a game.
use Rattle.std.proofs.Common.{◌≡◌, ℕ, zero, suc, ◌+◌, ◌-◌, ◌*◌, ◌^◌, ◌<◌, ◌≤◌, ⊎_elim, List, [], ◌∷◌, length, get_or, refl, ap, arith, lit<, lit≤}
use Rattle.std.specs.Prelude.{ℤ, pos, ◌≤ℤ◌, neg_ℤ, slice_index}
use Rattle.std.proofs.lemmas.Bool.{cases_lt}
use Rattle.std.proofs.lemmas.Int.{ints}
use Rattle.std.proofs.Math.Nat.{mul-le-mul_left}
use Rattle.game_model.specs.Game.{DynamicGame, counts, Divides}
use Rattle.game_model.specs.Parts.{KeepLimits}
use Rattle.game_model.specs.Worked.{prisoners}
use Rattle.game_model.proofs.Cases.{below_one, divides_one, in_range, two_at}

-- its parts, of whose base nothing is asked
abbrev pub shape : ℕ → ℕ → DynamicGame
shape p q = record (prisoners p q) { base = 1 }

dilemma_payoffs : List ℤ
dilemma_payoffs = pos 2 ∷ pos 2 ∷ pos 3 ∷ pos 0 ∷ pos 0 ∷ pos 3 ∷ pos 1 ∷ pos 1 ∷ []

payoffs_within : (k : ℕ) → k < 8 → (neg_ℤ (pos (2 ^ 26)) ≤ℤ get_or dilemma_payoffs k (pos 0)) × (get_or dilemma_payoffs k (pos 0) ≤ℤ pos (2 ^ 26))
unfolding dilemma_payoffs
payoffs_within zero h = in_range 2 (lit≤ tt)
payoffs_within (suc zero) h = in_range 2 (lit≤ tt)
payoffs_within (suc (suc zero)) h = in_range 3 (lit≤ tt)
payoffs_within (suc (suc (suc zero))) h = in_range 0 (lit≤ tt)
payoffs_within (suc (suc (suc (suc zero)))) h = in_range 0 (lit≤ tt)
payoffs_within (suc (suc (suc (suc (suc zero))))) h = in_range 3 (lit≤ tt)
payoffs_within (suc (suc (suc (suc (suc (suc zero)))))) h = in_range 1 (lit≤ tt)
payoffs_within (suc (suc (suc (suc (suc (suc (suc zero))))))) h = in_range 1 (lit≤ tt)
payoffs_within (suc (suc (suc (suc (suc (suc (suc (suc k)))))))) h = absurd (omega arith)

keeps_limits : (p q : ℕ) → 0 < p → p < q → q ≤ 1024 → ((d : ℕ) → Divides d q → Divides d p → d ≤ 1) → KeepLimits (shape p q)
unfolding dilemma_payoffs
keeps_limits p q some below few lowest = record {
  two_players = lit≤ tt;
  three_players = lit≤ tt;
  some_state = lit≤ tt;
  few_states = lit≤ tt;
  payoffs_listed = refl;
  next_listed = refl;
  some_strategy = λ s i hs hi. below_one (λ s. (i : ℕ) → i < length (counts (shape p q) s) → 1 ≤ slice_index (counts (shape p q) s) i) (two_at 2 (λ m. 1 ≤ m) (lit≤ tt)) s hs i hi;
  few_strategies = λ s i hs hi. below_one (λ s. (i : ℕ) → i < length (counts (shape p q) s) → slice_index (counts (shape p q) s) i ≤ 16) (two_at 2 (λ m. m ≤ 16) (lit≤ tt)) s hs i hi;
  payoffs_small = λ s k hs hk. below_one (λ s. (k : ℕ) → k < length (get_or (shape p q).payoffs s []) → (neg_ℤ (pos (2 ^ 26)) ≤ℤ get_or (get_or (shape p q).payoffs s []) k (pos 0)) × (get_or (get_or (shape p q).payoffs s []) k (pos 0) ≤ℤ pos (2 ^ 26))) payoffs_within s hs k hk;
  denominator_positive = omega (arith, ints);
  denominator_small = omega (arith, ints);
  discounts_listed = refl;
  discounts_positive = two_at p (λ p. 0 < p) some;
  discounts_below = two_at p (λ p. p < q) below;
  q_small = few;
  lowest = λ d whole each. lowest d whole (each 0 (lit< tt));
}

-- what divides two numbers that follow one another
divides_both : (d a b x : ℕ) → x ≡ d * a → x + 1 ≡ d * b → d ≤ 1
divides_both d a b x e f =
    ⊎_elim
    (λ (lt : a < b).
    let rest : b ≡ a + (b - a) = omega arith in
    let product : d * b ≡ d * (a + (b - a)) = ap (λ (k : ℕ). d * k) rest in
    divides_one d (b - a) (omega (arith, e, f, product)))
    (λ (ge : b ≤ a). let less : d * b ≤ d * a = mul-le-mul_left d ge in absurd (omega (arith, e, f, less)))
    (cases_lt a b)

pub half_keeps_limits : KeepLimits (shape 1 2)
half_keeps_limits = keeps_limits 1 2 (lit< tt) (lit< tt) (lit≤ tt) (λ d whole each. divides_one d each.0 each.1)

pub less_keeps_limits : KeepLimits (shape 49 100)
less_keeps_limits = keeps_limits 49 100 (lit< tt) (lit< tt) (lit≤ tt)
    (λ d whole each. divides_both d (24 * whole.0) (49 * each.0) 2400 (times_24 d whole.0 whole.1) (times_49 d each.0 each.1))
  where
    times_24 : (d k : ℕ) → 100 ≡ d * k → 2400 ≡ d * (24 * k)
    times_24 d k e = omega (arith, e)

    times_49 : (d k : ℕ) → 49 ≡ d * k → 2400 + 1 ≡ d * (49 * k)
    times_49 d k e = omega (arith, e)
