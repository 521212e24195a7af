-- The game that is made keeps the limits, and its shape has no fault.
use Rattle.std.proofs.Common.{◌≡◌, ℕ, suc, ◌/◌, ◌%◌, ◌<◌, ◌≤◌, ◌^◌, List, [], ◌∷◌, length, get_or, Bool, false, None, lit<, lit≤, refl, sym, ap, subst, ◌∙◌, arith, neg_ℤ, pos, ◌≤ℤ◌}
use Rattle.std.specs.Prelude.{nat_le}
use Rattle.std.specs.List.{find}
use Rattle.std.proofs.lemmas.Bool.{lt-leb}
use Rattle.std.proofs.lemmas.Int.{ints}
use Rattle.game_model.specs.Game.{IsLeastCommonMultiple, Divides, counts, states}
use Rattle.game_model.specs.Parts.{HasNoFault, KeepLimits, list_fault}
use Rattle.game_model.proofs.Cases.{divides_one, two_at}
use Rattle.case_maker.specs.Generated.{generated_game, next_drawn, payoff_drawn, payoffs_drawn, successors_drawn}
use Rattle.case_maker.proofs.Listed.{get_or-listed, length-listed}

pub sizes : (seed count s : ℕ) → s < count → counts (generated_game seed count) s ≡ 4 ∷ 4 ∷ []
sizes seed count s h = get_or-listed (λ s. 4 ∷ 4 ∷ []) count s [] h

pub state_count : (seed count : ℕ) → states (generated_game seed count) ≡ count
state_count seed count = length-listed (λ s. 4 ∷ 4 ∷ []) count

small : (x : ℕ) → x < 16 → (neg_ℤ (pos (2 ^ 26)) ≤ℤ pos x) × (pos x ≤ℤ pos (2 ^ 26))
small x h = (omega (arith, ints), omega (arith, ints))

pub keeps_limits : (seed count : ℕ) → 1 ≤ count → count ≤ 64 → KeepLimits (generated_game seed count)
keeps_limits seed count some few =
    let all : states (generated_game seed count) ≡ count = state_count seed count in
    record {
      two_players = lit≤ tt;
      three_players = lit≤ tt;
      some_state = omega (arith, all);
      few_states = omega (arith, all);
      payoffs_listed = length-listed (payoffs_drawn seed) count ∙ sym all;
      next_listed = length-listed (successors_drawn seed count) count ∙ sym all;
      some_strategy = λ s i hs hi.
          let e = sizes seed count s (omega (arith, all)) in
          subst (λ xs. 1 ≤ get_or xs i 0) (sym e) (two_at 4 (λ m. 1 ≤ m) (lit≤ tt) i (subst (λ xs. i < length xs) e hi));
      few_strategies = λ s i hs hi.
          let e = sizes seed count s (omega (arith, all)) in
          subst (λ xs. get_or xs i 0 ≤ 16) (sym e) (two_at 4 (λ m. m ≤ 16) (lit≤ tt) i (subst (λ xs. i < length xs) e hi));
      payoffs_small = λ s k hs hk.
          let e = get_or-listed (payoffs_drawn seed) count s [] (omega (arith, all)) in
          let within : k < 32 = omega (arith, subst (λ xs. k < length xs) e hk, length-listed (λ k. pos (payoff_drawn seed s (k / 2) (k % 2))) 32) in
          let here = ap (λ xs. get_or xs k (pos 0)) e ∙ get_or-listed (λ k. pos (payoff_drawn seed s (k / 2) (k % 2))) 32 k (pos 0) within in
          subst (λ x. (neg_ℤ (pos (2 ^ 26)) ≤ℤ x) × (x ≤ℤ pos (2 ^ 26))) (sym here) (small (payoff_drawn seed s (k / 2) (k % 2)) (omega arith));
      denominator_positive = omega (arith, ints);
      denominator_small = omega (arith, ints);
      discounts_listed = refl;
      discounts_positive = two_at 1 (λ p. 0 < p) (lit< tt);
      discounts_below = two_at 1 (λ p. p < 2) (lit< tt);
      q_small = lit≤ tt;
      lowest = λ d whole each. let e = each 0 (lit< tt) in divides_one d e.0 e.1;
    }

-- nothing is found where each number fails the test
find_nothing : (p : ℕ → Bool) (xs : List ℕ) → ((i : ℕ) → i < length xs → p (get_or xs i 0) ≡ false) → find p xs ≡ None
find_nothing p [] h = refl
find_nothing p (x ∷ xs) h =
    let first : p x ≡ false = h 0 (omega arith) in
    rw first (find_nothing p xs (λ i l. h (suc i) (omega arith)))

no_fault_in : (s n payoffs : ℕ) (next : List ℕ) → payoffs ≡ 32 → length next ≡ 16 → find (λ t. nat_le n t) next ≡ None → list_fault 2 n s (4 ∷ 4 ∷ []) payoffs next ≡ None
no_fault_in s n payoffs next e f g = rw (e, f, g) refl

pub has_no_fault : (seed count : ℕ) → 1 ≤ count → HasNoFault (generated_game seed count)
has_no_fault seed count some s h =
    let all : states (generated_game seed count) ≡ count = state_count seed count in
    let known : s < count = omega (arith, all) in
    let payoffs = get_or-listed (payoffs_drawn seed) count s [] known in
    let next = get_or-listed (successors_drawn seed count) count s [] known in
    let below : (i : ℕ) → i < length (successors_drawn seed count s) → nat_le count (get_or (successors_drawn seed count s) i 0) ≡ false =
    λ i l.
    let few : i < 16 = omega (arith, length-listed (next_drawn seed count s) 16) in
    let drawn = get_or-listed (next_drawn seed count s) 16 i 0 few in
    lt-leb count _ (omega (arith, drawn)) in
    let here : list_fault 2 count s (4 ∷ 4 ∷ []) (length (payoffs_drawn seed s)) (successors_drawn seed count s) ≡ None =
    no_fault_in s count _ _ (length-listed (λ k. pos (payoff_drawn seed s (k / 2) (k % 2))) 32) (length-listed (next_drawn seed count s) 16) (find_nothing (λ t. nat_le count t) _ below) in
    rw (sizes seed count s known, payoffs, next, all) here

-- a game of these numbers has 1 as the base of its discounts
pub base_is_one : (b : ℕ) → IsLeastCommonMultiple (1 ∷ 1 ∷ []) b → b ≡ 1
base_is_one b h =
    let one : Divides b 1 = h.least 1 (two_at 1 (λ p. Divides p 1) (1, refl)) in
    let upto : b ≤ 1 = divides_one b one.0 one.1 in
    omega (arith, h.positive)
