-- How large payoffs and candidates are.
use Rattle.std.proofs.Common.{◌≡◌, ℕ, ◌+◌, ◌*◌, ◌<◌, ◌≤◌, ◌^◌, ⊎_elim, zero, suc, List, [], ◌∷◌, length, get_or, refl, sym, subst, arith}
use Rattle.std.specs.Prelude.{ℤ, pos, ◌-ℤ◌, ◌*ℤ◌, ◌≤ℤ◌, unsigned_abs}
use Rattle.std.proofs.lemmas.Int.{ints}
use Rattle.std.proofs.Math.Nat.{mul-le-mul}
use Rattle.exact_algebra.specs.Poly.{var, ◌⊕◌, ◌⊖◌, ◌⊗◌}
use Rattle.exact_algebra.proofs.Order.{abs_product, abs_within, at_most_by, product_at_least_zero}
use Rattle.game_model.specs.Game.{DynamicGame, IsGame, states, counts, profile_count, payoff_at}
use Rattle.game_model.specs.SelfGeneration.{part}
use Rattle.game_model.proofs.Lists.{few_profiles, payoff_place}
use Rattle.inner_sets.specs.Candidates.{IsPayoff, IsRange, IsLatticePart, IsLatticePoint, IsStagePoint, IsCandidate}
use Rattle.inner_sets.specs.Gains.{step_of}

pub some_profile : (g : DynamicGame) (s : ℕ) → IsGame g → s < states g → 0 < profile_count (counts g s)
some_profile g s ok state =
    let st = ok.each_state s state in
    positive_count (counts g s) (λ j h. st.some_strategy j (omega (arith, st.one_each)))
  where
    positive_count : (ms : List ℕ) → ((j : ℕ) → j < length ms → 1 ≤ get_or ms j 0) → 0 < profile_count ms
    positive_count [] h = omega arith
    positive_count (m ∷ ms) h =
        let first : 1 ≤ m = h 0 (omega arith) in
        let rest : 0 < profile_count ms = positive_count ms (λ j k. h (suc j) (omega arith)) in
        let both : 1 * 1 ≤ m * profile_count ms = mul-le-mul first rest in omega arith

pub payoff_small : (g : DynamicGame) (s a i : ℕ) → IsGame g → s < states g → a < profile_count (counts g s) → i < g.players → unsigned_abs (payoff_at g s a i) ≤ 2 ^ 26
payoff_small g s a i ok state known player =
    let st = ok.each_state s state in
    let place = payoff_place (profile_count (counts g s)) g.players a i known player ok.three_players (few_profiles g ok s state) in
    let both = st.payoffs_small (a * g.players + i) (omega (arith, place.0, st.payoffs_fit)) in
    abs_within (payoff_at g s a i) (2 ^ 26) both.0 both.1

pub reached_small : (g : DynamicGame) (i : ℕ) (x : ℤ) → IsGame g → i < g.players → IsPayoff g i x → unsigned_abs x ≤ 2 ^ 26
reached_small g i x ok player (s, a, state, known, is) = subst (λ (z : ℤ). unsigned_abs z ≤ 2 ^ 26) is (payoff_small g s a i ok state known player)

pub low_below_high : (g : DynamicGame) (i : ℕ) (low high : ℤ) → IsGame g → IsRange g i low high → low ≤ℤ high
low_below_high g i low high ok range =
    let state : 0 < states g = omega (arith, ok.some_state) in
    let both = range.between 0 0 state (some_profile g 0 ok state) in omega (arith, ints, both.0, both.1)

step_small : (n j : ℕ) (low high : ℤ) → n ≤ 16 → j ≤ n → low ≤ℤ high → unsigned_abs low ≤ 2 ^ 26 → unsigned_abs high ≤ 2 ^ 26 → unsigned_abs (step_of n low high j) ≤ 2 ^ 30
step_small n j low high few within order low_small high_small =
    let gap : pos 0 ≤ℤ (high -ℤ low) = omega (arith, ints) in
    let above : (pos n *ℤ low) ≤ℤ step_of n low high j =
    at_most_by (pos n ∷ low ∷ high ∷ pos j ∷ []) (var 0 ⊗ var 1) (var 0 ⊗ var 1 ⊕ (var 2 ⊖ var 1) ⊗ var 3) ((var 2 ⊖ var 1) ⊗ var 3) refl
    (product_at_least_zero (high -ℤ low) (pos j) gap (omega (arith, ints))) in
    let below : step_of n low high j ≤ℤ (pos n *ℤ high) =
    at_most_by (pos n ∷ low ∷ high ∷ pos j ∷ []) (var 0 ⊗ var 1 ⊕ (var 2 ⊖ var 1) ⊗ var 3) (var 0 ⊗ var 2) ((var 2 ⊖ var 1) ⊗ (var 0 ⊖ var 3)) refl
    (product_at_least_zero (high -ℤ low) (pos n -ℤ pos j) gap (omega (arith, ints))) in
    let least : unsigned_abs (pos n *ℤ low) ≤ 16 * 2 ^ 26 = abs_product (pos n) low 16 (2 ^ 26) few low_small in
    let most : unsigned_abs (pos n *ℤ high) ≤ 16 * 2 ^ 26 = abs_product (pos n) high 16 (2 ^ 26) few high_small in
    between_small (pos n *ℤ low) (step_of n low high j) (pos n *ℤ high) (2 ^ 30) least most above below
  where
    between_small : (a x b : ℤ) (m : ℕ) → unsigned_abs a ≤ m → unsigned_abs b ≤ m → a ≤ℤ x → x ≤ℤ b → unsigned_abs x ≤ m
    between_small a x b m h k above below = omega (arith, ints)

pub lattice_part_small : (g : DynamicGame) (n i : ℕ) (x : ℤ) → IsGame g → i < g.players → n ≤ 16 → IsLatticePart g n i x → unsigned_abs x ≤ 2 ^ 30
lattice_part_small g n i x ok player few (low, high, j, range, within, is) =
    subst (λ (z : ℤ). unsigned_abs z ≤ 2 ^ 30) (sym is)
    (step_small n j low high few within (low_below_high g i low high ok range) (reached_small g i low ok player range.low_reached) (reached_small g i high ok player range.high_reached))

stage_part_small : (g : DynamicGame) (n s a i : ℕ) (x : ℤ) → IsGame g → i < g.players → n ≤ 16 → s < states g → a < profile_count (counts g s) → x ≡ pos n *ℤ payoff_at g s a i → unsigned_abs x ≤ 2 ^ 30
stage_part_small g n s a i x ok player few state known is =
    subst (λ (z : ℤ). unsigned_abs z ≤ 2 ^ 30) (sym is) (abs_product (pos n) (payoff_at g s a i) 16 (2 ^ 26) few (payoff_small g s a i ok state known player))

-- each part of a candidate is small
pub candidate_small : (g : DynamicGame) (n s : ℕ) (v : List ℤ) → IsGame g → g.players ≡ 2 → n ≤ 16 → s < states g → IsCandidate g n s v → (i : ℕ) → i < 2 → unsigned_abs (part v i) ≤ 2 ^ 30
candidate_small g n s v ok two few state (two_parts, kind) i player =
    ⊎_elim
    (λ (stage : IsStagePoint g n s v). by_stage i player stage)
    (λ (lattice : IsLatticePoint g n v). by_lattice i player lattice)
    kind
  where
    by_stage : (i : ℕ) → i < 2 → IsStagePoint g n s v → unsigned_abs (part v i) ≤ 2 ^ 30
    by_stage zero player (a, known, first, second) = stage_part_small g n s a 0 (part v 0) ok (omega (arith, two)) few state known first
    by_stage (suc zero) player (a, known, first, second) = stage_part_small g n s a 1 (part v 1) ok (omega (arith, two)) few state known second
    by_stage (suc (suc i)) player stage = absurd (omega arith)

    by_lattice : (i : ℕ) → i < 2 → IsLatticePoint g n v → unsigned_abs (part v i) ≤ 2 ^ 30
    by_lattice zero player (first, second) = lattice_part_small g n 0 (part v 0) ok (omega (arith, two)) few first
    by_lattice (suc zero) player (first, second) = lattice_part_small g n 1 (part v 1) ok (omega (arith, two)) few second
    by_lattice (suc (suc i)) player lattice = absurd (omega arith)
