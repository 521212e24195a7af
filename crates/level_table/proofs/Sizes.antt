-- bounds of payoffs and bases
use Rattle.std.proofs.Common.{◌≡◌, ℕ, zero, suc, ◌+◌, ◌*◌, ◌^◌, ◌<◌, ◌≤◌, List, [], ◌∷◌, length, get_or, refl, ap, ◌∙◌, arith, ℤ, pos, ◌≤ℤ◌, neg_ℤ}
use Rattle.std.specs.Int.RustNames.{unsigned_abs}
use Rattle.std.proofs.Math.Nat.{mul-le-mul, pow-succ'}
use Rattle.std.proofs.Math.Pow.{pow_mono}
use Rattle.exact_algebra.proofs.Order.{abs_within, within_abs}
use Rattle.game_model.specs.Game.{DynamicGame, states, counts, profile_count, payoff_at, Divides, IsGame, IsState}

pub between_abs : (z : ℤ) (n : ℕ) → unsigned_abs z ≤ n → (neg_ℤ (pos n) ≤ℤ z) × (z ≤ℤ pos n)
between_abs = within_abs

product : List ℕ → ℕ
product [] = 1
product (x ∷ xs) = x * product xs

divides_product : (ps : List ℕ) (i : ℕ) → i < length ps → Divides (get_or ps i 0) (product ps)
unfolding product
divides_product [] i h = absurd (omega arith)
divides_product (x ∷ xs) zero h = (product xs, refl)
divides_product (x ∷ xs) (suc i) h =
    let d : Divides (get_or xs i 0) (product xs) = divides_product xs i (omega arith) in
    (x * d.0, ap (λ n. x * n) d.1 ∙ omega arith)

product_positive : (ps : List ℕ) → ((i : ℕ) → i < length ps → 0 < get_or ps i 0) → 1 ≤ product ps
unfolding product
product_positive [] h = omega arith
product_positive (x ∷ xs) h =
    let here : 1 ≤ x = h 0 (omega arith) in
    let rest : 1 ≤ product xs = product_positive xs (λ i below. h (suc i) (omega arith)) in
    omega (arith, mul-le-mul here rest)

product_small : (ps : List ℕ) → ((i : ℕ) → i < length ps → get_or ps i 0 ≤ 1024) → product ps ≤ 1024 ^ length ps
unfolding product
product_small [] h = omega arith
product_small (x ∷ xs) h =
    let here : x ≤ 1024 = h 0 (omega arith) in
    let rest : product xs ≤ 1024 ^ length xs = product_small xs (λ i below. h (suc i) (omega arith)) in
    rw (pow-succ' 1024 (length xs)) (mul-le-mul here rest)

power_small : (n : ℕ) → n ≤ 3 → 1024 ^ n ≤ 2 ^ 30
power_small zero h = omega arith
power_small (suc zero) h = omega arith
power_small (suc (suc zero)) h = omega arith
power_small (suc (suc (suc zero))) h = omega arith
power_small (suc (suc (suc (suc n)))) h = absurd (omega arith)

-- the base of a game's discount factors is at most the product of the numerators
pub base_small : (g : DynamicGame) → IsGame g → g.base ≤ 2 ^ 30
base_small g game =
    let small : (i : ℕ) → i < length g.discounts → get_or g.discounts i 0 ≤ 1024 = λ i h. omega (arith, game.discounts_listed, game.discounts_below i (omega (arith, game.discounts_listed)), game.q_small) in
    let positive : (i : ℕ) → i < length g.discounts → 0 < get_or g.discounts i 0 = λ i h. game.discounts_positive i (omega (arith, game.discounts_listed)) in
    let d : Divides g.base (product g.discounts) = game.base_least.least (product g.discounts) (divides_product g.discounts) in
    let some : 1 ≤ product g.discounts = product_positive g.discounts positive in
    let most : product g.discounts ≤ 1024 ^ length g.discounts = product_small g.discounts small in
    let few : 1024 ^ length g.discounts ≤ 2 ^ 30 = power_small (length g.discounts) (omega (arith, game.discounts_listed, game.three_players)) in
    let bounded : g.base ≤ product g.discounts = first_at_most g.base d.0 (product g.discounts) d.1 some in
    omega arith
  where
    first_at_most : (b k n : ℕ) → n ≡ b * k → 1 ≤ n → b ≤ n
    first_at_most b zero n e h = absurd (omega arith)
    first_at_most b (suc k) n e h = omega arith

-- the base times 2^grid
pub base_times_fineness_small : (g : DynamicGame) (grid : ℕ) → IsGame g → grid ≤ 30 → g.base * 2 ^ grid ≤ 2 ^ 60
base_times_fineness_small g grid game h = mul-le-mul (base_small g game) (powers grid h)
  where
    powers : (n : ℕ) → n ≤ 30 → 2 ^ n ≤ 2 ^ 30
    powers n small = pow_mono small

-- a state has a profile
pub profile_count_positive : (ms : List ℕ) → ((i : ℕ) → i < length ms → 1 ≤ get_or ms i 0) → 1 ≤ profile_count ms
profile_count_positive [] h = omega arith
profile_count_positive (m ∷ ms) h =
    let here : 1 ≤ m = h 0 (omega arith) in
    let rest : 1 ≤ profile_count ms = profile_count_positive ms (λ i below. h (suc i) (omega arith)) in
    omega (arith, mul-le-mul here rest)

pub some_profile : (g : DynamicGame) (s : ℕ) → IsGame g → s < states g → 1 ≤ profile_count (counts g s)
some_profile g s game known =
    let state : IsState g s = game.each_state s known in
    profile_count_positive (counts g s) (λ i h. state.some_strategy i (omega (arith, state.one_each)))

pub payoff_small : (g : DynamicGame) (s a i : ℕ) → IsGame g → s < states g → a < profile_count (counts g s) → i < g.players → unsigned_abs (payoff_at g s a i) ≤ 2 ^ 26
payoff_small g s a i game known profile player =
    let state : IsState g s = game.each_state s known in
    let row : (a + 1) * g.players ≤ profile_count (counts g s) * g.players = mul-le-mul (omega arith) (omega arith) in
    let inside : a * g.players + i < profile_count (counts g s) * g.players = omega arith in
    let small = state.payoffs_small (a * g.players + i) (omega (arith, state.payoffs_fit)) in
    abs_within (payoff_at g s a i) (2 ^ 26) small.0 small.1
