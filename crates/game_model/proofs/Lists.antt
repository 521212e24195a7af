-- lemmas on lists of lists and on numbers of profiles
use Rattle.std.proofs.Common.{◌≡◌, ℕ, ◌+◌, ◌*◌, ◌<◌, ◌≤◌, List, [], ◌∷◌, length, map, take, get_or, Vec, vec_len, sym, ap, ◌∙◌, arith}
use Rattle.std.proofs.lemmas.List.{get_or-map, length-map, length-take, get_or-take}
use Rattle.std.proofs.Math.Nat.{mul-le-mul, mul-le-mul_right}
use Rattle.std.specs.Global.{Global}
use Rattle.game_model.specs.Game.{DynamicGame, IsGame, IsState, states, counts, profile_count}

-- the inner list at a place
pub inner_at : {X : Type 0} (xs : List (Vec X Global)) (s : ℕ) (v : Vec X Global) → s < length xs → v ≡ get_or xs s v → get_or (map (λ (v : Vec X Global). v.items) xs) s [] ≡ v.items
inner_at {X} xs s v h e = get_or-map (λ (v : Vec X Global). v.items) xs s v [] h ∙ ap (λ (v : Vec X Global). v.items) (sym e)

-- three players of up to 16 strategies have up to 4096 profiles
pub profile_count_small : (ms : List ℕ) → length ms ≤ 3 → ((i : ℕ) → i < length ms → get_or ms i 0 ≤ 16) → profile_count ms ≤ 4096
profile_count_small [] n h = omega arith
profile_count_small (a ∷ []) n h = let p : a ≤ 16 = h 0 (omega arith) in omega arith
profile_count_small (a ∷ b ∷ []) n h =
    let p : a ≤ 16 = h 0 (omega arith) in
    let q : b ≤ 16 = h 1 (omega arith) in
    let r : a * b ≤ 16 * 16 = mul-le-mul p q in omega arith
profile_count_small (a ∷ b ∷ c ∷ []) n h =
    let p : a ≤ 16 = h 0 (omega arith) in
    let q : b ≤ 16 = h 1 (omega arith) in
    let r : c ≤ 16 = h 2 (omega arith) in
    let u : b * c ≤ 16 * 16 = mul-le-mul q r in
    let v : a * (b * c) ≤ 16 * (16 * 16) = mul-le-mul p u in omega arith
profile_count_small (a ∷ b ∷ c ∷ d ∷ ms) n h = absurd (omega arith)

-- its length
pub inner_length : {X : Type 0} (xs : List (Vec X Global)) (s : ℕ) (v : Vec X Global) → s < length (map (λ (v : Vec X Global). v.items) xs) → v ≡ get_or xs s v → length (get_or (map (λ (v : Vec X Global). v.items) xs) s []) ≡ vec_len v
inner_length {X} xs s v h e = ap length (inner_at xs s v (rw (← length-map xs (λ (v : Vec X Global). v.items)) h) e) ∙ sym v.ok.0

pub few_profiles : (g : DynamicGame) → IsGame g → (s : ℕ) → s < states g → profile_count (counts g s) ≤ 4096
few_profiles g ok s h =
    let st : IsState g s = ok.each_state s h in
    profile_count_small (counts g s) (omega (arith, st.one_each, ok.three_players)) (λ i below. st.few_strategies i (omega (arith, st.one_each)))

-- the place of a player's payoff in the list of a state
pub payoff_place : (n m a i : ℕ) → a < n → i < m → m ≤ 3 → n ≤ 4096 → (a * m + i < n * m) × (n * m ≤ 12288)
payoff_place n m a i ha hi hm hn =
    let p : (a + 1) * m ≤ n * m = mul-le-mul_right m (omega arith) in
    let q : n * m ≤ 4096 * 3 = mul-le-mul hn hm in
    (omega arith, omega arith)

-- the first players' profiles are few too
pub profile_count_take_small : (k : ℕ) (ms : List ℕ) → length ms ≤ 3 → ((i : ℕ) → i < length ms → get_or ms i 0 ≤ 16) → profile_count (take k ms) ≤ 4096
profile_count_take_small k ms n h = profile_count_small (take k ms) (omega (arith, length-take k ms)) (λ i below. let inside : i < k = omega (arith, length-take k ms) in rw (get_or-take k ms i 0 inside) (h i (omega (arith, length-take k ms))))
