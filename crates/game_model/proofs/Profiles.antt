-- lemmas on the numbers of profiles
use Rattle.std.proofs.Common.{◌≡◌, ◌≢◌, ℕ, zero, suc, ◌+◌, ◌-◌, ◌*◌, ◌/◌, ◌%◌, ◌<◌, ◌≤◌, ◌⊎◌, inl, inr, List, [], ◌∷◌, ◌++◌, length, get_or, take, drop, refl, sym, ap, ◌∙◌, subst, arith, add-one}
use Rattle.std.proofs.Math.ListN.{set}
use Rattle.std.proofs.Math.Seq.{drop-cons}
use Rattle.std.proofs.Math.Nat.{mod-lt, div-add-mod, mul-le-mul_left, mul_comm}
use Rattle.std.proofs.lemmas.Nat.{div_below, div-mul-add, mod-mul-add}
use Rattle.std.proofs.lemmas.List.{get_or-set_other, get_or-set_same, length-set}
use Rattle.std.proofs.lemmas.Bool.{cases_eq}
use Rattle.game_model.specs.Game.{profile_count, profile_number, strategies_of, IsProfile}

-- each player has a strategy
abbrev pub EachPositive : List ℕ → Type 0
EachPositive ms = (j : ℕ) → j < length ms → 1 ≤ get_or ms j 0

rest_positive : (m : ℕ) (ms : List ℕ) → EachPositive (m ∷ ms) → EachPositive ms
rest_positive m ms h j below = h (suc j) (omega arith)

pub length-strategies_of : (ms : List ℕ) (a : ℕ) → length (strategies_of ms a) ≡ length ms
length-strategies_of [] a = refl
length-strategies_of (m ∷ ms) a = ap suc (length-strategies_of ms (a / m))

pub profile_count-push : (ms : List ℕ) (m : ℕ) → profile_count (ms ++ m ∷ []) ≡ profile_count ms * m
profile_count-push [] m = omega arith
profile_count-push (x ∷ ms) m = ap (λ n. x * n) (profile_count-push ms m) ∙ omega arith

-- each strategy of a numbered profile is in range
pub strategy_below : (ms : List ℕ) (a i : ℕ) → EachPositive ms → i < length ms → get_or (strategies_of ms a) i 0 < get_or ms i 0
strategy_below [] a i h below = absurd (omega arith)
strategy_below (m ∷ ms) a zero h below = let p : 1 ≤ m = h 0 (omega arith) in mod-lt a (omega arith)
strategy_below (m ∷ ms) a (suc i) h below = strategy_below ms (a / m) i (rest_positive m ms h) (omega arith)

-- a numbered profile has its number
pub profile_number-strategies_of : (ms : List ℕ) (a : ℕ) → EachPositive ms → a < profile_count ms → profile_number ms (strategies_of ms a) ≡ a
profile_number-strategies_of [] a h below = omega arith
profile_number-strategies_of (m ∷ ms) a h below =
    let p : 1 ≤ m = h 0 (omega arith) in
    let q : a < profile_count ms * m = omega (arith, mul_comm m (profile_count ms)) in
    let e : profile_number ms (strategies_of ms (a / m)) ≡ a / m = profile_number-strategies_of ms (a / m) (rest_positive m ms h) (div_below a m (profile_count ms) (omega arith) q) in
    rw e (omega (arith, div-add-mod a m))

-- a profile's number gives its strategies back
pub strategies_of-profile_number : (ms xs : List ℕ) → IsProfile ms xs → strategies_of ms (profile_number ms xs) ≡ xs
strategies_of-profile_number [] [] h = refl
strategies_of-profile_number [] (x ∷ xs) h = absurd (omega (arith, h.0))
strategies_of-profile_number (m ∷ ms) [] h = absurd (omega (arith, h.0))
strategies_of-profile_number (m ∷ ms) (x ∷ xs) h =
    let p : x < m = h.1 0 (omega arith) in
    let t : IsProfile ms xs = (omega (arith, h.0), λ i below. h.1 (suc i) (omega arith)) in
    let n : ℕ = profile_number ms xs in
    let order : x + m * n ≡ n * m + x = omega arith in
    let e : (x + m * n) % m ≡ x = rw order (mod-mul-add n m x p) in
    let d : (x + m * n) / m ≡ n = rw order (div-mul-add n m x p) in
    rw (e, d) (ap (λ ys. x ∷ ys) (strategies_of-profile_number ms xs t))

-- and it is below the number of profiles
pub profile_number_below : (ms xs : List ℕ) → IsProfile ms xs → profile_number ms xs < profile_count ms
profile_number_below [] xs h = omega arith
profile_number_below (m ∷ ms) [] h = absurd (omega (arith, h.0))
profile_number_below (m ∷ ms) (x ∷ xs) h =
    let p : x < m = h.1 0 (omega arith) in
    let t : IsProfile ms xs = (omega (arith, h.0), λ i below. h.1 (suc i) (omega arith)) in
    let q : m * (profile_number ms xs + 1) ≤ m * profile_count ms = mul-le-mul_left m (omega (arith, profile_number_below ms xs t)) in
    omega arith

-- the strategies of a number are a profile
pub IsProfile-strategies_of : (ms : List ℕ) (a : ℕ) → EachPositive ms → IsProfile ms (strategies_of ms a)
IsProfile-strategies_of ms a h = (length-strategies_of ms a, λ i below. strategy_below ms a i h below)

-- and they stay one where a player takes another strategy in range
pub IsProfile-set : (ms xs : List ℕ) (i b : ℕ) → IsProfile ms xs → i < length ms → b < get_or ms i 0 → IsProfile ms (set xs i b)
IsProfile-set ms xs i b h below fits = (length-set xs i b ∙ h.0, λ j j_below. within j j_below (cases_eq i j))
  where
    within : (j : ℕ) → j < length ms → (i ≡ j) ⊎ (i ≢ j) → get_or (set xs i b) j 0 < get_or ms j 0
    within j j_below (inl e) = let inside : i < length xs = omega (arith, h.0) in subst (λ (t : ℕ). get_or (set xs i b) t 0 < get_or ms t 0) e (rw get_or-set_same fits)
    within j j_below (inr n) = let ne : j ≢ i = λ q. n (sym q) in rw get_or-set_other (h.1 j j_below)

-- a change of one strategy moves the number by that many steps
pub profile_number-set : (ms xs : List ℕ) (i b : ℕ) → length xs ≡ length ms → i < length ms →
    profile_number ms (set xs i b) + get_or xs i 0 * profile_count (take i ms) ≡ profile_number ms xs + b * profile_count (take i ms)
profile_number-set [] xs i b e below = absurd (omega arith)
profile_number-set (m ∷ ms) [] i b e below = absurd (omega arith)
profile_number-set (m ∷ ms) (x ∷ xs) zero b e below = omega arith
profile_number-set (m ∷ ms) (x ∷ xs) (suc i) b e below =
    let n : ℕ = profile_number ms xs in
    let n' : ℕ = profile_number ms (set xs i b) in
    let p : ℕ = profile_count (take i ms) in
    let y : ℕ = get_or xs i 0 in
    let h : n' + y * p ≡ n + b * p = profile_number-set ms xs i b (omega arith) (omega arith) in
    let k : m * (n' + y * p) ≡ m * (n + b * p) = ap (λ t. m * t) h in
    omega arith

-- one player on in reading the strategies
pub strategies_of_step : (ms : List ℕ) (k i r : ℕ) → k < i → i < length ms →
    get_or (strategies_of (drop k ms) r) (i - k) 0 ≡ get_or (strategies_of (drop (k + 1) ms) (r / get_or ms k 0)) (i - (k + 1)) 0
strategies_of_step ms k i r above below =
    let inside : k < length ms = omega arith in
    let e : i - k ≡ suc (i - (k + 1)) = omega arith in
    rw (drop-cons ms k 0, e) (ap (λ (t : ℕ). get_or (strategies_of (drop t ms) (r / get_or ms k 0)) (i - (k + 1)) 0) (sym (add-one k)))

-- the strategy of the player who is reached
pub strategies_of_end : (ms : List ℕ) (i r : ℕ) → i < length ms → get_or (strategies_of (drop i ms) r) (i - i) 0 ≡ r % get_or ms i 0
strategies_of_end ms i r below = let e : i - i ≡ 0 = omega arith in rw (drop-cons ms i 0, e) refl

-- What `a - y * p + b * p` is, where profile a has strategy y and p is the step: no part goes below 0 or gets large.
pub record Moves (ms : List ℕ) (a i b : ℕ) : Type 0 where
  pub own : get_or (strategies_of ms a) i 0 * profile_count (take i ms) ≤ a
  pub number : profile_number ms (set (strategies_of ms a) i b) + get_or (strategies_of ms a) i 0 * profile_count (take i ms) ≡ a + b * profile_count (take i ms)
  pub below : profile_number ms (set (strategies_of ms a) i b) < profile_count ms
  pub plays : get_or (strategies_of ms (profile_number ms (set (strategies_of ms a) i b))) i 0 ≡ b
  pub others : (j : ℕ) → j ≢ i → get_or (strategies_of ms (profile_number ms (set (strategies_of ms a) i b))) j 0 ≡ get_or (strategies_of ms a) j 0

pub moves : (ms : List ℕ) (a i b : ℕ) → EachPositive ms → a < profile_count ms → i < length ms → b < get_or ms i 0 → Moves ms a i b
moves ms a i b positive known player fits =
    let xs : List ℕ = strategies_of ms a in
    let lengths : length xs ≡ length ms = length-strategies_of ms a in
    let whole : profile_number ms xs ≡ a = profile_number-strategies_of ms a positive known in
    let ok : IsProfile ms (set xs i b) = IsProfile-set ms xs i b (IsProfile-strategies_of ms a positive) player fits in
    let back : strategies_of ms (profile_number ms (set xs i b)) ≡ set xs i b = strategies_of-profile_number ms (set xs i b) ok in
    let inside : i < length xs = omega arith in
    record {
      own = omega (arith, profile_number-set ms xs i 0 lengths player);
      number = profile_number-set ms xs i b lengths player ∙ ap (λ n. n + b * profile_count (take i ms)) whole;
      below = profile_number_below ms (set xs i b) ok;
      plays = rw (back, get_or-set_same) refl;
      others = λ j ne. rw (back, get_or-set_other) refl;
    }

-- the same, of the numbers that the code has
pub moved : (ms : List ℕ) (a i b y p : ℕ) → Moves ms a i b → y ≡ get_or (strategies_of ms a) i 0 → p ≡ profile_count (take i ms) →
    (y * p ≤ a) × (a - y * p + b * p ≡ profile_number ms (set (strategies_of ms a) i b))
moved ms a i b y p m ey ep =
    let own : y * p ≤ a = rw (ey, ep) m.own in
    let number : profile_number ms (set (strategies_of ms a) i b) + y * p ≡ a + b * p = rw (ey, ep) m.number in
    (own, omega arith)
