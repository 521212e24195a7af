-- Opening levels of games with payoffs within 15 of zero, and the sums of their heights.
use Rattle.std.proofs.Common.{◌≡◌, ℕ, zero, suc, ◌+◌, ◌-◌, ◌*◌, ◌^◌, ◌<◌, ◌≤◌, List, [], ◌∷◌, get_or, inr, lit<, Fits, FitsSigned, of_z, to_z, T, negsuc, refl, sym, ap, subst, ◌∙◌, arith}
use Rattle.std.specs.Prelude.{ℤ, pos, ◌+ℤ◌, ◌*ℤ◌, ◌-ℤ◌, ◌≤ℤ◌, neg_ℤ, unsigned_abs, nat_abs}
use lib.Signed.{non_neg}
use Rattle.std.specs.Int.{w64}
use Rattle.std.proofs.lemmas.Int.{ints, to_z-of_z}
use Rattle.std.proofs.lemmas.List.{get_or_default}
use Rattle.exact_algebra.proofs.Order.{abs_product, abs_sum, abs_within, at_most_from_same, within_abs}
use Rattle.exact_algebra.proofs.Fits.{fits64}
use Rattle.exact_algebra.specs.Poly.{var, lit, ◌⊕◌, ◌⊗◌}
use Rattle.exact_algebra.proofs.Normal.{ring}
use Rattle.bound_laws.proofs.Order.{nought_times}
use Rattle.direction_set.specs.DirectionTable.{DirectionTable, opposite_of, zero_vector}
use Rattle.game_model.specs.Game.{DynamicGame, counts, payoff_at, profile_count, states}
use Rattle.game_model.specs.SelfGeneration.{part, sum_below}
use Rattle.level_table.specs.Problem.{IsProblem, Problem, direction, direction_count, largest, largest_payoff, opening_level, problem_of}
use Rattle.level_table.specs.Levels.{IsRow, Table, levels_in, opening_table}
use Rattle.level_table.specs.declared.level.Level.{Level}
use Rattle.level_table.specs.Supported.{IsEven}
use Rattle.level_table.specs.Iterates.{drop_of, height, number_of}
use Rattle.level_table.specs.Start.{IsStart}
use Rattle.level_table.specs.Tables.{IsFirstBeyond, IsOpening}
use Rattle.level_table.proofs.Sizes.{some_profile}
use Rattle.std.proofs.Math.Nat.{mul-le-mul}
use Rattle.sweep_run.specs.Runs.{IsEnough}
use Rattle.bound_laws.specs.Falls.{most_drop}
use Rattle.bound_laws.proofs.Sums.{largest_reached}
use Rattle.make_run.specs.Opening.{HasTinyOpening, IsSmallGame, budget_of}

-- ---- opening levels
part_small : (p : Problem) (k i : ℕ) → IsProblem p → k < direction_count p → unsigned_abs (part (direction p k) i) ≤ 3
part_small p k i ok within =
    subst (λ (v : List ℤ). unsigned_abs (get_or v i (pos 0)) ≤ 3) (get_or_default p.directions k zero_vector [] within) (ok.directions.part_small k i)

largest_within : (f : ℕ → ℤ) (n m : ℕ) → ((i : ℕ) → i < suc n → unsigned_abs (f i) ≤ m) → unsigned_abs (largest f n) ≤ m
largest_within f n m h =
    let r = largest_reached f n in
    subst (λ z. unsigned_abs z ≤ m) (sym r.2) (h r.0 r.1)

payoff_within : (g : DynamicGame) (c : ℤ) (i : ℕ) → IsSmallGame g → unsigned_abs c ≤ 3 → i < g.players → unsigned_abs (largest_payoff g c i) ≤ 45
payoff_within g c i ok few player =
    let some : 1 ≤ states g = ok.game.some_state in
    largest_within (λ s. largest (λ a. c *ℤ payoff_at g s a i) (profile_count (counts g s) - 1)) (states g - 1) 45
    (λ s hs.
    let state : s < states g = omega arith in
    let profiles : 1 ≤ profile_count (counts g s) = some_profile g s ok.game state in
    largest_within (λ a. c *ℤ payoff_at g s a i) (profile_count (counts g s) - 1) 45
    (λ a ha. abs_product c (payoff_at g s a i) 3 15 few (ok.payoffs s a i state (omega arith) player)))

two_within : (f : ℕ → ℤ) (m : ℕ) → unsigned_abs (f 0) ≤ m → unsigned_abs (f 1) ≤ m → unsigned_abs (sum_below f 2) ≤ m + m
two_within f m h k = abs_sum (pos 0 +ℤ f 0) (f 1) m m (let s : unsigned_abs (pos 0 +ℤ f 0) ≤ 0 + m = abs_sum (pos 0) (f 0) 0 m (omega arith) h in omega arith) k

pub opening_is_tiny : (g : DynamicGame) (d : DirectionTable) → IsSmallGame g → IsProblem (problem_of g d 4) → HasTinyOpening (problem_of g d 4)
opening_is_tiny g d small ok k within =
    let p : Problem = problem_of g d 4 in
    let f : ℕ → ℤ = λ i. largest_payoff g (part (direction p k) i) i in
    let sum : unsigned_abs (sum_below f g.players) ≤ 90 =
    subst (λ n. unsigned_abs (sum_below f n) ≤ 90) (sym small.players)
    (two_within f 45
    (payoff_within g _ 0 small (part_small p k 0 ok within) (omega (arith, small.players)))
    (payoff_within g _ 1 small (part_small p k 1 ok within) (omega (arith, small.players)))) in
    let factor : unsigned_abs (pos (g.base * 2 ^ 4)) ≤ 16 = rw small.base (omega arith) in
    abs_product (pos (g.base * 2 ^ 4)) (sum_below f g.players) 16 90 factor sum

pub not_beyond : (p : Problem) (number : ℤ) → HasTinyOpening p → IsFirstBeyond p number → ⊥
not_beyond p number tiny h =
    let small : unsigned_abs (opening_level p h.direction) ≤ 1440 = tiny h.direction h.known in
    let large : 2 ^ 50 < unsigned_abs (opening_level p h.direction) = h.beyond in
    omega arith

-- ---- heights
-- two opposite opening levels are 0 to 2880 apart
pub height_within : (p : Problem) (k : ℕ) → IsProblem p → IsStart p (opening_table p) [] → HasTinyOpening p → k < direction_count p
    → (pos 0 ≤ℤ height (opening_table p) 0 k) × (height (opening_table p) 0 k ≤ℤ pos 2880)
height_within p k ok start tiny within =
    let row : IsRow p 0 k = record { state = ok.game.some_state; direction = within } in
    let low : neg_ℤ (opening_level p (opposite_of k)) ≤ℤ opening_level p k = (start.between 0 k row).0 in
    let here = within_abs (opening_level p k) 1440 (tiny k within) in
    let there = within_abs (opening_level p (opposite_of k)) 1440 (tiny (opposite_of k) (ok.directions.opposite_within k within)) in
    (omega (arith, ints, low), omega (arith, ints, here.1, there.1))

-- those of one state
abbrev heights_in : Problem → ℤ
heights_in p = sum_below (λ k. height (opening_table p) 0 k) (direction_count p)

sum_constant : (c : ℤ) (n : ℕ) → sum_below (λ s. c) n ≡ pos n *ℤ c
sum_constant c zero = sym (nought_times c)
sum_constant c (suc n) =
    let next : pos n +ℤ pos 1 ≡ pos (suc n) = omega (arith, ints) in
    ap (λ z. z +ℤ c) (sum_constant c n) ∙ ring (pos n ∷ c ∷ []) (var 0 ⊗ var 1 ⊕ var 1) ((var 0 ⊕ lit (pos 1)) ⊗ var 1) refl ∙ ap (λ z. z *ℤ c) next

-- the budget by the heights of one state
pub budget_by_heights : (p : Problem) (n m h : ℕ) → n ≡ states p.game → m ≡ direction_count p → pos h ≡ sum_below (λ k. height (opening_table p) 0 k) (direction_count p)
    → pos (n * m * (n * h + n + 1)) ≡ budget_of p
budget_by_heights p n m h e f g =
    let most : pos (n * h + n) ≡ most_drop p (opening_table p) =
    ap (λ z. pos n *ℤ z +ℤ pos n) g ∙ ap (λ s. pos s *ℤ heights_in p +ℤ pos s) e
    ∙ ap (λ z. z +ℤ pos (states p.game)) (sym (sum_constant (heights_in p) (states p.game))) in
    ap (λ z. pos (n * m) *ℤ (z +ℤ pos 1)) most ∙ ap (λ s. pos (s * m) *ℤ (most_drop p (opening_table p) +ℤ pos 1)) e
    ∙ ap (λ d. pos (states p.game * d) *ℤ (most_drop p (opening_table p) +ℤ pos 1)) f

-- two numbers that are added, as they are kept
pub sum_is : (a b x y : ℤ) → FitsSigned w64 a → FitsSigned w64 b → a ≡ x → b ≡ y → (pos 0 ≤ℤ (x +ℤ y)) × ((x +ℤ y) ≤ℤ pos 2880)
    → to_z w64 (of_z w64 (to_z w64 (of_z w64 a) +ℤ to_z w64 (of_z w64 b))) ≡ x +ℤ y
sum_is a b x y fa fb e f h =
    let small : unsigned_abs (x +ℤ y) ≤ 2880 = abs_within (x +ℤ y) 2880 (omega (arith, ints, h.0)) h.1 in
    ap (λ z. to_z w64 (of_z w64 (z +ℤ to_z w64 (of_z w64 b)))) (to_z-of_z w64 a fa ∙ e)
    ∙ ap (λ z. to_z w64 (of_z w64 (x +ℤ z))) (to_z-of_z w64 b fb ∙ f)
    ∙ to_z-of_z w64 (x +ℤ y) (fits64 (x +ℤ y) 2880 small (lit< tt))

-- a small number that is not negative is one of 64 bits
pub cast_fits : (x : ℤ) → (pos 0 ≤ℤ x) × (x ≤ℤ pos 2880) → T (non_neg x) × Fits w64 (nat_abs x)
cast_fits (pos n) h = (tt, (let k : n ≤ 2880 = omega (arith, ints, h.1) in omega arith))
cast_fits (negsuc n) h = absurd (omega (arith, ints, h.0))

pub cast_small : (x : ℤ) → (pos 0 ≤ℤ x) × (x ≤ℤ pos 2880) → nat_abs x ≤ 2880
cast_small (pos n) h = omega (arith, ints, h.1)
cast_small (negsuc n) h = absurd (omega (arith, ints, h.0))

pub cast_is : (x : ℤ) → pos 0 ≤ℤ x → pos (nat_abs x) ≡ x
cast_is (pos n) h = refl
cast_is (negsuc n) h = absurd (omega (arith, ints, h))

-- products that fit
pub product_within : (n m h : ℕ) → n ≤ 64 → m ≤ 32 → h ≤ 92160 → (n * h ≤ 64 * 92160) × (n * m * (n * h + n + 1) ≤ 64 * 32 * (64 * 92160 + 65))
product_within n m h a b c =
    let first : n * h ≤ 64 * 92160 = mul-le-mul a c in
    let second : n * m ≤ 64 * 32 = mul-le-mul a b in
    let third : n * h + n + 1 ≤ 64 * 92160 + 65 = omega arith in
    (first, mul-le-mul second third)

pub budget_is_enough : (p : Problem) (b : ℕ) → pos b ≡ budget_of p → drop_of p (opening_table p) (opening_table p) ≡ pos 0 → IsEnough p (opening_table p) b
budget_is_enough p b e none =
    let same : (most_drop p (opening_table p) -ℤ drop_of p (opening_table p) (opening_table p)) +ℤ pos 1 ≡ most_drop p (opening_table p) +ℤ pos 1 = omega (arith, ints, none) in
    at_most_from_same _ _ (ap (λ z. pos (states p.game * direction_count p) *ℤ z) same ∙ sym e)

pub opening_is_even : (p : Problem) → IsEven p (opening_table p)
opening_is_even p s state = inr (λ k within. tt)

-- what is kept of an opening
pub opening_number : (p : Problem) (t : Table) (k j : ℕ) (l : Level) (x : ℤ) → IsProblem p → IsOpening p t → k < direction_count p → x ≡ number_of l → l ≡ levels_in t 0 j → j ≡ k → x ≡ opening_level p k
opening_number p t k j l x ok opening within e f g =
    e ∙ ap number_of (f ∙ ap (levels_in t 0) g ∙ opening.levels 0 k (record { state = ok.game.some_state; direction = within }))
