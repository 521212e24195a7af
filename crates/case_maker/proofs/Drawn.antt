-- Draws from a place of the sequence on.
use Rattle.std.proofs.Common.{◌≡◌, ℕ, zero, suc, ◌+◌, ◌*◌, ◌/◌, ◌%◌, ◌++◌, [], ◌∷◌, refl, sym, ap, ◌∙◌, arith}
use Rattle.std.specs.Prelude.{ℤ, pos}
use Rattle.case_maker.specs.Generated.{draw, drawn_before, listed, next_drawn, number_after, number_behind, payoff_drawn, payoffs_drawn, successors_drawn}
use Rattle.case_maker.proofs.Listed.{listed_more, listed_same, listed_two_more}

pub after_none : (x : ℕ) → number_after x 0 ≡ x
unfolding number_after
after_none x = refl

after_suc : (x n : ℕ) → number_after x (suc n) ≡ number_behind (number_after x n)
unfolding number_after
after_suc x n = refl

pub after_add : (x m n : ℕ) → number_after x (m + n) ≡ number_after (number_after x m) n
after_add x m zero = let e : m + 0 ≡ m = omega arith in ap (number_after x) e ∙ sym (after_none (number_after x m))
after_add x m (suc n) =
    let e : m + suc n ≡ suc (m + n) = omega arith in
    ap (number_after x) e ∙ after_suc x (m + n) ∙ ap number_behind (after_add x m n) ∙ sym (after_suc (number_after x m) n)

pub after_one : (x a : ℕ) → a ≡ number_behind x → a ≡ number_after x 1
unfolding number_after
after_one x a e = e

pub after_two : (x a b : ℕ) → a ≡ number_behind x → b ≡ number_behind a → b ≡ number_after x 2
unfolding number_after
after_two x a b e f = f ∙ ap number_behind e

pub after_three : (x a b c : ℕ) → a ≡ number_behind x → b ≡ number_behind a → c ≡ number_behind b → c ≡ number_after x 3
unfolding number_after
after_three x a b c e f g = g ∙ ap number_behind (f ∙ ap number_behind e)

-- a draw from a place on is one of the whole sequence
draw_from : (x y m n k : ℕ) → y ≡ number_after x m → m + n ≡ k → draw y n ≡ draw x k
draw_from x y m n k e f = ap (λ z. draw z n) e ∙ ap (λ z. z / 65536) (sym (after_add x m n) ∙ ap (number_after x) f)

-- both payoffs of profile a
pub payoffs_more : (x y a : ℕ) → y ≡ number_after x (3 * a) → listed (λ k. pos (payoff_drawn x 0 (k / 2) (k % 2))) (2 * (a + 1))
    ≡ listed (λ k. pos (payoff_drawn x 0 (k / 2) (k % 2))) (2 * a) ++ pos (draw y 1 % 16) ∷ pos (draw y 2 % 16) ∷ []
payoffs_more x y a e =
    let first : 2 * a / 2 ≡ a = omega arith in
    let first_player : 2 * a % 2 ≡ 0 = omega arith in
    let second : (2 * a + 1) / 2 ≡ a = omega arith in
    let second_player : (2 * a + 1) % 2 ≡ 1 = omega arith in
    let zero_place : 3 * a + 1 ≡ drawn_before 0 a + 0 + 1 = omega arith in
    let one_place : 3 * a + 2 ≡ drawn_before 0 a + 1 + 1 = omega arith in
    let two : 2 * (a + 1) ≡ 2 * a + 1 + 1 = omega arith in
    let f : ℕ → ℤ = λ k. pos (payoff_drawn x 0 (k / 2) (k % 2)) in
    let here : f (2 * a) ≡ pos (draw y 1 % 16) =
    ap (λ b. pos (payoff_drawn x 0 b (2 * a % 2))) first ∙ ap (λ i. pos (payoff_drawn x 0 a i)) first_player
    ∙ ap (λ z. pos (z % 16)) (sym (draw_from x y (3 * a) 1 (drawn_before 0 a + 0 + 1) e zero_place)) in
    let next : f (2 * a + 1) ≡ pos (draw y 2 % 16) =
    ap (λ b. pos (payoff_drawn x 0 b ((2 * a + 1) % 2))) second ∙ ap (λ i. pos (payoff_drawn x 0 a i)) second_player
    ∙ ap (λ z. pos (z % 16)) (sym (draw_from x y (3 * a) 2 (drawn_before 0 a + 1 + 1) e one_place)) in
    ap (listed f) two ∙ listed_two_more f (2 * a)
    ∙ ap (λ z. listed f (2 * a) ++ z ∷ f (2 * a + 1) ∷ []) here ∙ ap (λ z. listed f (2 * a) ++ pos (draw y 1 % 16) ∷ z ∷ []) next

-- the state that follows profile a
pub successors_more : (x y count a : ℕ) → y ≡ number_after x (3 * a) → listed (next_drawn x count 0) (a + 1) ≡ listed (next_drawn x count 0) a ++ draw y 3 % count ∷ []
successors_more x y count a e =
    let place : 3 * a + 3 ≡ drawn_before 0 a + 3 = omega arith in
    listed_more (next_drawn x count 0) a
    ∙ ap (λ z. listed (next_drawn x count 0) a ++ z ∷ []) (ap (λ z. z % count) (sym (draw_from x y (3 * a) 3 (drawn_before 0 a + 3) e place)))

-- what is drawn of a state
pub payoffs_from : (x y s : ℕ) → y ≡ number_after x (48 * s) → payoffs_drawn y 0 ≡ payoffs_drawn x s
payoffs_from x y s e =
    listed_same _ _ 32
    (λ k h.
    let place : 48 * s + (drawn_before 0 (k / 2) + k % 2 + 1) ≡ drawn_before s (k / 2) + k % 2 + 1 = omega arith in
    ap (λ z. pos (z % 16)) (draw_from x y (48 * s) (drawn_before 0 (k / 2) + k % 2 + 1) _ e place))

pub successors_from : (x y count s : ℕ) → y ≡ number_after x (48 * s) → successors_drawn y count 0 ≡ successors_drawn x count s
successors_from x y count s e =
    listed_same _ _ 16
    (λ k h.
    let place : 48 * s + (drawn_before 0 k + 3) ≡ drawn_before s k + 3 = omega arith in
    ap (λ z. z % count) (draw_from x y (48 * s) (drawn_before 0 k + 3) _ e place))
