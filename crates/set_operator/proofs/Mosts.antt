-- Bounds of values from the sides of the box and one level.
use Rattle.std.proofs.Common.{◌≡◌, ℕ, zero, suc, ◌+◌, ◌-◌, ◌<◌, ◌≤◌, List, [], ◌∷◌, refl, ap, sym, subst, ◌∙◌, arith}
use Rattle.std.specs.Prelude.{ℤ, pos, ◌+ℤ◌, ◌-ℤ◌, ◌*ℤ◌, ◌≤ℤ◌, ◌<ℤ◌, neg_ℤ}
use Rattle.std.proofs.lemmas.Int.{ints}
use Rattle.exact_algebra.specs.Poly.{var, lit, neg, ◌⊕◌, ◌⊖◌, ◌⊗◌}
use Rattle.exact_algebra.proofs.Normal.{ring}
use Rattle.exact_algebra.proofs.Order.{plus_at_most, at_most_from_same, at_most_self, times_at_most}
use Rattle.bound_laws.proofs.Order.{at_most_along}
use Rattle.bound_laws.proofs.Directions.{dot-plus_axis}
use Rattle.bound_laws.proofs.Sums.{sum_below-same, sum_below-plus, sum_below-times, sum_below-zero}
use Rattle.game_model.specs.Game.{payoff_at}
use Rattle.game_model.specs.SelfGeneration.{part, sum_below, dot}
use Rattle.level_table.specs.declared.level.Level.{Level}
use Rattle.level_table.specs.declared.level.Level.TheVariants.{At, Empty}
use Rattle.level_table.specs.Problem.{Problem, IsProblem, direction_count, direction, discount_at, plus_axis}
use Rattle.level_table.specs.Levels.{IsNumber, Levels}
use Rattle.level_table.specs.Operator.{Admissible, Fractions, value}
use Rattle.set_operator.specs.declared.boxes.ProfileBox.{ProfileBox}
use Rattle.set_operator.specs.Boxes.{IsBoxOf, side_at, stage_at, stage_scale}
use Rattle.set_operator.specs.Program.{IsMostSpread, IsWithin, stage_value}
use Rattle.set_operator.proofs.Points.{keeps_lower}

-- ---- one part
pub times_upper : (c y u den : ℤ) → pos 0 ≤ℤ c → y ≤ℤ (u *ℤ den) → (c *ℤ y) ≤ℤ ((c *ℤ u) *ℤ den)
times_upper c y u den h k = at_most_along refl (ring (c ∷ u ∷ den ∷ []) (var 0 ⊗ (var 1 ⊗ var 2)) ((var 0 ⊗ var 1) ⊗ var 2) refl) (times_at_most c y (u *ℤ den) h k)

pub times_lower : (c y l den : ℤ) → c ≤ℤ pos 0 → neg_ℤ y ≤ℤ (l *ℤ den) → (c *ℤ y) ≤ℤ (((pos 0 -ℤ c) *ℤ l) *ℤ den)
times_lower c y l den h k =
    at_most_along
    (ring (c ∷ y ∷ []) ((lit (pos 0) ⊖ var 0) ⊗ neg (var 1)) (var 0 ⊗ var 1) refl)
    (ring (c ∷ l ∷ den ∷ []) ((lit (pos 0) ⊖ var 0) ⊗ (var 1 ⊗ var 2)) (((lit (pos 0) ⊖ var 0) ⊗ var 1) ⊗ var 2) refl)
    (times_at_most (pos 0 -ℤ c) (neg_ℤ y) (l *ℤ den) (omega (arith, ints)) k)

-- ---- the parts of two or three players
pub three_most : (n : ℕ) (f : ℕ → ℤ) (a b d den : ℤ) → 2 ≤ n → n ≤ 3 → (0 < n → f 0 ≤ℤ (a *ℤ den)) → (1 < n → f 1 ≤ℤ (b *ℤ den)) → (2 < n → f 2 ≤ℤ (d *ℤ den)) → (n ≤ 2 → d ≡ pos 0)
    → sum_below f n ≤ℤ ((a +ℤ b +ℤ d) *ℤ den)
three_most zero f a b d den low high p q r none = absurd (omega arith)
three_most (suc zero) f a b d den low high p q r none = absurd (omega arith)
three_most (suc (suc zero)) f a b d den low high p q r none =
    at_most_along
    (ring (f 0 ∷ f 1 ∷ []) (var 0 ⊕ var 1) ((lit (pos 0) ⊕ var 0) ⊕ var 1) refl)
    (ring (a ∷ b ∷ den ∷ []) (var 0 ⊗ var 2 ⊕ var 1 ⊗ var 2) ((var 0 ⊕ var 1 ⊕ lit (pos 0)) ⊗ var 2) refl ∙ ap (λ z. (a +ℤ b +ℤ z) *ℤ den) (sym (none (omega arith))))
    (plus_at_most (f 0) (a *ℤ den) (f 1) (b *ℤ den) (p (omega arith)) (q (omega arith)))
three_most (suc (suc (suc zero))) f a b d den low high p q r none =
    at_most_along
    (ring (f 0 ∷ f 1 ∷ f 2 ∷ []) ((var 0 ⊕ var 1) ⊕ var 2) (((lit (pos 0) ⊕ var 0) ⊕ var 1) ⊕ var 2) refl)
    (ring (a ∷ b ∷ d ∷ den ∷ []) ((var 0 ⊗ var 3 ⊕ var 1 ⊗ var 3) ⊕ var 2 ⊗ var 3) ((var 0 ⊕ var 1 ⊕ var 2) ⊗ var 3) refl)
    (plus_at_most (f 0 +ℤ f 1) (a *ℤ den +ℤ b *ℤ den) (f 2) (d *ℤ den) (plus_at_most (f 0) (a *ℤ den) (f 1) (b *ℤ den) (p (omega arith)) (q (omega arith))) (r (omega arith)))
three_most (suc (suc (suc (suc n)))) f a b d den low high p q r none = absurd (omega arith)

-- ---- all of a value
split_discount : (m n : ℕ) → m ≤ n → pos n ≡ pos m +ℤ pos (n - m)
split_discount m n h = let e : n ≡ m + (n - m) = omega arith in ap pos e

abbrev pub spread_term : Problem → ℕ → ℕ → List ℤ → ℕ → ℤ
spread_term p k least y i = pos (discount_at p i - least) *ℤ (part (direction p k) i *ℤ part y i)

value_split : (p : Problem) (t : Levels) (b : ProfileBox) (k least : ℕ) (z : Fractions) → IsBoxOf p t b → ((i : ℕ) → i < p.game.players → least ≤ discount_at p i)
    → value p b.state b.profile k z ≡ (z.denominator *ℤ stage_value p b k) +ℤ ((pos least *ℤ dot p.game.players (direction p k) z.numerators) +ℤ sum_below (spread_term p k least z.numerators) p.game.players)
value_split p t b k least z box low =
    let stage = λ (i : ℕ). part (direction p k) i *ℤ stage_at b i in
    let along = λ (i : ℕ). part (direction p k) i *ℤ part z.numerators i in
    sum_below-same
    (λ i. part (direction p k) i *ℤ ((pos (stage_scale p i) *ℤ payoff_at p.game b.state b.profile i *ℤ z.denominator) +ℤ (pos (discount_at p i) *ℤ part z.numerators i)))
    (λ i. (z.denominator *ℤ stage i) +ℤ ((pos least *ℤ along i) +ℤ spread_term p k least z.numerators i)) p.game.players
    (λ i w.
    ap (λ x. part (direction p k) i *ℤ ((x *ℤ z.denominator) +ℤ (pos (discount_at p i) *ℤ part z.numerators i))) (sym (box.stage i w))
    ∙ ap (λ x. part (direction p k) i *ℤ ((stage_at b i *ℤ z.denominator) +ℤ (x *ℤ part z.numerators i))) (split_discount least (discount_at p i) (low i w))
    ∙ ring (part (direction p k) i ∷ stage_at b i ∷ z.denominator ∷ pos least ∷ pos (discount_at p i - least) ∷ part z.numerators i ∷ [])
    (var 0 ⊗ ((var 1 ⊗ var 2) ⊕ ((var 3 ⊕ var 4) ⊗ var 5))) ((var 2 ⊗ (var 0 ⊗ var 1)) ⊕ ((var 3 ⊗ (var 0 ⊗ var 5)) ⊕ (var 4 ⊗ (var 0 ⊗ var 5)))) refl)
    ∙ sum_below-plus (λ i. z.denominator *ℤ stage i) (λ i. (pos least *ℤ along i) +ℤ spread_term p k least z.numerators i) p.game.players
    ∙ ap (λ x. sum_below (λ i. z.denominator *ℤ stage i) p.game.players +ℤ x) (sum_below-plus (λ i. pos least *ℤ along i) (spread_term p k least z.numerators) p.game.players)
    ∙ ap (λ x. x +ℤ (sum_below (λ i. pos least *ℤ along i) p.game.players +ℤ sum_below (spread_term p k least z.numerators) p.game.players)) (sum_below-times z.denominator stage p.game.players)
    ∙ ap (λ x. (z.denominator *ℤ stage_value p b k) +ℤ (x +ℤ sum_below (spread_term p k least z.numerators) p.game.players)) (sum_below-times (pos least) along p.game.players)

all_parts : (den s m d x e g : ℤ) → pos 0 ≤ℤ m → d ≤ℤ (x *ℤ den) → e ≤ℤ (g *ℤ den) → ((den *ℤ s) +ℤ ((m *ℤ d) +ℤ e)) ≤ℤ ((m *ℤ x +ℤ s +ℤ g) *ℤ den)
all_parts den s m d x e g h k l =
    at_most_along refl
    (ring (den ∷ s ∷ m ∷ x ∷ g ∷ []) ((var 0 ⊗ var 1) ⊕ ((var 2 ⊗ (var 3 ⊗ var 0)) ⊕ (var 4 ⊗ var 0))) (((var 2 ⊗ var 3) ⊕ var 1 ⊕ var 4) ⊗ var 0) refl)
    (plus_at_most (den *ℤ s) (den *ℤ s) ((m *ℤ d) +ℤ e) ((m *ℤ (x *ℤ den)) +ℤ (g *ℤ den)) (at_most_self (den *ℤ s))
    (plus_at_most (m *ℤ d) (m *ℤ (x *ℤ den)) e (g *ℤ den) (times_at_most m d (x *ℤ den) h k) l))

within_sides : (p : Problem) (t : Levels) (b : ProfileBox) (z : Fractions) (i : ℕ) → IsProblem p → IsBoxOf p t b → Admissible p t b.state b.profile z → i < p.game.players
    → IsWithin (side_at b i) (part z.numerators i) z.denominator
within_sides p t b z i ok box adm player = record {
  above = at_most_along (dot-plus_axis p i z.numerators ok player) refl (adm.half_planes (plus_axis i) (side_at b i).upper (omega (arith, ok.directions.has_axes)) (box.sides i player).upper);
  below = keeps_lower p t b.state b.profile i (side_at b i).lower (side_at b i).by z ok player (box.sides i player).source adm;
}

pub at_most_all : (p : Problem) (t : Levels) (b : ProfileBox) (k least : ℕ) (x g : ℤ) (z : Fractions) → IsProblem p → IsBoxOf p t b → ((i : ℕ) → i < p.game.players → least ≤ discount_at p i)
    → k < direction_count p → t b.next k ≡ At x
    → ((y : List ℤ) (den : ℤ) → pos 0 <ℤ den → ((i : ℕ) → i < p.game.players → IsWithin (side_at b i) (part y i) den) → sum_below (spread_term p k least y) p.game.players ≤ℤ (g *ℤ den))
    → Admissible p t b.state b.profile z → value p b.state b.profile k z ≤ℤ ((pos least *ℤ x +ℤ stage_value p b k +ℤ g) *ℤ z.denominator)
at_most_all p t b k least x g z ok box low within at spread adm =
    at_most_along (sym (value_split p t b k least z box low)) refl
    (all_parts z.denominator (stage_value p b k) (pos least) (dot p.game.players (direction p k) z.numerators) x (sum_below (spread_term p k least z.numerators) p.game.players) g (omega (arith, ints))
    (adm.half_planes k x within (ap (λ s. t s k) (sym box.next) ∙ at))
    (spread z.numerators z.denominator adm.positive (λ i w. within_sides p t b z i ok box adm w)))

-- the same without a level: by the sides of the box alone
no_level : (m x : ℤ) → m ≡ pos 0 → m *ℤ x ≡ pos 0 *ℤ pos 0
no_level m x e = rw e (ring (x ∷ []) (lit (pos 0) ⊗ var 0) (lit (pos 0) ⊗ lit (pos 0)) refl)

pub at_most_box : (p : Problem) (t : Levels) (b : ProfileBox) (k : ℕ) (g : ℤ) (z : Fractions) → IsProblem p → IsBoxOf p t b → k < direction_count p
    → ((y : List ℤ) (den : ℤ) → pos 0 <ℤ den → ((i : ℕ) → i < p.game.players → IsWithin (side_at b i) (part y i) den) → sum_below (spread_term p k 0 y) p.game.players ≤ℤ (g *ℤ den))
    → Admissible p t b.state b.profile z → value p b.state b.profile k z ≤ℤ ((pos 0 *ℤ pos 0 +ℤ stage_value p b k +ℤ g) *ℤ z.denominator)
at_most_box p t b k g z ok box within spread adm =
    let known : IsNumber (t b.next k) = subst (λ s. IsNumber (t s k)) (sym box.next) (box.known.next k within) in
    let x : ℤ = level_of (t b.next k) in
    at_most_along refl (ap (λ m. (m +ℤ stage_value p b k +ℤ g) *ℤ z.denominator) (no_level (pos 0) x refl))
    (at_most_all p t b k 0 x g z ok box (λ i w. omega arith) within (number_at (t b.next k) known) spread adm)
  where
    level_of : Level → ℤ
    level_of Empty = pos 0
    level_of (At x) = x

    number_at : (l : Level) → IsNumber l → l ≡ At (level_of l)
    number_at Empty h = absurd h
    number_at (At x) h = refl

-- where all discount numerators are equal
nothing_more : (m : ℕ) (z : ℤ) → pos (m - m) *ℤ z ≡ pos 0
nothing_more m z = let e : m - m ≡ 0 = omega arith in rw e (ring (z ∷ []) (lit (pos 0) ⊗ var 0) (lit (pos 0)) refl)

pub no_spread : (p : Problem) (b : ProfileBox) (k least : ℕ) → ((i : ℕ) → i < p.game.players → discount_at p i ≡ least) → IsMostSpread p b k least (pos 0)
no_spread p b k least same y den positive within =
    at_most_from_same (sum_below (spread_term p k least y) p.game.players) (pos 0 *ℤ den)
    (sum_below-zero (spread_term p k least y) p.game.players (λ i w. ap (λ m. pos (m - least) *ℤ (part (direction p k) i *ℤ part y i)) (same i w) ∙ nothing_more least (part (direction p k) i *ℤ part y i))
    ∙ ring (den ∷ []) (lit (pos 0)) (lit (pos 0) ⊗ var 0) refl)
