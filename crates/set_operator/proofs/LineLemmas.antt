-- Lines of profiles: what they ask, and what gives the sides of each of their profiles.
use Rattle.std.proofs.Common.{◌≡◌, inl, inr, ℕ, ◌+◌, ◌-◌, ◌*◌, ◌/◌, ◌%◌, ◌^◌, ◌<◌, ◌≤◌, List, [], ◌∷◌, ◌++◌, length, refl, sym, ap, ◌∙◌, subst, arith, lit<, take, below_more, FitsSigned}
use Rattle.std.specs.Prelude.{ℤ, pos, ◌+ℤ◌, ◌-ℤ◌, ◌*ℤ◌, ◌≤ℤ◌, ◌<ℤ◌, Option, Some, None, IfNone, slice_index, slice_index_or}
use Rattle.std.specs.Int.{w64}
use Rattle.std.specs.Int.RustNames.{unsigned_abs}
use Rattle.std.proofs.lemmas.Int.{ints, by_lt_z}
use Rattle.std.proofs.lemmas.Bool.{cases_eq}
use Rattle.std.proofs.lemmas.List.{get_or_append_left, get_or_push, length_push}
use Rattle.std.proofs.lemmas.Nat.{div-mul-add, mod-mul-add}
use Rattle.std.proofs.Math.Nat.{div-le_self, mul-le-mul}
use Rattle.std.proofs.Math.Pow.{pow_mono}
use Rattle.exact_algebra.specs.Poly.{var, ◌⊖◌, ◌⊗◌}
use Rattle.exact_algebra.proofs.Normal.{ring}
use Rattle.exact_algebra.proofs.Order.{abs_difference, abs_product, abs_sum, below_at_most_trans, at_most_from_same}
use Rattle.exact_algebra.proofs.Fits.{fits64}
use Rattle.game_model.specs.Game.{DynamicGame, IsGame, IsState, states, counts, profile_count, payoff_at, strategy_at, deviation_at, reached, successor}
use Rattle.game_model.proofs.Profiles.{Moves, strategy_below}
use Rattle.level_table.specs.declared.level.Level.{Level}
use Rattle.level_table.specs.declared.level.Level.TheVariants.{Empty, At}
use Rattle.level_table.specs.Problem.{Problem, IsProblem, discount_at, fineness, minus_axis, gain}
use Rattle.level_table.specs.Levels.{Levels}
use Rattle.level_table.specs.Reasons.{AreKnown, IsKnown}
use Rattle.level_table.specs.Tables.{HasSmallOpening}
use Rattle.level_table.proofs.Sizes.{base_small, payoff_small}
use Rattle.bound_laws.proofs.Places.{each_positive}
use Rattle.set_operator.specs.Asked.{EachReachKnown, gain_unit}
use Rattle.set_operator.specs.Boxes.{IsSource}
use Rattle.set_operator.specs.Lines.{AreAll, AreAsks, IsKnownLine, IsLine, IsLineBelow, IsLineOf, IsTerm, worth}
use Rattle.set_operator.specs.declared.lines.Asks.{Asks}
use Rattle.set_operator.specs.declared.lines.Line.{Line}
use Rattle.set_operator.proofs.Openings.{payoff_scaled}
use Rattle.set_operator.proofs.Scales.{W, fewer_times, kept}
use Rattle.set_operator.proofs.Strides.{moves_of}

-- ---- what a payoff counts, in 64 bits
pub record IsCounted (k u x : ℤ) : Type 0 where
  pub k_small : unsigned_abs k ≤ 2 ^ 10
  pub u_small : unsigned_abs u ≤ 2 ^ 60
  pub x_small : unsigned_abs x ≤ 2 ^ 26
  pub product_small : unsigned_abs (u *ℤ x) ≤ 2 ^ 50

inner_is : (k u x : ℤ) → IsCounted k u x → W u *ℤ W x ≡ u *ℤ x
inner_is k u x h = rw (kept u (2 ^ 60) h.u_small (lit< tt), kept x (2 ^ 26) h.x_small (lit< tt)) refl

pub inner_fits : (k u x : ℤ) → IsCounted k u x → FitsSigned w64 (W u *ℤ W x)
inner_fits k u x h = rw (inner_is k u x h) (fits64 (u *ℤ x) (2 ^ 50) h.product_small (lit< tt))

counted_small : (k u x : ℤ) → IsCounted k u x → unsigned_abs (k *ℤ (u *ℤ x)) ≤ 2 ^ 10 * 2 ^ 50
counted_small k u x h = abs_product k (u *ℤ x) (2 ^ 10) (2 ^ 50) h.k_small h.product_small

outer_is : (k u x : ℤ) → IsCounted k u x → W k *ℤ W (W u *ℤ W x) ≡ k *ℤ (u *ℤ x)
outer_is k u x h = rw (inner_is k u x h, kept k (2 ^ 10) h.k_small (lit< tt), kept (u *ℤ x) (2 ^ 50) h.product_small (lit< tt)) refl

pub outer_fits : (k u x : ℤ) → IsCounted k u x → FitsSigned w64 (W k *ℤ W (W u *ℤ W x))
outer_fits k u x h = rw (outer_is k u x h) (fits64 (k *ℤ (u *ℤ x)) (2 ^ 10 * 2 ^ 50) (counted_small k u x h) (lit< tt))

pub counted_is : (k u x : ℤ) → IsCounted k u x → W (W k *ℤ W (W u *ℤ W x)) ≡ k *ℤ (u *ℤ x)
counted_is k u x h = rw (outer_is k u x h) (kept (k *ℤ (u *ℤ x)) (2 ^ 10 * 2 ^ 50) (counted_small k u x h) (lit< tt))

pub counted_code_small : (k u x : ℤ) → IsCounted k u x → unsigned_abs (W (W k *ℤ W (W u *ℤ W x))) ≤ 2 ^ 60
counted_code_small k u x h = rw (counted_is k u x h) (let s : unsigned_abs (k *ℤ (u *ℤ x)) ≤ 2 ^ 10 * 2 ^ 50 = counted_small k u x h in omega (arith, s))

pub counted_by_factors : (a b c : ℕ) (z : ℤ) → pos a *ℤ (pos (b * c) *ℤ z) ≡ pos (a * b * c) *ℤ z
counted_by_factors a b c z = ring (pos a ∷ pos b ∷ pos c ∷ z ∷ []) (var 0 ⊗ ((var 1 ⊗ var 2) ⊗ var 3)) (((var 0 ⊗ var 1) ⊗ var 2) ⊗ var 3) refl

counted_of : (p : Problem) (s a i : ℕ) → IsProblem p → HasSmallOpening p → s < states p.game → a < profile_count (counts p.game s) → i < p.game.players
    → IsCounted (pos (p.game.q - discount_at p i)) (pos (gain_unit p i)) (payoff_at p.game s a i)
counted_of p s a i ok opening state profile player =
    let quotient : p.game.base / discount_at p i ≤ p.game.base = div-le_self p.game.base (discount_at p i) in
    let base : p.game.base ≤ 2 ^ 30 = base_small p.game ok.game in
    let fine : fineness p ≤ 2 ^ 30 = pow_mono ok.grid in
    let factor : p.game.base / discount_at p i ≤ 2 ^ 30 = omega (arith, base, quotient) in
    let few : gain_unit p i ≤ p.game.base * fineness p = mul-le-mul quotient (omega arith) in
    record {
      k_small = omega (arith, ok.game.q_small);
      u_small = mul-le-mul factor fine;
      x_small = payoff_small p.game s a i ok.game state profile player;
      product_small = fewer_times (gain_unit p i) (p.game.base * fineness p) (2 ^ 50) (payoff_at p.game s a i) few (payoff_scaled p s a i ok opening state profile player);
    }

-- the numbers that the code has
pub counted_by : (p : Problem) (s a i : ℕ) (k u x : ℤ) → IsProblem p → HasSmallOpening p → s < states p.game → a < profile_count (counts p.game s) → i < p.game.players
    → k ≡ pos (p.game.q - discount_at p i) → u ≡ pos (gain_unit p i) → x ≡ payoff_at p.game s a i → IsCounted k u x
counted_by p s a i k u x ok opening state profile player ek eu ex = rw (ek, eu, ex) (counted_of p s a i ok opening state profile player)

pub worth_by : (p : Problem) (s a i : ℕ) (k u x : ℤ) → k ≡ pos (p.game.q - discount_at p i) → u ≡ pos (gain_unit p i) → x ≡ payoff_at p.game s a i → k *ℤ (u *ℤ x) ≡ worth p s a i
worth_by p s a i k u x ek eu ex = rw (ek, eu, ex) (counted_by_factors (p.game.q - discount_at p i) (p.game.base / discount_at p i) (fineness p) (payoff_at p.game s a i))

pub worth_small : (p : Problem) (s a i : ℕ) → IsProblem p → HasSmallOpening p → s < states p.game → a < profile_count (counts p.game s) → i < p.game.players → unsigned_abs (worth p s a i) ≤ 2 ^ 60
worth_small p s a i ok opening state profile player =
    let k : ℤ = pos (p.game.q - discount_at p i) in
    let u : ℤ = pos (gain_unit p i) in
    let x : ℤ = payoff_at p.game s a i in
    let e : k *ℤ (u *ℤ x) ≡ worth p s a i = worth_by p s a i k u x refl refl refl in
    let h : unsigned_abs (k *ℤ (u *ℤ x)) ≤ 2 ^ 10 * 2 ^ 50 = counted_small k u x (counted_of p s a i ok opening state profile player) in
    subst (λ z. unsigned_abs z ≤ 2 ^ 60) e (omega (arith, h))

-- ---- profiles of a line
-- the profile itself
pub own_place : (g : DynamicGame) (s a i : ℕ) → IsGame g → s < states g → a < profile_count (counts g s) → i < g.players → deviation_at g s a i (strategy_at g s a i) ≡ a
own_place g s a i ok state profile player =
    let st : IsState g s = ok.each_state s state in
    let own : strategy_at g s a i < slice_index (counts g s) i = strategy_below (counts g s) a i (each_positive g s ok state) (omega (arith, st.one_each, player)) in
    let m : Moves (counts g s) a i (strategy_at g s a i) = moves_of g s a i (strategy_at g s a i) ok state profile player own in
    omega (arith, m.number)

-- one that differs in the player's strategy is in the same line
same_numbers : (d e a o b c P : ℕ) → d + o * P ≡ a + b * P → e + b * P ≡ d + c * P → e + o * P ≡ a + c * P
same_numbers d e a o b c P h k = omega arith

same_sum : (x y m : ℕ) → x + m ≡ y + m → x ≡ y
same_sum x y m h = omega arith

pub same_line : (g : DynamicGame) (s a i b c : ℕ) → IsGame g → s < states g → a < profile_count (counts g s) → i < g.players → b < slice_index (counts g s) i → c < slice_index (counts g s) i
    → deviation_at g s (deviation_at g s a i b) i c ≡ deviation_at g s a i c
same_line g s a i b c ok state profile player strategy other =
    let d : ℕ = deviation_at g s a i b in
    let P : ℕ = profile_count (take i (counts g s)) in
    let m : Moves (counts g s) a i b = moves_of g s a i b ok state profile player strategy in
    let n : Moves (counts g s) a i c = moves_of g s a i c ok state profile player other in
    let l : Moves (counts g s) d i c = moves_of g s d i c ok state m.below player other in
    let plays : strategy_at g s d i ≡ b = m.plays in
    let step : deviation_at g s d i c + b * P ≡ d + c * P = subst (λ y. deviation_at g s d i c + y * P ≡ d + c * P) plays l.number in
    same_sum (deviation_at g s d i c) (deviation_at g s a i c) (strategy_at g s a i * P)
    (same_numbers d (deviation_at g s d i c) a (strategy_at g s a i) b c P m.number step ∙ sym n.number)

-- ---- terms
abbrev number : Level → ℤ
number Empty = pos 0
number (At x) = x

pub same_term : (p : Problem) (t : Levels) (s i a : ℕ) (x y : ℤ) → IsTerm p t s i a x → IsTerm p t s i a y → x ≡ y
same_term p t s i a x y (v, here, is) (w, there, also) =
    let e : v ≡ w = ap number (sym here ∙ there) in
    is ∙ ap (λ z. z -ℤ worth p s a i) e ∙ sym also

weaker : (x z : ℤ) → x <ℤ z → x ≤ℤ z
weaker x z l = omega (arith, ints)

-- ---- one strategy after the other
pub line_start : (p : Problem) (t : Levels) (s a i : ℕ) (x : ℤ) → IsTerm p t s i (deviation_at p.game s a i 0) x → IsKnown p t (reached p.game s a i 0) → unsigned_abs x ≤ 2 ^ 61
    → IsLineBelow p t s a i 1 (record { least = x; first = 0 })
line_start p t s a i x here known small = record {
  known = λ b below. let z : b ≡ 0 = omega arith in subst (λ c. IsKnown p t (reached p.game s a i c)) (sym z) known;
  inside = omega arith;
  here = here;
  least = λ b y below e. let z : b ≡ 0 = omega arith in at_most_from_same x y (same_term p t s i (deviation_at p.game s a i 0) x y here (subst (λ c. IsTerm p t s i (deviation_at p.game s a i c) y) z e));
  earlier = λ b y below e. absurd (omega arith);
  small = small;
}

line_keep : (p : Problem) (t : Levels) (s a i n : ℕ) (line : Line) (x : ℤ) → IsLineBelow p t s a i n line → IsTerm p t s i (deviation_at p.game s a i n) x → IsKnown p t (reached p.game s a i n) → line.least ≤ℤ x
    → IsLineBelow p t s a i (n + 1) line
line_keep p t s a i n line x h new known no_less = record {
  known = below_more _ _ h.known known;
  inside = omega (arith, h.inside);
  here = h.here;
  least = λ b y below e. elim (cases_eq n b) [
    | inl same ↦ subst (λ z. line.least ≤ℤ z) (same_term p t s i (deviation_at p.game s a i n) x y new (subst (λ c. IsTerm p t s i (deviation_at p.game s a i c) y) (sym same) e)) no_less
    | inr other ↦ h.least b y (omega arith) e
  ];
  earlier = h.earlier;
  small = h.small;
}

line_take : (p : Problem) (t : Levels) (s a i n : ℕ) (line : Line) (x : ℤ) → IsLineBelow p t s a i n line → IsTerm p t s i (deviation_at p.game s a i n) x → IsKnown p t (reached p.game s a i n) → unsigned_abs x ≤ 2 ^ 61 → x <ℤ line.least
    → IsLineBelow p t s a i (n + 1) (record { least = x; first = n })
line_take p t s a i n line x h new known small less = record {
  known = below_more _ _ h.known known;
  inside = omega arith;
  here = new;
  least = λ b y below e. elim (cases_eq n b) [
    | inl same ↦ at_most_from_same x y (same_term p t s i (deviation_at p.game s a i n) x y new (subst (λ c. IsTerm p t s i (deviation_at p.game s a i c) y) (sym same) e))
    | inr other ↦ weaker x y (below_at_most_trans x line.least y less (h.least b y (omega arith) e))
  ];
  earlier = λ b y below e. below_at_most_trans x line.least y less (h.least b y below e);
  small = small;
}

pub line_more : (p : Problem) (t : Levels) (s a i n : ℕ) (line result : Line) (x : ℤ) → IsLineBelow p t s a i n line → IsTerm p t s i (deviation_at p.game s a i n) x → IsKnown p t (reached p.game s a i n) → unsigned_abs x ≤ 2 ^ 61
    → (x <ℤ line.least → result ≡ record { least = x; first = n }) → (line.least ≤ℤ x → result ≡ line) → IsLineBelow p t s a i (n + 1) result
line_more p t s a i n line result x h new known small less no_less =
    by_lt_z x line.least
    (λ l. subst (IsLineBelow p t s a i (n + 1)) (sym (less l)) (line_take p t s a i n line x h new known small l))
    (λ l. subst (IsLineBelow p t s a i (n + 1)) (sym (no_less l)) (line_keep p t s a i n line x h new known l))

-- ---- the line of one of its profiles is that of another
pub line_moved : (p : Problem) (t : Levels) (s a d i : ℕ) (line : Line) → ((b : ℕ) → b < slice_index (counts p.game s) i → deviation_at p.game s d i b ≡ deviation_at p.game s a i b) → IsLine p t s d i line → IsLine p t s a i line
line_moved p t s a d i line same h = record {
  known = λ b below. subst (λ m. IsKnown p t (successor p.game s m)) (same b below) (h.known b below);
  inside = h.inside;
  here = subst (λ m. IsTerm p t s i m line.least) (same line.first h.inside) h.here;
  least = λ b x below e. h.least b x below (subst (λ m. IsTerm p t s i m x) (sym (same b below)) e);
  earlier = λ b x below e. h.earlier b x below (subst (λ m. IsTerm p t s i m x) (sym (same b (omega (arith, below, h.inside)))) e);
  small = h.small;
}

pub known_moved : (p : Problem) (t : Levels) (s a d i : ℕ) → ((b : ℕ) → b < slice_index (counts p.game s) i → deviation_at p.game s d i b ≡ deviation_at p.game s a i b) → IsKnownLine p t s a i → IsKnownLine p t s d i
known_moved p t s a d i same h b below = subst (λ m. IsKnown p t (successor p.game s m)) (sym (same b below)) (h b below)

-- ---- the sides of a profile
gain_is : (k x y : ℤ) → k *ℤ (x -ℤ y) ≡ (k *ℤ x) -ℤ (k *ℤ y)
gain_is k x y = ring (k ∷ x ∷ y ∷ []) (var 0 ⊗ (var 1 ⊖ var 2)) ((var 0 ⊗ var 1) ⊖ (var 0 ⊗ var 2)) refl

gain_by_worth : (p : Problem) (s a i b : ℕ) → gain p s a i b ≡ worth p s (deviation_at p.game s a i b) i -ℤ worth p s a i
gain_by_worth p s a i b = gain_is (pos ((p.game.q - discount_at p i) * (p.game.base / discount_at p i) * fineness p)) (payoff_at p.game s (deviation_at p.game s a i b) i) (payoff_at p.game s a i)

-- what the code forms: w less own, less the least
pub lower_is : (own least w v : ℤ) → own ≡ w -ℤ v → w -ℤ (own -ℤ least) ≡ least +ℤ v
lower_is own least w v e = omega (arith, ints, e)

term_at : (p : Problem) (t : Levels) (s a i b : ℕ) (x : ℤ) → t (reached p.game s a i b) (minus_axis i) ≡ At x → IsTerm p t s i (deviation_at p.game s a i b) (x -ℤ worth p s (deviation_at p.game s a i b) i)
term_at p t s a i b x e = (x, e, refl)

no_more : (w least v x u g : ℤ) → w ≤ℤ (least +ℤ v) → least ≤ℤ (x -ℤ u) → g ≡ u -ℤ v → w ≤ℤ (x -ℤ g)
no_more w least v x u g h k e = omega (arith, ints, e)

-- the next state's level asks the most
pub side_by_level : (p : Problem) (t : Levels) (s a i : ℕ) (line : Line) (w : ℤ) → IsLine p t s a i line → t (successor p.game s a) (minus_axis i) ≡ At w → w ≤ℤ (line.least +ℤ worth p s a i) → IsSource p t s a i w None
side_by_level p t s a i line w h level most = (
  level,
  λ b x d e. no_more w line.least (worth p s a i) x (worth p s (deviation_at p.game s a i b) i) (gain p s a i b) most (h.least b (x -ℤ worth p s (deviation_at p.game s a i b) i) d.strategy (term_at p t s a i b x e)) (gain_by_worth p s a i b),
)

asks_most : (least v x u g y o f : ℤ) → least ≡ x -ℤ u → g ≡ u -ℤ v → least ≤ℤ (y -ℤ o) → f ≡ o -ℤ v → (f -ℤ y) ≤ℤ (g -ℤ x)
asks_most least v x u g y o f e k h l = omega (arith, ints, e, k, l)

asks_first : (least v x u g y o f : ℤ) → least ≡ x -ℤ u → g ≡ u -ℤ v → least <ℤ (y -ℤ o) → f ≡ o -ℤ v → (f -ℤ y) <ℤ (g -ℤ x)
asks_first least v x u g y o f e k h l = omega (arith, ints, e, k, l)

lower_by : (least v x u g : ℤ) → least ≡ x -ℤ u → g ≡ u -ℤ v → least +ℤ v ≡ x -ℤ g
lower_by least v x u g e k = omega (arith, ints, e, k)

not_own : (w least v x u : ℤ) → least ≡ x -ℤ u → x ≡ w → u ≡ v → (least +ℤ v) <ℤ w → ⊥
not_own w least v x u e k l h = omega (arith, ints, e, k, l)

-- the first of the strategies that ask the most
pub side_by_line : (p : Problem) (t : Levels) (s a i : ℕ) (line : Line) (w : ℤ) → IsProblem p → s < states p.game → a < profile_count (counts p.game s) → i < p.game.players
    → IsLine p t s a i line → t (successor p.game s a) (minus_axis i) ≡ At w → (line.least +ℤ worth p s a i) <ℤ w → IsSource p t s a i (line.least +ℤ worth p s a i) (Some line.first)
side_by_line p t s a i line w ok state profile player h level less =
    let b : ℕ = line.first in
    let x : ℤ = h.here.0 in
    let u : ℤ = worth p s (deviation_at p.game s a i b) i in
    let v : ℤ = worth p s a i in
    let is : line.least ≡ x -ℤ u = h.here.2 in
    let g : gain p s a i b ≡ u -ℤ v = gain_by_worth p s a i b in (
      x,
      record {
        deviation = record {
          player = player;
          strategy = h.inside;
          other = λ e.
              let place : deviation_at p.game s a i b ≡ a = ap (deviation_at p.game s a i) e ∙ own_place p.game s a i ok.game state profile player in
              not_own w line.least v x u is (ap number (sym h.here.1 ∙ ap (λ m. t (successor p.game s m) (minus_axis i)) place ∙ level)) (ap (λ m. worth p s m i) place) less;
        };
        kept = h.here.1;
        most = λ c y d e. asks_most line.least v x u (gain p s a i b) y (worth p s (deviation_at p.game s a i c) i) (gain p s a i c) is g
            (h.least c (y -ℤ worth p s (deviation_at p.game s a i c) i) d.strategy (term_at p t s a i c y e)) (gain_by_worth p s a i c);
        first = λ c y before d e. asks_first line.least v x u (gain p s a i b) y (worth p s (deviation_at p.game s a i c) i) (gain p s a i c) is g
            (h.earlier c (y -ℤ worth p s (deviation_at p.game s a i c) i) before (term_at p t s a i c y e)) (gain_by_worth p s a i c);
      },
      lower_by line.least v x u (gain p s a i b) is g,
      λ z e. subst (λ q. (line.least +ℤ v) <ℤ q) (ap number (sym level ∙ e)) less,
    )

-- states that are reached
pub reach_by_line : (p : Problem) (t : Levels) (s a i : ℕ) → IsKnownLine p t s a i → EachReachKnown p t s a i
reach_by_line p t s a i h b below d = h b below

pub next_by_line : (p : Problem) (t : Levels) (s a i : ℕ) → IsProblem p → s < states p.game → a < profile_count (counts p.game s) → i < p.game.players → IsKnownLine p t s a i → IsKnown p t (successor p.game s a)
next_by_line p t s a i ok state profile player h =
    let st : IsState p.game s = ok.game.each_state s state in
    let own : strategy_at p.game s a i < slice_index (counts p.game s) i = strategy_below (counts p.game s) a i (each_positive p.game s ok.game state) (omega (arith, st.one_each, player)) in
    subst (λ m. IsKnown p t (successor p.game s m)) (own_place p.game s a i ok.game state profile player) (h (strategy_at p.game s a i) own)

-- ---- in 64 bits
difference_kept : (x y : ℤ) (m n : ℕ) → unsigned_abs x ≤ m → unsigned_abs y ≤ n → m + n < 2 ^ 63 → W (W x -ℤ W y) ≡ x -ℤ y
difference_kept x y m n hx hy few =
    let fx : m < 2 ^ 63 = omega arith in
    let fy : n < 2 ^ 63 = omega arith in
    rw (kept x m hx fx, kept y n hy fy) (kept (x -ℤ y) (m + n) (abs_difference x y m n hx hy) few)

pub term_is : (w v : ℤ) → unsigned_abs w ≤ 2 ^ 50 → unsigned_abs v ≤ 2 ^ 60 → W (W w -ℤ W v) ≡ w -ℤ v
term_is w v hw hv = difference_kept w v (2 ^ 50) (2 ^ 60) hw hv (lit< tt)

-- ---- the steps of a line from its first profile
pub place_by : (g : DynamicGame) (s a i b stride : ℕ) → IsGame g → s < states g → a < profile_count (counts g s) → i < g.players → b < slice_index (counts g s) i → strategy_at g s a i ≡ 0 → stride ≡ profile_count (take i (counts g s))
    → a + b * stride ≡ deviation_at g s a i b
place_by g s a i b stride ok state profile player strategy begins is =
    let m : Moves (counts g s) a i b = moves_of g s a i b ok state profile player strategy in
    let n : deviation_at g s a i b + 0 * profile_count (take i (counts g s)) ≡ a + b * profile_count (take i (counts g s)) = subst (λ y. deviation_at g s a i b + y * profile_count (take i (counts g s)) ≡ a + b * profile_count (take i (counts g s))) begins m.number in
    rw is (omega (arith, n))

pub place_below : (g : DynamicGame) (s a i b : ℕ) → IsGame g → s < states g → a < profile_count (counts g s) → i < g.players → b < slice_index (counts g s) i → deviation_at g s a i b < profile_count (counts g s)
place_below g s a i b ok state profile player strategy = (moves_of g s a i b ok state profile player strategy).below

pub first_place : (g : DynamicGame) (s a i : ℕ) → IsGame g → s < states g → a < profile_count (counts g s) → i < g.players → strategy_at g s a i ≡ 0 → deviation_at g s a i 0 ≡ a
first_place g s a i ok state profile player begins = subst (λ b. deviation_at g s a i b ≡ a) begins (own_place g s a i ok state profile player)

pub some_strategy : (g : DynamicGame) (s i : ℕ) → IsGame g → s < states g → i < g.players → 0 < slice_index (counts g s) i
some_strategy g s i ok state player = let st : IsState g s = ok.each_state s state in let h : 1 ≤ slice_index (counts g s) i = st.some_strategy i player in omega arith

pub for_none : {A : Type 0} (o : Option A) (X : Type 0) → X → IfNone o X
for_none None X x = x
for_none (Some a) X x = tt

-- ---- places in a list of what each profile of each player asks
pub flat_at : (n i d k : ℕ) → d < n → k ≡ i * n + d → (k % n ≡ d) × (k / n ≡ i)
flat_at n i d k below is = rw is (mod-mul-add i n d below, div-mul-add i n d below)

less_by_one : (e a m P : ℕ) → e + (m + 1) * P ≡ a + m * P → e + P ≡ a
less_by_one e a m P h = omega arith

fewer_steps : (a m P : ℕ) → (m + 1) * P ≤ a → P ≤ a
fewer_steps a m P h = omega arith

-- a profile whose strategy isn't the first: the one with the strategy before it
pub record IsAfter (g : DynamicGame) (s a i stride : ℕ) : Type 0 where
  pub far : stride ≤ a
  pub some : 0 < stride
  pub same : (b : ℕ) → b < slice_index (counts g s) i → deviation_at g s (a - stride) i b ≡ deviation_at g s a i b

pub is_after : (g : DynamicGame) (s a i stride : ℕ) → IsGame g → s < states g → a < profile_count (counts g s) → i < g.players → (strategy_at g s a i ≡ 0 → ⊥) → stride ≡ profile_count (take i (counts g s)) → IsAfter g s a i stride
is_after g s a i stride ok state profile player later is =
    let st : IsState g s = ok.each_state s state in
    let P : ℕ = profile_count (take i (counts g s)) in
    let own : ℕ = strategy_at g s a i in
    let m : ℕ = own - 1 in
    let e : own ≡ m + 1 = omega arith in
    let inside : own < slice_index (counts g s) i = strategy_below (counts g s) a i (each_positive g s ok state) (omega (arith, st.one_each, player)) in
    let less : m < slice_index (counts g s) i = omega arith in
    let mv : Moves (counts g s) a i m = moves_of g s a i m ok state profile player less in
    let d : ℕ = deviation_at g s a i m in
    let steps : (m + 1) * P ≤ a = subst (λ y. y * P ≤ a) e mv.own in
    let number : d + (m + 1) * P ≡ a + m * P = subst (λ y. d + y * P ≡ a + m * P) e mv.number in
    let moved : d + P ≡ a = less_by_one d a m P number in
    let place : a - stride ≡ d = omega (arith, is, moved) in
    record {
      far = omega (arith, is, moved);
      some = elim (cases_eq stride 0) [
        | inl none ↦
            let stays : d ≡ a = omega (arith, is, moved, none) in
            let plays : strategy_at g s d i ≡ m = mv.plays in
            let same : own ≡ m = subst (λ x. strategy_at g s x i ≡ m) stays plays in
            absurd (omega (arith, e, same))
        | inr more ↦ omega arith
      ];
      same = λ b below. ap (λ x. deviation_at g s x i b) place ∙ same_line g s a i m b ok state profile player less below;
    }

abbrev pub line_in : Option Asks → Option Line
line_in None = None
line_in (Some asks) = Some asks.line

-- the line of the profile before is its line too
pub line_after : (p : Problem) (t : Levels) (s a i stride : ℕ) (o : Option Asks) (r : Option Line) → IsAfter p.game s a i stride → AreAsks p t s (a - stride) i o → r ≡ line_in o → IsLineOf p t s a i r
line_after p t s a i stride None r after h is = subst (IsLineOf p t s a i) (sym is) (λ known. h (known_moved p t s a (a - stride) i after.same known))
line_after p t s a i stride (Some asks) r after h is = subst (IsLineOf p t s a i) (sym is) (line_moved p t s a (a - stride) i asks.line after.same h.0)

pub asks_before : (p : Problem) (t : Levels) (s a i n stride : ℕ) (asks : List (Option Asks)) → IsAfter p.game s a i stride → a < n → n ≡ profile_count (counts p.game s) → length asks ≡ i * n + a → AreAll p t s asks
    → AreAsks p t s (a - stride) i (slice_index_or asks (length asks - stride) None)
asks_before p t s a i n stride asks after below count long all =
    let k : ℕ = length asks - stride in
    let d : ℕ = a - stride in
    let far : stride ≤ a = after.far in
    let some : 0 < stride = after.some in
    let at : k ≡ i * n + d = omega arith in
    let flat = flat_at n i d k (omega arith) at in
    let h : AreAsks p t s (k % n) (k / n) (slice_index_or asks k None) = subst (λ m. AreAsks p t s (k % m) (k / m) (slice_index_or asks k None)) (sym count) (all k (omega arith)) in
    subst (λ j. AreAsks p t s d j (slice_index_or asks k None)) flat.1 (subst (λ x. AreAsks p t s x (k / n) (slice_index_or asks k None)) flat.0 h)

-- one profile more
pub all_more : (p : Problem) (t : Levels) (s a i : ℕ) (asks : List (Option Asks)) (o : Option Asks) → a < profile_count (counts p.game s) → length asks ≡ i * profile_count (counts p.game s) + a → AreAll p t s asks → AreAsks p t s a i o
    → AreAll p t s (asks ++ o ∷ [])
all_more p t s a i asks o below long all new k inside =
    let n : ℕ = profile_count (counts p.game s) in
    elim (cases_eq k (length asks)) [
      | inl same ↦
          let flat = flat_at n i a k below (same ∙ long) in
          let at : slice_index_or (asks ++ o ∷ []) k None ≡ o = get_or_push asks o None k (sym same) in
          subst (λ x. AreAsks p t s x (k / n) (slice_index_or (asks ++ o ∷ []) k None)) (sym flat.0)
          (subst (λ j. AreAsks p t s a j (slice_index_or (asks ++ o ∷ []) k None)) (sym flat.1) (subst (AreAsks p t s a i) (sym at) new))
      | inr other ↦
          let earlier : k < length asks = omega (arith, length_push asks o, inside) in
          subst (AreAsks p t s (k % n) (k / n)) (sym (get_or_append_left asks (o ∷ []) None k earlier)) (all k earlier)
    ]

-- ---- the code of a side
own_small : (own w v : ℤ) → unsigned_abs w ≤ 2 ^ 50 → unsigned_abs v ≤ 2 ^ 60 → own ≡ w -ℤ v → unsigned_abs own ≤ 2 ^ 61
own_small own w v hw hv e = let h : unsigned_abs (w -ℤ v) ≤ 2 ^ 50 + 2 ^ 60 = abs_difference w v (2 ^ 50) (2 ^ 60) hw hv in rw e (omega (arith, h))

-- what is formed of a level w, of what the payoff counts, v, and of the least of the line
pub record IsFormed (own least w v : ℤ) : Type 0 where
  pub w_small : unsigned_abs w ≤ 2 ^ 50
  pub v_small : unsigned_abs v ≤ 2 ^ 60
  pub least_small : unsigned_abs least ≤ 2 ^ 61
  pub own_is : own ≡ w -ℤ v

pub more_is : (own least w v : ℤ) → IsFormed own least w v → W (W own -ℤ W least) ≡ own -ℤ least
more_is own least w v h = difference_kept own least (2 ^ 61) (2 ^ 61) (own_small own w v h.w_small h.v_small h.own_is) h.least_small (lit< tt)

more_small : (own least w v : ℤ) → IsFormed own least w v → unsigned_abs (own -ℤ least) ≤ 2 ^ 61 + 2 ^ 61
more_small own least w v h = abs_difference own least (2 ^ 61) (2 ^ 61) (own_small own w v h.w_small h.v_small h.own_is) h.least_small

pub more_fits : (own least w v : ℤ) → IsFormed own least w v → FitsSigned w64 (W own -ℤ W least)
more_fits own least w v h =
    rw (kept own (2 ^ 61) (own_small own w v h.w_small h.v_small h.own_is) (lit< tt), kept least (2 ^ 61) h.least_small (lit< tt))
    (fits64 (own -ℤ least) (2 ^ 61 + 2 ^ 61) (more_small own least w v h) (lit< tt))

pub lower_fits : (own least w v : ℤ) → IsFormed own least w v → FitsSigned w64 (W w -ℤ W (W own -ℤ W least))
lower_fits own least w v h =
    rw (more_is own least w v h, kept w (2 ^ 50) h.w_small (lit< tt))
    (fits64 (w -ℤ (own -ℤ least)) (2 ^ 50 + (2 ^ 61 + 2 ^ 61)) (abs_difference w (own -ℤ least) (2 ^ 50) (2 ^ 61 + 2 ^ 61) h.w_small (more_small own least w v h)) (lit< tt))

pub lower_code : (own least w v : ℤ) → IsFormed own least w v → W (W w -ℤ W (W own -ℤ W least)) ≡ least +ℤ v
lower_code own least w v h =
    let whole : W (w -ℤ (own -ℤ least)) ≡ w -ℤ (own -ℤ least) = kept (w -ℤ (own -ℤ least)) (2 ^ 50 + (2 ^ 61 + 2 ^ 61)) (abs_difference w (own -ℤ least) (2 ^ 50) (2 ^ 61 + 2 ^ 61) h.w_small (more_small own least w v h)) (lit< tt) in
    rw (more_is own least w v h, kept w (2 ^ 50) h.w_small (lit< tt)) (whole ∙ lower_is own least w v h.own_is)

pub lower_small : (own least w v : ℤ) → IsFormed own least w v → unsigned_abs (least +ℤ v) ≤ 2 ^ 62
lower_small own least w v h = let s : unsigned_abs (least +ℤ v) ≤ 2 ^ 61 + 2 ^ 60 = abs_sum least v (2 ^ 61) (2 ^ 60) h.least_small h.v_small in omega (arith, s)

pub less_by_more : (own least w v : ℤ) → own ≡ w -ℤ v → pos 0 <ℤ (own -ℤ least) → (least +ℤ v) <ℤ w
less_by_more own least w v e h = omega (arith, ints, e, h)

pub least_by_no_more : (own least w v : ℤ) → own ≡ w -ℤ v → (own -ℤ least) ≤ℤ pos 0 → w ≤ℤ (least +ℤ v)
least_by_no_more own least w v e h = omega (arith, ints, e, h)

pub formed : (p : Problem) (t : Levels) (s a i : ℕ) (own w : ℤ) (line : Line) → IsProblem p → HasSmallOpening p → s < states p.game → a < profile_count (counts p.game s) → i < p.game.players
    → IsLine p t s a i line → IsTerm p t s i a own → t (successor p.game s a) (minus_axis i) ≡ At w → unsigned_abs w ≤ 2 ^ 50 → IsFormed own line.least w (worth p s a i)
formed p t s a i own w line ok opening state profile player h term level small = record {
  w_small = small;
  v_small = worth_small p s a i ok opening state profile player;
  least_small = h.small;
  own_is = same_term p t s i a own (w -ℤ worth p s a i) term (w, level, refl);
}

-- what player i asks after a profile
pub asks_here : (p : Problem) (t : Levels) (s a i n : ℕ) (asks : List (Option Asks)) → a < n → n ≡ profile_count (counts p.game s) → i * n + a < length asks → AreAll p t s asks → AreAsks p t s a i (slice_index_or asks (i * n + a) None)
asks_here p t s a i n asks below count inside all =
    let k : ℕ = i * n + a in
    let flat = flat_at n i a k below refl in
    let h : AreAsks p t s (k % n) (k / n) (slice_index_or asks k None) = subst (λ m. AreAsks p t s (k % m) (k / m) (slice_index_or asks k None)) (sym count) (all k inside) in
    subst (λ j. AreAsks p t s a j (slice_index_or asks k None)) flat.1 (subst (λ x. AreAsks p t s x (k / n) (slice_index_or asks k None)) flat.0 h)

plus_one : (i m : ℕ) → i < m → i + 1 ≤ m
plus_one i m h = omega arith

same_at_most : (n : ℕ) → n ≤ n
same_at_most n = omega arith

pub place_inside : (i m n a : ℕ) → i < m → a < n → m ≤ 3 → n ≤ 4096 → (i * n + a < m * n) × (m * n ≤ 12288)
place_inside i m n a hi ha hm hn =
    let e : (i + 1) * n ≤ m * n = mul-le-mul (plus_one i m hi) (same_at_most n) in
    let f : m * n ≤ 3 * 4096 = mul-le-mul hm hn in
    (omega arith, omega arith)

-- where all is known, so is each line
pub line_known : (p : Problem) (t : Levels) (s a i : ℕ) → IsProblem p → s < states p.game → a < profile_count (counts p.game s) → i < p.game.players → AreKnown p t s a → IsKnownLine p t s a i
line_known p t s a i ok state profile player h b below = elim (cases_eq b (strategy_at p.game s a i)) [
  | inl same ↦ subst (λ m. IsKnown p t (successor p.game s m)) (sym (ap (deviation_at p.game s a i) same ∙ own_place p.game s a i ok.game state profile player)) h.next
  | inr other ↦ h.reached_states i b (record { player = player; strategy = below; other = other })
]

pub room_for_all : (m n room : ℕ) → m ≤ 3 → n ≤ room → m * n ≤ 3 * room
room_for_all m n room few fits = mul-le-mul few fits
