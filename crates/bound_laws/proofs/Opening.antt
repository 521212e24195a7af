-- The opening bounds, and nothing that it admits passes it.
use Rattle.std.proofs.Common.{◌≡◌, ◌≢◌, inl, inr, ℕ, suc, ◌-◌, ◌*◌, ◌<◌, ◌≤◌, List, [], ◌∷◌, length, refl, ap, sym, ◌∙◌, arith, mul-pos}
use Rattle.std.specs.Prelude.{ℤ, pos, negsuc, ◌+ℤ◌, ◌-ℤ◌, ◌*ℤ◌, ◌≤ℤ◌, ◌<ℤ◌, neg_ℤ}
use Rattle.std.proofs.lemmas.Int.{ints}
use Rattle.exact_algebra.specs.Poly.{var, lit, neg, ◌⊕◌, ◌⊗◌}
use Rattle.exact_algebra.proofs.Normal.{ring}
use Rattle.exact_algebra.proofs.Order.{at_most_trans, times_at_most, plus_at_most, product_above_zero, product_at_least_zero}
use Rattle.bound_laws.proofs.Order.{at_most_along, at_most_turned, between_multiples, cancel, minus_times, negative_times, nought_times, widen}
use Rattle.direction_set.specs.DirectionTable.{opposite_of}
use Rattle.game_model.specs.Game.{DynamicGame, IsGame, states, counts, profile_count, successor, payoff_at}
use Rattle.game_model.specs.SelfGeneration.{Correspondence, Entry, IsGenerated, IsSelfGenerating, BoundsPoints, entries_of, entry_at, part, sum_below, dot, total_weight, weighted_part, profile_of}
use Rattle.game_model.proofs.Profiles.{EachPositive, profile_number_below}
use Rattle.level_table.specs.declared.level.Level.{Level}
use Rattle.level_table.specs.declared.level.Level.TheVariants.{Empty, At}
use Rattle.level_table.specs.Problem.{Problem, direction_count, direction, unit, fineness, discount_at, plus_axis, minus_axis, largest, largest_payoff, opening_level, IsProblem}
use Rattle.level_table.specs.Levels.{Levels, IsBelow, IsRow, opening_table}
use Rattle.level_table.specs.Operator.{Fractions, Admissible, HasValueAbove, IsRowLevel, value, value_unit}
use Rattle.level_table.specs.Start.{IsBetween}
use Rattle.bound_laws.proofs.Cleared.{peak_at_most}
use Rattle.bound_laws.proofs.Directions.{dot-plus_axis, dot-minus_axis, part-plus_axis_same, part-plus_axis_other, part-minus_axis_same, part-minus_axis_other, part-opposite, opposite_known}
use Rattle.bound_laws.proofs.Levels.{number_at_most}
use Rattle.bound_laws.proofs.Operator.{value_part, value_unit_positive}
use Rattle.bound_laws.proofs.Places.{each_positive, next_state, plus_axis_known, minus_axis_known}
use Rattle.bound_laws.proofs.Sums.{sum_below-same, sum_below-times, sum_below-one, sum_below-at_most, weighted_part_at_most, greatest_of_lists, HasGreatest, at_most_largest, largest_reached, outcome}

-- base * 2^grid
abbrev fine_base : Problem → ℤ
fine_base p = pos (p.game.base * fineness p)

-- the largest payoff of player i, weighted by direction k
abbrev pub top_payoff : Problem → ℕ → ℕ → ℤ
top_payoff p k i = largest_payoff p.game (part (direction p k) i) i

-- ---- the largest payoff
pub payoff_at_most_largest : (g : DynamicGame) (v : ℤ) (i s a : ℕ) → s < states g → a < profile_count (counts g s) → (v *ℤ payoff_at g s a i) ≤ℤ largest_payoff g v i
payoff_at_most_largest g v i s a state profile =
    at_most_trans (v *ℤ payoff_at g s a i) (largest (λ b. v *ℤ payoff_at g s b i) (profile_count (counts g s) - 1)) (largest_payoff g v i)
    (at_most_largest (λ b. v *ℤ payoff_at g s b i) (profile_count (counts g s) - 1) a (omega arith))
    (at_most_largest (λ r. largest (λ b. v *ℤ payoff_at g r b i) (profile_count (counts g r) - 1)) (states g - 1) s (omega arith))

pub profile_count_positive : (ms : List ℕ) → EachPositive ms → 0 < profile_count ms
profile_count_positive [] h = omega arith
profile_count_positive (m ∷ ms) h =
    let here : 1 ≤ m = h 0 (omega arith) in
    let rest : 0 < profile_count ms = profile_count_positive ms (λ j within. h (suc j) (omega arith)) in
    mul-pos here rest

-- it is that of some profile
record IsPayoff (g : DynamicGame) (v : ℤ) (i : ℕ) (x : ℤ) : Type 0 where
  state : ℕ
  profile : ℕ
  state_known : state < states g
  profile_known : profile < profile_count (counts g state)
  same : x ≡ v *ℤ payoff_at g state profile i

largest_is_payoff : (g : DynamicGame) (v : ℤ) (i : ℕ) → IsGame g → IsPayoff g v i (largest_payoff g v i)
largest_is_payoff g v i ok =
    let outer = largest_reached (λ r. largest (λ b. v *ℤ payoff_at g r b i) (profile_count (counts g r) - 1)) (states g - 1) in
    let some : 1 ≤ states g = ok.some_state in
    let within : outer.0 < suc (states g - 1) = outer.1 in
    let state : outer.0 < states g = omega arith in
    let inner = largest_reached (λ b. v *ℤ payoff_at g outer.0 b i) (profile_count (counts g outer.0) - 1) in
    let inside : inner.0 < suc (profile_count (counts g outer.0) - 1) = inner.1 in
    let positive : 0 < profile_count (counts g outer.0) = profile_count_positive (counts g outer.0) (each_positive g outer.0 ok state) in
    record {
      state = outer.0;
      profile = inner.0;
      state_known = state;
      profile_known = omega arith;
      same = outer.2 ∙ inner.2;
    }

-- multiples of the largest payoffs
largest_times : (g : DynamicGame) (c w v : ℤ) (i : ℕ) → IsGame g → c ≡ w *ℤ v → (w *ℤ largest_payoff g v i) ≤ℤ largest_payoff g c i
largest_times g c w v i ok e =
    let top : IsPayoff g v i (largest_payoff g v i) = largest_is_payoff g v i ok in
    let u : ℤ = payoff_at g top.state top.profile i in
    at_most_along
    (ap (λ z. z *ℤ u) e ∙ ring (w ∷ v ∷ u ∷ []) ((var 0 ⊗ var 1) ⊗ var 2) (var 0 ⊗ (var 1 ⊗ var 2)) refl ∙ ap (λ z. w *ℤ z) (sym top.same))
    refl
    (payoff_at_most_largest g c i top.state top.profile top.state_known top.profile_known)

largest_of_zero : (g : DynamicGame) (i : ℕ) → IsGame g → largest_payoff g (pos 0) i ≡ pos 0
largest_of_zero g i ok =
    let top : IsPayoff g (pos 0) i (largest_payoff g (pos 0) i) = largest_is_payoff g (pos 0) i ok in
    top.same ∙ nought_times (payoff_at g top.state top.profile i)

-- ---- the opening bounds
q_splits : (p : Problem) (i : ℕ) → IsProblem p → i < p.game.players → pos p.game.q ≡ pos (p.game.q - discount_at p i) +ℤ pos (discount_at p i)
q_splits p i ok player = let h : discount_at p i < p.game.q = ok.game.discounts_below i player in ap pos (omega arith)

-- Part i of the points, times v.
abbrev turned_part : Correspondence → ℤ → ℕ → ℕ → ℕ → ℤ
turned_part c v i s j = v *ℤ part (entry_at c s j).point i

-- The greatest of them is at most the largest payoff: its continuation is an average of parts that are no greater.
peak_is_payoff : (p : Problem) (c : Correspondence) (v : ℤ) (i : ℕ) → IsProblem p → IsSelfGenerating p.game c → i < p.game.players
    → (top : HasGreatest (turned_part c v i) (λ s. length (entries_of c s)) (states p.game))
    → turned_part c v i top.list top.place ≤ℤ (pos c.scale *ℤ largest_payoff p.game v i)
peak_is_payoff p c v i ok self player top =
    let s : ℕ = top.list in
    let e : Entry = entry_at c s top.place in
    let made : IsGenerated p.game c s e = self.generated s top.place top.list_known top.place_known in
    let a : ℕ = profile_of p.game s e in
    let known : a < profile_count (counts p.game s) = profile_number_below (counts p.game s) e.profile made.profile in
    let next : successor p.game s a < states p.game = next_state p.game s a ok.game top.list_known known in
    let z : ℤ = pos (total_weight e.lottery) in
    let qp : ℤ = pos (p.game.q - discount_at p i) in
    let below : discount_at p i < p.game.q = ok.game.discounts_below i player in
    let weights : 0 < total_weight e.lottery = made.weights in
    peak_at_most v qp (pos (discount_at p i)) (pos c.scale) z (payoff_at p.game s a i)
    (weighted_part (entries_of c (successor p.game s a)) i e.lottery) (part e.point i) (pos p.game.q) (largest_payoff p.game v i)
    (q_splits p i ok player)
    (product_above_zero qp z (omega (arith, ints)) (omega (arith, ints)))
    (omega (arith, ints)) (omega (arith, ints))
    (made.value i player)
    (payoff_at_most_largest p.game v i s a top.list_known known)
    (weighted_part_at_most (entries_of c (successor p.game s a)) i v (turned_part c v i s top.place) e.lottery
    (λ j within. top.greatest (successor p.game s a) (outcome e.lottery j) next (made.lottery j within)))

part_at_most : (p : Problem) (c : Correspondence) (v : ℤ) (i s j : ℕ) → IsProblem p → IsSelfGenerating p.game c → i < p.game.players → s < states p.game → j < length (entries_of c s)
    → turned_part c v i s j ≤ℤ (pos c.scale *ℤ largest_payoff p.game v i)
part_at_most p c v i s j ok self player state within =
    elim (greatest_of_lists (turned_part c v i) (λ r. length (entries_of c r)) (states p.game)) [
      | inl none ↦ absurd (none s j state within)
      | inr top ↦ at_most_trans (turned_part c v i s j) (turned_part c v i top.list top.place) (pos c.scale *ℤ largest_payoff p.game v i)
          (top.greatest s j state within) (peak_is_payoff p c v i ok self player top)
    ]

pub opening_bounds : (p : Problem) (s k : ℕ) → IsProblem p → IsRow p s k → BoundsPoints p.game (unit p) s (direction p k) (opening_level p k)
opening_bounds p s k ok row c self j within =
    let v : List ℤ = direction p k in
    let point : List ℤ = (entry_at c s j).point in
    let sum : ℤ = sum_below (top_payoff p k) p.game.players in
    let d : pos 1 ≤ℤ p.game.denominator = ok.game.denominator_positive in
    let each : dot p.game.players v point ≤ℤ (pos c.scale *ℤ sum) = at_most_along refl (sum_below-times (pos c.scale) (top_payoff p k) p.game.players)
    (sum_below-at_most (λ i. part v i *ℤ part point i) (λ i. pos c.scale *ℤ top_payoff p k i) p.game.players
    (λ i player. part_at_most p c (part v i) i s j ok self player row.state within)) in
    at_most_along refl
    (ring (p.game.denominator ∷ fine_base p ∷ pos c.scale ∷ sum ∷ []) ((var 0 ⊗ var 1) ⊗ (var 2 ⊗ var 3)) ((var 1 ⊗ var 3) ⊗ (var 2 ⊗ var 0)) refl)
    (times_at_most (unit p) (dot p.game.players v point) (pos c.scale *ℤ sum)
    (product_at_least_zero p.game.denominator (fine_base p) (omega (arith, ints)) (omega (arith, ints))) each)

-- ---- nothing passes the opening
opening_of_one : (p : Problem) (k i : ℕ) (v : ℤ) → IsProblem p → i < p.game.players → part (direction p k) i ≡ v → ((j : ℕ) → j ≢ i → part (direction p k) j ≡ pos 0)
    → opening_level p k ≡ fine_base p *ℤ largest_payoff p.game v i
opening_of_one p k i v ok player here others =
    ap (λ z. fine_base p *ℤ z)
    (sum_below-one (top_payoff p k) p.game.players i player
    (λ j within other. ap (λ z. largest_payoff p.game z j) (others j other) ∙ largest_of_zero p.game j ok.game)
    ∙ ap (λ z. largest_payoff p.game z i) here)

-- the largest payoff of a player, weighted by c, in the unit of levels
abbrev reach_of : Problem → Fractions → ℕ → ℤ → ℤ
reach_of p y i c = (fine_base p *ℤ largest_payoff p.game c i) *ℤ y.denominator

-- what the axes of the next state say of one part, where the table is at most the opening
record IsWithinAxes (p : Problem) (y : Fractions) (i : ℕ) : Type 0 where
  upper : part y.numerators i ≤ℤ reach_of p y i (pos 1)
  lower : neg_ℤ (part y.numerators i) ≤ℤ reach_of p y i (neg_ℤ (pos 1))

-- one half-plane of the next state, at the opening level
opening_half_plane : (p : Problem) (t : Levels) (s a k : ℕ) (y : Fractions) → IsProblem p → IsBelow p t (opening_table p) → s < states p.game → a < profile_count (counts p.game s)
    → Admissible p t s a y → k < direction_count p → dot p.game.players (direction p k) y.numerators ≤ℤ (opening_level p k *ℤ y.denominator)
opening_half_plane p t s a k y ok below state profile h within =
    let next : ℕ = successor p.game s a in
    let row : IsRow p next k = record { state = next_state p.game s a ok.game state profile; direction = within } in
    let f = number_at_most (t next k) (At (opening_level p k)) (opening_level p k) (below next k row) refl (h.next_known k within) in
    widen y.denominator (dot p.game.players (direction p k) y.numerators) f.0 (opening_level p k) h.positive f.2 (h.half_planes k f.0 within f.1)

within_axes : (p : Problem) (t : Levels) (s a i : ℕ) (y : Fractions) → IsProblem p → IsBelow p t (opening_table p) → s < states p.game → a < profile_count (counts p.game s)
    → Admissible p t s a y → i < p.game.players → IsWithinAxes p y i
within_axes p t s a i y ok below state profile h player =
    let plus = opening_of_one p (plus_axis i) i (pos 1) ok player (part-plus_axis_same p i ok player) (λ j other. part-plus_axis_other p i j ok player other) in
    let minus = opening_of_one p (minus_axis i) i (neg_ℤ (pos 1)) ok player (part-minus_axis_same p i ok player) (λ j other. part-minus_axis_other p i j ok player other) in
    record {
      upper = at_most_along (dot-plus_axis p i y.numerators ok player) (ap (λ z. z *ℤ y.denominator) plus)
          (opening_half_plane p t s a (plus_axis i) y ok below state profile h (plus_axis_known p i ok player));
      lower = at_most_along (dot-minus_axis p i y.numerators ok player) (ap (λ z. z *ℤ y.denominator) minus)
          (opening_half_plane p t s a (minus_axis i) y ok below state profile h (minus_axis_known p i ok player));
    }

-- n ≤ (f * l) * d and w * l ≤ top give w * n ≤ (f * top) * d
scaled_part : (w n f l top d : ℤ) → pos 0 ≤ℤ w → pos 0 ≤ℤ f → pos 0 <ℤ d → n ≤ℤ ((f *ℤ l) *ℤ d) → (w *ℤ l) ≤ℤ top → (w *ℤ n) ≤ℤ ((f *ℤ top) *ℤ d)
scaled_part w n f l top d weight factor positive h k =
    let first : (w *ℤ n) ≤ℤ ((f *ℤ d) *ℤ (w *ℤ l)) = at_most_along refl
    (ring (w ∷ f ∷ l ∷ d ∷ []) (var 0 ⊗ ((var 1 ⊗ var 2) ⊗ var 3)) ((var 1 ⊗ var 3) ⊗ (var 0 ⊗ var 2)) refl)
    (times_at_most w n ((f *ℤ l) *ℤ d) weight h) in
    let second : ((f *ℤ d) *ℤ (w *ℤ l)) ≤ℤ ((f *ℤ top) *ℤ d) = at_most_along refl
    (ring (f ∷ d ∷ top ∷ []) ((var 0 ⊗ var 1) ⊗ var 2) ((var 0 ⊗ var 2) ⊗ var 1) refl)
    (times_at_most (f *ℤ d) (w *ℤ l) top (product_at_least_zero f d factor (omega (arith, ints))) k) in
    at_most_trans (w *ℤ n) ((f *ℤ d) *ℤ (w *ℤ l)) ((f *ℤ top) *ℤ d) first second

-- a part times any whole number, from plus or minus the part
weighted_axis : (p : Problem) (y : Fractions) (i : ℕ) (c : ℤ) → IsProblem p → pos 0 <ℤ y.denominator → IsWithinAxes p y i → (c *ℤ part y.numerators i) ≤ℤ reach_of p y i c
weighted_axis p y i (pos m) ok positive axes =
    scaled_part (pos m) (part y.numerators i) (fine_base p) (largest_payoff p.game (pos 1) i) (largest_payoff p.game (pos m) i) y.denominator
    (omega (arith, ints)) (omega (arith, ints)) positive axes.upper
    (largest_times p.game (pos m) (pos m) (pos 1) i ok.game (ring (pos m ∷ []) (var 0) (var 0 ⊗ lit (pos 1)) refl))
weighted_axis p y i (negsuc m) ok positive axes =
    at_most_along (ring (pos (suc m) ∷ part y.numerators i ∷ []) (var 0 ⊗ neg (var 1)) (neg (var 0) ⊗ var 1) refl) refl
    (scaled_part (pos (suc m)) (neg_ℤ (part y.numerators i)) (fine_base p) (largest_payoff p.game (neg_ℤ (pos 1)) i) (largest_payoff p.game (negsuc m) i) y.denominator
    (omega (arith, ints)) (omega (arith, ints)) positive axes.lower
    (largest_times p.game (negsuc m) (pos (suc m)) (neg_ℤ (pos 1)) i ok.game (ring (pos (suc m) ∷ []) (neg (var 0)) (var 0 ⊗ neg (lit (pos 1))) refl)))

-- one player's part of a value
value_part_at_most : (c qp p b f u d n q top : ℤ) → q ≡ qp +ℤ p → pos 0 ≤ℤ (qp *ℤ b *ℤ f *ℤ d) → pos 0 ≤ℤ p → (c *ℤ u) ≤ℤ top → (c *ℤ n) ≤ℤ (((b *ℤ f) *ℤ top) *ℤ d)
    → (c *ℤ (((qp *ℤ b *ℤ f) *ℤ u *ℤ d) +ℤ (p *ℤ n))) ≤ℤ (((b *ℤ f) *ℤ (q *ℤ d)) *ℤ top)
value_part_at_most c qp p b f u d n q top split factor weight h k =
    at_most_along
    (ring (qp ∷ b ∷ f ∷ d ∷ c ∷ u ∷ p ∷ n ∷ []) ((var 0 ⊗ var 1 ⊗ var 2 ⊗ var 3) ⊗ (var 4 ⊗ var 5) ⊕ var 6 ⊗ (var 4 ⊗ var 7)) (var 4 ⊗ (((var 0 ⊗ var 1 ⊗ var 2) ⊗ var 5 ⊗ var 3) ⊕ (var 6 ⊗ var 7))) refl)
    (ring (qp ∷ b ∷ f ∷ d ∷ top ∷ p ∷ []) ((var 0 ⊗ var 1 ⊗ var 2 ⊗ var 3) ⊗ var 4 ⊕ var 5 ⊗ (((var 1 ⊗ var 2) ⊗ var 4) ⊗ var 3)) (((var 1 ⊗ var 2) ⊗ ((var 0 ⊕ var 5) ⊗ var 3)) ⊗ var 4) refl
    ∙ ap (λ z. ((b *ℤ f) *ℤ (z *ℤ d)) *ℤ top) (sym split))
    (plus_at_most ((qp *ℤ b *ℤ f *ℤ d) *ℤ (c *ℤ u)) ((qp *ℤ b *ℤ f *ℤ d) *ℤ top) (p *ℤ (c *ℤ n)) (p *ℤ (((b *ℤ f) *ℤ top) *ℤ d))
    (times_at_most (qp *ℤ b *ℤ f *ℤ d) (c *ℤ u) top factor h)
    (times_at_most p (c *ℤ n) (((b *ℤ f) *ℤ top) *ℤ d) weight k))

pub value_at_most_opening : (p : Problem) (t : Levels) (s a k : ℕ) (y : Fractions) → IsProblem p → IsBelow p t (opening_table p) → IsRow p s k → a < profile_count (counts p.game s)
    → Admissible p t s a y → value p s a k y ≤ℤ (opening_level p k *ℤ value_unit p y)
value_at_most_opening p t s a k y ok below row profile h =
    let v : List ℤ = direction p k in
    let times : ℤ = fine_base p *ℤ value_unit p y in
    let positive : pos 0 <ℤ y.denominator = h.positive in
    at_most_along refl
    (sum_below-times times (top_payoff p k) p.game.players
    ∙ ring (fine_base p ∷ value_unit p y ∷ sum_below (top_payoff p k) p.game.players ∷ []) ((var 0 ⊗ var 1) ⊗ var 2) ((var 0 ⊗ var 2) ⊗ var 1) refl)
    (sum_below-at_most (λ i. part v i *ℤ value_part p s a y i) (λ i. times *ℤ top_payoff p k i) p.game.players
    (λ i player.
    value_part_at_most (part v i) (pos (p.game.q - discount_at p i)) (pos (discount_at p i)) (pos p.game.base) (pos (fineness p)) (payoff_at p.game s a i) y.denominator (part y.numerators i) (pos p.game.q) (top_payoff p k i)
    (q_splits p i ok player)
    (product_at_least_zero (pos ((p.game.q - discount_at p i) * p.game.base * fineness p)) y.denominator (omega (arith, ints)) (omega (arith, ints)))
    (omega (arith, ints))
    (payoff_at_most_largest p.game (part v i) i s a row.state profile)
    (weighted_axis p y i (part v i) ok h.positive (within_axes p t s a i y ok below row.state profile h player))))

-- in the opposite direction a value is its negative
value-opposite : (p : Problem) (s a k : ℕ) (y : Fractions) → IsProblem p → k < direction_count p → value p s a (opposite_of k) y ≡ neg_ℤ (value p s a k y)
value-opposite p s a k y ok within =
    let here = λ (i : ℕ). part (direction p k) i *ℤ value_part p s a y i in
    sum_below-same (λ i. part (direction p (opposite_of k)) i *ℤ value_part p s a y i) (λ i. neg_ℤ (pos 1) *ℤ here i) p.game.players
    (λ i player.
    ap (λ z. z *ℤ value_part p s a y i) (part-opposite p k i ok within)
    ∙ negative_times (part (direction p k) i) (value_part p s a y i)
    ∙ sym (minus_times (here i)))
    ∙ sum_below-times (neg_ℤ (pos 1)) here p.game.players
    ∙ minus_times (value p s a k y)

pub value_at_least_opening : (p : Problem) (t : Levels) (s a k : ℕ) (y : Fractions) → IsProblem p → IsBelow p t (opening_table p) → IsRow p s k → a < profile_count (counts p.game s)
    → Admissible p t s a y → (neg_ℤ (opening_level p (opposite_of k)) *ℤ value_unit p y) ≤ℤ value p s a k y
value_at_least_opening p t s a k y ok below row profile h =
    let o : ℤ = opening_level p (opposite_of k) in
    let back : IsRow p s (opposite_of k) = record { state = row.state; direction = opposite_known p k ok row.direction } in
    at_most_along (sym (negative_times o (value_unit p y))) refl
    (at_most_turned (value p s a k y) (o *ℤ value_unit p y)
    (at_most_along (value-opposite p s a k y ok row.direction) refl (value_at_most_opening p t s a (opposite_of k) y ok below back profile h)))

pub row_level_is_between : (p : Problem) (t : Levels) (s k : ℕ) (l : Level) → IsProblem p → IsBelow p t (opening_table p) → IsRow p s k → IsRowLevel p t s k l → IsBetween p k l
row_level_is_between p t s k Empty ok below row level = tt
row_level_is_between p t s k (At x) ok below row level =
    let top : HasValueAbove p t s k (x -ℤ pos 1) = level.1 in
    let y : Fractions = top.vector in
    let v : ℤ = value p s top.profile k y in
    let o : ℤ = neg_ℤ (opening_level p (opposite_of k)) in
    let positive : pos 0 <ℤ value_unit p y = value_unit_positive p y ok top.admissible.positive in (
      cancel (value_unit p y) o x positive
          (at_most_trans (o *ℤ value_unit p y) v (x *ℤ value_unit p y)
          (value_at_least_opening p t s top.profile k y ok below row top.known top.admissible) (level.0 top.profile y top.known top.admissible)),
      between_multiples (value_unit p y) v x (opening_level p k) positive top.above (value_at_most_opening p t s top.profile k y ok below row top.known top.admissible),
    )
