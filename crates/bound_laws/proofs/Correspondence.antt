-- The table of a self-generating correspondence: it exists, it is supported with slack 1, and it is at most each table that bounds.
use Rattle.std.proofs.Common.{◌≡◌, ◌⊎◌, inl, inr, ℕ, zero, suc, ◌-◌, ◌*◌, ◌/◌, ◌<◌, List, [], ◌∷◌, length, map, refl, ap, sym, ◌∙◌, subst, arith}
use Rattle.std.specs.Prelude.{ℤ, pos, ◌+ℤ◌, ◌-ℤ◌, ◌*ℤ◌, ◌≤ℤ◌, ◌<ℤ◌, neg_ℤ, slice_index}
use Rattle.std.proofs.lemmas.Int.{ints}
use Rattle.std.proofs.lemmas.List.FromFn.{get_or-map-range_with_len}
use Rattle.std.specs.List.{range_with_len}
use Rattle.std.proofs.Math.Nat.{mul-div_cancel_left}
use Rattle.exact_algebra.specs.Poly.{var, ◌⊗◌}
use Rattle.exact_algebra.proofs.Normal.{ring}
use Rattle.exact_algebra.proofs.Order.{at_most_trans, product_above_zero, product_at_least_zero}
use Rattle.exact_algebra.proofs.Quotients.{ceiling_exists}
use Rattle.game_model.specs.Game.{DynamicGame, IsGame, states, counts, profile_count, successor, reached, IsDeviation, payoff_at, deviation_at}
use Rattle.game_model.specs.SelfGeneration.{Entry, Correspondence, IsGenerated, IsSelfGenerating, entries_of, entry_at, part, sum_below, dot, total_weight, weighted_part, profile_of, punishment}
use Rattle.game_model.proofs.Profiles.{profile_number_below}
use Rattle.level_table.specs.declared.level.Level.{Level}
use Rattle.level_table.specs.declared.level.Level.TheVariants.{Empty, At}
use Rattle.level_table.specs.Problem.{Problem, direction_count, direction, unit, fineness, discount_at, minus_axis, gain, IsProblem}
use Rattle.level_table.specs.Levels.{Levels, AtMost, Bounds, IsBelow, IsNumber}
use Rattle.level_table.specs.Operator.{Fractions, Admissible, HasValueAbove, value}
use Rattle.level_table.specs.Supported.{IsEven, IsSupported}
use Rattle.bound_laws.specs.Laws.{HasBounds}
use Rattle.bound_laws.specs.TableOf.{reach, common_denominator, HasEntryAbove, IsLevelOf, IsTableFrom}
use Rattle.bound_laws.proofs.Cleared.{incentive_follows, value_cleared, above_cleared}
use Rattle.bound_laws.proofs.Directions.{dot-minus_axis}
use Rattle.bound_laws.proofs.Operator.{value_part}
use Rattle.bound_laws.proofs.Order.{at_most_along, below_along, between_multiples, widen}
use Rattle.bound_laws.proofs.Places.{next_state, reached_state, minus_axis_known, q_positive}
use Rattle.bound_laws.proofs.Sums.{greatest_below, sum_below-same, sum_below-times, weighted_dot_at_most, outcome}

common_denominator_positive : (p : Problem) (c : Correspondence) → IsProblem p → 0 < c.scale → pos 0 <ℤ common_denominator p c
common_denominator_positive p c ok scaled =
    let d : pos 1 ≤ℤ p.game.denominator = ok.game.denominator_positive in
    product_above_zero (pos c.scale) p.game.denominator (omega (arith, ints)) (omega (arith, ints))

-- ---- it exists
level_of_sized : (p : Problem) (c : Correspondence) (s k : ℕ) → IsProblem p → 0 < c.scale → (n : ℕ) → length (entries_of c s) ≡ n → (l : Level) × IsLevelOf p c s k l
level_of_sized p c s k ok scaled zero e = (Empty, e)
level_of_sized p c s k ok scaled (suc m) e =
    let top = greatest_below (reach p c s k) m in
    let up = ceiling_exists (reach p c s k top.0) (common_denominator p c) (common_denominator_positive p c ok scaled) in (
      At up.0,
      (
        (λ j within. at_most_trans (reach p c s k j) (reach p c s k top.0) _ (top.1.greatest j (omega arith)) up.1.reaches),
        record { entry = top.0; known = (let h : top.0 < suc m = top.1.within in omega arith); above = up.1.no_less },
      ),
    )

level_of : (p : Problem) (c : Correspondence) (s k : ℕ) → IsProblem p → 0 < c.scale → (l : Level) × IsLevelOf p c s k l
level_of p c s k ok scaled = level_of_sized p c s k ok scaled (length (entries_of c s)) refl

pub table_exists : (p : Problem) (c : Correspondence) → IsProblem p → IsSelfGenerating p.game c → (t : Levels) × IsTableFrom p c t
table_exists p c ok self = ((λ s k. (level_of p c s k ok self.scaled).0), λ s k row. (level_of p c s k ok self.scaled).1)

-- ---- it is at most each table that bounds
pub at_most_bound : (p : Problem) (c : Correspondence) (s k : ℕ) (l m : Level) → IsProblem p → IsSelfGenerating p.game c → IsLevelOf p c s k l → Bounds p s k m → AtMost l m
at_most_bound p c s k Empty m ok self level bound = tt
at_most_bound p c s k (At x) Empty ok self level bound =
    let none : length (entries_of c s) ≡ 0 = bound c self in
    let some : level.1.entry < length (entries_of c s) = level.1.known in
    absurd (omega arith)
at_most_bound p c s k (At x) (At z) ok self level bound =
    between_multiples (common_denominator p c) (reach p c s k level.1.entry) x z (common_denominator_positive p c ok self.scaled)
    level.1.above (bound c self level.1.entry level.1.known)

pub table_is_below : (p : Problem) (c : Correspondence) (t start : Levels) → IsProblem p → IsSelfGenerating p.game c → IsTableFrom p c t
    → HasBounds p start → IsBelow p t start
table_is_below p c t start ok self table bounds s k row = at_most_bound p c s k (t s k) (start s k) ok self (table s k row) (bounds s k row)

-- ---- a level that is at least that of each table bounds
none_under_empty : (p : Problem) (c : Correspondence) (s k : ℕ) (m : Level) → IsLevelOf p c s k m → AtMost m Empty → length (entries_of c s) ≡ 0
none_under_empty p c s k Empty level h = level
none_under_empty p c s k (At x) level h = absurd h

under_level : (p : Problem) (c : Correspondence) (s k j : ℕ) (m : Level) (z : ℤ) → IsProblem p → 0 < c.scale → j < length (entries_of c s)
    → IsLevelOf p c s k m → AtMost m (At z) → reach p c s k j ≤ℤ (z *ℤ common_denominator p c)
under_level p c s k j Empty z ok scaled within level h = absurd (omega arith)
under_level p c s k j (At x) z ok scaled within level h =
    widen (common_denominator p c) (reach p c s k j) x z (common_denominator_positive p c ok scaled) h (level.0 j within)

-- some table of the correspondence has at most the level l in the row
abbrev pub HasTableUnder : Problem → Correspondence → ℕ → ℕ → Level → Type 0
HasTableUnder p c s k l = (m : Level) × IsLevelOf p c s k m × AtMost m l

pub bounds_from_tables : (p : Problem) (s k : ℕ) (l : Level) → IsProblem p → ((c : Correspondence) → IsSelfGenerating p.game c → HasTableUnder p c s k l) → Bounds p s k l
bounds_from_tables p s k Empty ok under = λ c self. let u = under c self in none_under_empty p c s k u.0 u.1 u.2
bounds_from_tables p s k (At z) ok under = λ c self j within. let u = under c self in under_level p c s k j u.0 z ok self.scaled within u.1 u.2

-- ---- it is even
known_level : (p : Problem) (c : Correspondence) (s k : ℕ) (m : Level) → IsLevelOf p c s k m → 0 < length (entries_of c s) → IsNumber m
known_level p c s k Empty level some = absurd (omega arith)
known_level p c s k (At x) level some = tt

empty_level : (p : Problem) (c : Correspondence) (s k : ℕ) (m : Level) → IsLevelOf p c s k m → length (entries_of c s) ≡ 0 → m ≡ Empty
empty_level p c s k Empty level none = refl
empty_level p c s k (At x) level none = let some : level.1.entry < length (entries_of c s) = level.1.known in absurd (omega arith)

table_is_even : (p : Problem) (c : Correspondence) (t : Levels) → IsTableFrom p c t → IsEven p t
table_is_even p c t table s state = sized (length (entries_of c s)) refl
  where
    sized : (n : ℕ) → length (entries_of c s) ≡ n → ((k : ℕ) → k < direction_count p → t s k ≡ Empty) ⊎ ((k : ℕ) → k < direction_count p → IsNumber (t s k))
    sized zero e = inl (λ k within. empty_level p c s k (t s k) (table s k (record { state = state; direction = within })) e)
    sized (suc n) e = inr (λ k within. known_level p c s k (t s k) (table s k (record { state = state; direction = within })) (omega arith))

-- ---- it is supported
abbrev next_of : Problem → ℕ → Entry → ℕ
next_of p s e = successor p.game s (profile_of p.game s e)

-- the sum of weight times part i over the lottery of an entry
abbrev next_part : Problem → Correspondence → ℕ → Entry → ℕ → ℤ
next_part p c s e i = weighted_part (entries_of c (next_of p s e)) i e.lottery

abbrev weight_of : Entry → ℤ
weight_of e = pos (total_weight e.lottery)

-- E times the average of the lottery
abbrev supporting : Problem → Correspondence → ℕ → Entry → Fractions
supporting p c s e = record {
  numerators = map (λ i. unit p *ℤ next_part p c s e i) (range_with_len 0 p.game.players);
  denominator = common_denominator p c *ℤ weight_of e;
}

part-supporting : (p : Problem) (c : Correspondence) (s : ℕ) (e : Entry) (i : ℕ) → i < p.game.players
    → part (supporting p c s e).numerators i ≡ unit p *ℤ next_part p c s e i
part-supporting p c s e i player =
    get_or-map-range_with_len (λ j. unit p *ℤ next_part p c s e j) 0 p.game.players i i (pos 0) player (omega arith)

dot-supporting : (p : Problem) (c : Correspondence) (s : ℕ) (e : Entry) (v : List ℤ)
    → dot p.game.players v (supporting p c s e).numerators ≡ unit p *ℤ sum_below (λ i. part v i *ℤ next_part p c s e i) p.game.players
dot-supporting p c s e v =
    sum_below-same
    (λ i. part v i *ℤ part (supporting p c s e).numerators i)
    (λ i. unit p *ℤ (part v i *ℤ next_part p c s e i))
    p.game.players
    (λ i player.
    ap (λ z. part v i *ℤ z) (part-supporting p c s e i player)
    ∙ ring (part v i ∷ unit p ∷ next_part p c s e i ∷ []) (var 0 ⊗ (var 1 ⊗ var 2)) (var 1 ⊗ (var 0 ⊗ var 2)) refl)
    ∙ sum_below-times (unit p) (λ i. part v i *ℤ next_part p c s e i) p.game.players

has_outcome : (os : List (ℕ × ℕ)) → 0 < total_weight os → 0 < length os
has_outcome [] h = h
has_outcome (o ∷ os) h = omega arith

base_splits : (g : DynamicGame) (i : ℕ) → IsGame g → i < g.players → g.base ≡ slice_index g.discounts i * (g.base / slice_index g.discounts i)
base_splits g i ok player =
    let d : ℕ = slice_index g.discounts i in
    let positive : 0 < d = ok.discounts_positive i player in
    let divides = ok.base_least.multiple i (omega (arith, ok.discounts_listed)) in
    let e : g.base ≡ d * divides.0 = divides.1 in
    let f : g.base / d ≡ divides.0 = ap (λ n. n / d) e ∙ mul-div_cancel_left divides.0 positive in
    e ∙ ap (λ n. d * n) (sym f)

profile_known : (p : Problem) (c : Correspondence) (s : ℕ) (e : Entry) → IsGenerated p.game c s e → profile_of p.game s e < profile_count (counts p.game s)
profile_known p c s e made = profile_number_below (counts p.game s) e.profile made.profile

-- the average keeps each half-plane that the outcomes keep
half_planes_of : (p : Problem) (c : Correspondence) (s : ℕ) (e : Entry) (k : ℕ) (x : ℤ) → IsGenerated p.game c s e → IsLevelOf p c (next_of p s e) k (At x)
    → dot p.game.players (direction p k) (supporting p c s e).numerators ≤ℤ (x *ℤ (supporting p c s e).denominator)
half_planes_of p c s e k x made level =
    let d : ℤ = common_denominator p c in
    at_most_along
    (sym (dot-supporting p c s e (direction p k)))
    (ring (weight_of e ∷ x ∷ d ∷ []) (var 0 ⊗ (var 1 ⊗ var 2)) (var 1 ⊗ (var 2 ⊗ var 0)) refl)
    (weighted_dot_at_most (entries_of c (next_of p s e)) p.game.players (direction p k) (unit p) (x *ℤ d) e.lottery
    (λ j within. level.0 (outcome e.lottery j) (made.lottery j within)))

-- the punishment of a deviation is at least as bad as the level allows, so the deviation does not gain
incentives_of : (p : Problem) (c : Correspondence) (s : ℕ) (e : Entry) (i b : ℕ) (x : ℤ) → IsProblem p → IsGenerated p.game c s e
    → IsDeviation p.game s (profile_of p.game s e) i b → IsLevelOf p c (reached p.game s (profile_of p.game s e) i b) (minus_axis i) (At x)
    → ((gain p s (profile_of p.game s e) i b -ℤ x) *ℤ (supporting p c s e).denominator) ≤ℤ part (supporting p c s e).numerators i
incentives_of p c s e i b x ok made d level =
    let a : ℕ = profile_of p.game s e in
    let j : ℕ = punishment p.game s e i b in
    let punishing : List ℤ = (entry_at c (reached p.game s a i b) j).point in
    let worst : (unit p *ℤ neg_ℤ (part punishing i)) ≤ℤ (x *ℤ common_denominator p c) =
    at_most_along (ap (λ z. unit p *ℤ z) (dot-minus_axis p i punishing ok d.player)) refl (level.0 j (made.punishments i b d)) in
    let denominator : pos 1 ≤ℤ p.game.denominator = ok.game.denominator_positive in
    let r : ℤ = pos (p.game.base / discount_at p i) in
    at_most_along refl (sym (part-supporting p c s e i d.player))
    (incentive_follows (unit p) (pos (p.game.q - discount_at p i)) (pos (discount_at p i)) (pos c.scale) (weight_of e)
    (payoff_at p.game s a i) (payoff_at p.game s (deviation_at p.game s a i b) i) (next_part p c s e i) (part punishing i) (part e.point i)
    r (pos (fineness p)) p.game.denominator x (pos p.game.q)
    (ap (λ n. p.game.denominator *ℤ pos (n * fineness p)) (base_splits p.game i ok.game d.player))
    (omega (arith, ints))
    (product_at_least_zero (p.game.denominator *ℤ r) (pos (fineness p))
    (product_at_least_zero p.game.denominator r (omega (arith, ints)) (omega (arith, ints))) (omega (arith, ints)))
    (made.value i d.player) (made.incentive i b d) worst)

entry_is_admissible : (p : Problem) (c : Correspondence) (t : Levels) (s : ℕ) (e : Entry) → IsProblem p → IsSelfGenerating p.game c → IsTableFrom p c t → s < states p.game
    → IsGenerated p.game c s e → Admissible p t s (profile_of p.game s e) (supporting p c s e)
entry_is_admissible p c t s e ok self table state made =
    let a : ℕ = profile_of p.game s e in
    let known : a < profile_count (counts p.game s) = profile_known p c s e made in
    let next : next_of p s e < states p.game = next_state p.game s a ok.game state known in
    let next_level = λ (k : ℕ) (within : k < direction_count p). table (next_of p s e) k (record { state = next; direction = within }) in
    let reached_level = λ (i b k : ℕ) (d : IsDeviation p.game s a i b) (within : k < direction_count p).
    table (reached p.game s a i b) k (record { state = reached_state p.game s a i b ok.game state known d; direction = within }) in
    let weights : 0 < total_weight e.lottery = made.weights in
    record {
      positive = product_above_zero (common_denominator p c) (weight_of e) (common_denominator_positive p c ok self.scaled) (omega (arith, ints));
      next_known = λ k within. known_level p c (next_of p s e) k (t (next_of p s e) k) (next_level k within)
          (let h = made.lottery 0 (has_outcome e.lottery made.weights) in omega arith);
      reached_known = λ i b k d within. known_level p c (reached p.game s a i b) k (t (reached p.game s a i b) k) (reached_level i b k d within)
          (let h = made.punishments i b d in omega arith);
      half_planes = λ k x within is. half_planes_of p c s e k x made (subst (IsLevelOf p c (next_of p s e) k) is (next_level k within));
      incentives = λ i b x d is. incentives_of p c s e i b x ok made d
          (subst (IsLevelOf p c (reached p.game s a i b) (minus_axis i)) is (reached_level i b (minus_axis i) d (minus_axis_known p i ok d.player)));
    }

value_of_entry : (p : Problem) (c : Correspondence) (s : ℕ) (e : Entry) (k : ℕ) → IsGenerated p.game c s e
    → value p s (profile_of p.game s e) k (supporting p c s e) ≡ ((pos p.game.q *ℤ weight_of e) *ℤ unit p) *ℤ dot p.game.players (direction p k) e.point
value_of_entry p c s e k made =
    let a : ℕ = profile_of p.game s e in
    let y : Fractions = supporting p c s e in
    let times : ℤ = (pos p.game.q *ℤ weight_of e) *ℤ unit p in
    sum_below-same
    (λ i. part (direction p k) i *ℤ value_part p s a y i)
    (λ i. times *ℤ (part (direction p k) i *ℤ part e.point i))
    p.game.players
    (λ i player.
    ap (λ z. part (direction p k) i *ℤ ((pos ((p.game.q - discount_at p i) * p.game.base * fineness p) *ℤ payoff_at p.game s a i *ℤ y.denominator) +ℤ (pos (discount_at p i) *ℤ z)))
    (part-supporting p c s e i player)
    ∙ value_cleared (part (direction p k) i) (pos (p.game.q - discount_at p i)) (pos (discount_at p i)) (pos c.scale) (weight_of e)
    (payoff_at p.game s a i) (next_part p c s e i) (part e.point i) (pos p.game.base) (pos (fineness p)) p.game.denominator (pos p.game.q)
    (made.value i player))
    ∙ sum_below-times times (λ i. part (direction p k) i *ℤ part e.point i) p.game.players

entry_supports : (p : Problem) (c : Correspondence) (t : Levels) (s k : ℕ) (e : Entry) (x : ℤ) → IsProblem p → IsSelfGenerating p.game c → IsTableFrom p c t → s < states p.game
    → IsGenerated p.game c s e → (x *ℤ common_denominator p c) <ℤ (unit p *ℤ dot p.game.players (direction p k) e.point) → HasValueAbove p t s k x
entry_supports p c t s k e x ok self table state made above =
    let y : Fractions = supporting p c s e in
    let q : 0 < p.game.q = q_positive p.game ok.game in
    let weights : 0 < total_weight e.lottery = made.weights in
    record {
      profile = profile_of p.game s e;
      vector = y;
      known = profile_known p c s e made;
      admissible = entry_is_admissible p c t s e ok self table state made;
      above = below_along refl (sym (value_of_entry p c s e k made))
          (above_cleared x (common_denominator p c) (weight_of e) (pos p.game.q) (unit p) (dot p.game.players (direction p k) e.point)
          (product_above_zero (pos p.game.q) (weight_of e) (omega (arith, ints)) (omega (arith, ints))) above);
    }

pub table_is_supported : (p : Problem) (c : Correspondence) (t : Levels) → IsProblem p → IsSelfGenerating p.game c → IsTableFrom p c t → IsSupported p t 1
table_is_supported p c t ok self table =
    record {
      even = table_is_even p c t table;
      supports = λ s k x row is.
          let top : HasEntryAbove p c s k (x -ℤ pos 1) = (subst (IsLevelOf p c s k) is (table s k row)).1 in
          entry_supports p c t s k (entry_at c s top.entry) (x -ℤ pos 1) ok self table row.state (self.generated s top.entry row.state top.known) top.above;
    }

-- ---- what is greater than a level that bounds bounds
pub bounds_grow : (p : Problem) (s k : ℕ) (l m : Level) → IsProblem p → Bounds p s k l → AtMost l m → Bounds p s k m
bounds_grow p s k Empty Empty ok bound h = bound
bounds_grow p s k Empty (At z) ok bound h = λ c self j within. let none : length (entries_of c s) ≡ 0 = bound c self in absurd (omega arith)
bounds_grow p s k (At x) Empty ok bound h = absurd h
bounds_grow p s k (At x) (At z) ok bound h = λ c self j within.
    widen (common_denominator p c) (reach p c s k j) x z (common_denominator_positive p c ok self.scaled) h (bound c self j within)
