-- Small games keep the limits of a game, and tables of small levels stay so where one level is put.
use Rattle.std.proofs.Common.{◌≡◌, ℕ, zero, suc, ◌^◌, ◌<◌, ◌≤◌, List, [], ◌∷◌, length, get_or, take, All, refl, sym, ◌∙◌, subst, arith, ⊎_elim, ℤ, pos, neg_ℤ, ◌≤ℤ◌, lit≤, lit<}
use Rattle.std.specs.Prelude.{replicate, slice_index, slice_index_or}
use Rattle.std.specs.Int.RustNames.{unsigned_abs}
use Rattle.std.proofs.lemmas.Bool.{cases_eq}
use Rattle.std.proofs.lemmas.Int.{ints}
use Rattle.game_model.specs.Parts.{KeepLimits}
use Rattle.game_model.proofs.Cases.{divides_one}
use Rattle.level_table.specs.declared.level.Level.{Level}
use Rattle.level_table.specs.declared.level.Level.TheVariants.{At}
use Rattle.level_table.specs.Problem.{Problem}
use Rattle.level_table.specs.Levels.{IsRow, IsSmall, Table, levels_in}
use Rattle.level_table.specs.Tables.{IsPut, IsSmallTable}
use Rattle.exact_algebra.proofs.Order.{within_abs}
use Rattle.operator_search.specs.SmallGames.{AreSmall, small_game}

-- each player's number of strategies
abbrev pub twos : ℕ → List ℕ
twos n = replicate n 2

two_at : (n i : ℕ) → i < length (twos n) → slice_index (twos n) i ≡ 2
two_at zero i below = absurd (omega arith)
two_at (suc n) zero below = refl
two_at (suc n) (suc i) below = two_at n i (omega (arith, below))

-- payoffs within 5 of zero
payoff_small : (us : List ℤ) → All (λ u. unsigned_abs u ≤ 5) us → (k : ℕ) → k < length us → unsigned_abs (get_or us k (pos 0)) ≤ 2 ^ 26
payoff_small us all k below = let h : unsigned_abs (get_or us k (pos 0)) ≤ 5 = all k (pos 0) below in omega (arith, h)

-- what the discount factors must be
record AreDiscounts (players q : ℕ) (ps : List ℕ) : Type 0 where
  listed : length ps ≡ players
  positive : (i : ℕ) → i < players → 0 < slice_index ps i
  below : (i : ℕ) → i < players → slice_index ps i < q
  first : slice_index ps 0 ≡ 1

two_discounts : (a q : ℕ) → 0 < a → a < q → AreDiscounts 2 q (1 ∷ a ∷ [])
two_discounts a q positive below = record { listed = refl; positive = λ i h. up i h; below = λ i h. under i h; first = refl }
  where
    up : (i : ℕ) → i < 2 → 0 < slice_index (1 ∷ a ∷ []) i
    up zero h = lit< tt
    up (suc zero) h = positive
    up (suc (suc i)) h = absurd (omega arith)

    under : (i : ℕ) → i < 2 → slice_index (1 ∷ a ∷ []) i < q
    under zero h = omega (arith, positive, below)
    under (suc zero) h = below
    under (suc (suc i)) h = absurd (omega arith)

three_discounts : (a b q : ℕ) → 0 < a → a < q → 0 < b → b < q → AreDiscounts 3 q (1 ∷ a ∷ b ∷ [])
three_discounts a b q a0 aq b0 bq = record { listed = refl; positive = λ i h. up i h; below = λ i h. under i h; first = refl }
  where
    up : (i : ℕ) → i < 3 → 0 < slice_index (1 ∷ a ∷ b ∷ []) i
    up zero h = lit< tt
    up (suc zero) h = a0
    up (suc (suc zero)) h = b0
    up (suc (suc (suc i))) h = absurd (omega arith)

    under : (i : ℕ) → i < 3 → slice_index (1 ∷ a ∷ b ∷ []) i < q
    under zero h = omega (arith, a0, aq)
    under (suc zero) h = aq
    under (suc (suc zero)) h = bq
    under (suc (suc (suc i))) h = absurd (omega arith)

discounts : (n a b q : ℕ) (us : List ℤ) → AreSmall n a b q us → AreDiscounts n q (take n (1 ∷ a ∷ b ∷ []))
discounts zero a b q us s = absurd (omega (arith, s.two_players))
discounts (suc zero) a b q us s = absurd (omega (arith, s.two_players))
discounts (suc (suc zero)) a b q us s = two_discounts a q s.second_positive s.second_below
discounts (suc (suc (suc zero))) a b q us s = three_discounts a b q s.second_positive s.second_below s.third_positive s.third_below
discounts (suc (suc (suc (suc n)))) a b q us s = absurd (omega (arith, s.three_players))

pub small_keeps : (n m a b q : ℕ) (us : List ℤ) → AreSmall n a b q us → KeepLimits (small_game n m a b q us)
small_keeps n m a b q us s = let ds : AreDiscounts n q (take n (1 ∷ a ∷ b ∷ [])) = discounts n a b q us s in record {
  two_players = s.two_players;
  three_players = s.three_players;
  some_state = lit≤ tt;
  few_states = lit≤ tt;
  payoffs_listed = refl;
  next_listed = refl;
  some_strategy = λ t i known below. some t i known below;
  few_strategies = λ t i known below. few t i known below;
  payoffs_small = λ t k known below. bounded t k known below;
  denominator_positive = omega (arith, ints);
  denominator_small = omega (arith, ints);
  discounts_listed = ds.listed;
  discounts_positive = ds.positive;
  discounts_below = ds.below;
  q_small = s.q_small;
  lowest = λ d of_q each. let e = each 0 (omega (arith, s.two_players)) in divides_one d e.0 (sym ds.first ∙ e.1);
}
  where
    some : (t i : ℕ) → t < 1 → i < length (slice_index_or (twos n ∷ []) t []) → 1 ≤ slice_index (slice_index_or (twos n ∷ []) t []) i
    some zero i known below = let e = two_at n i below in omega (arith, e)
    some (suc t) i known below = absurd (omega arith)

    few : (t i : ℕ) → t < 1 → i < length (slice_index_or (twos n ∷ []) t []) → slice_index (slice_index_or (twos n ∷ []) t []) i ≤ 16
    few zero i known below = let e = two_at n i below in omega (arith, e)
    few (suc t) i known below = absurd (omega arith)

    bounded : (t k : ℕ) → t < 1 → k < length (slice_index_or (us ∷ []) t []) → (neg_ℤ (pos (2 ^ 26)) ≤ℤ slice_index_or (slice_index_or (us ∷ []) t []) k (pos 0)) × (slice_index_or (slice_index_or (us ∷ []) t []) k (pos 0) ≤ℤ pos (2 ^ 26))
    bounded zero k known below = within_abs (get_or us k (pos 0)) (2 ^ 26) (payoff_small us s.payoffs_small k below)
    bounded (suc t) k known below = absurd (omega arith)

-- ---- tables
pub put_is_small : (p : Problem) (t v : Table) (s k : ℕ) (l : Level) → IsSmallTable p t → IsPut t v s k l → IsSmall l → IsSmallTable p v
put_is_small p t v s k l small put here = record {
  whole = put.whole;
  sizes = record { states_agree = put.states ∙ small.sizes.states_agree; directions_agree = put.directions ∙ small.sizes.directions_agree };
  small = λ s' k' row. by_place s' k' row;
}
  where
    elsewhere : (s' k' : ℕ) → IsRow p s' k' → (s' ≡ s → k' ≡ k → ⊥) → IsSmall (levels_in v s' k')
    elsewhere s' k' row ne = subst IsSmall (sym (put.others s' k' (omega (arith, row.direction, small.sizes.directions_agree)) ne)) (small.small s' k' row)

    by_place : (s' k' : ℕ) → IsRow p s' k' → IsSmall (levels_in v s' k')
    by_place s' k' row =
        ⊎_elim
        (λ (e : s' ≡ s). ⊎_elim
        (λ (f : k' ≡ k). subst (λ (i : ℕ). IsSmall (levels_in v i k')) (sym e) (subst (λ (j : ℕ). IsSmall (levels_in v s j)) (sym f) (subst IsSmall (sym put.here) here)))
        (λ (ne : k' ≡ k → ⊥). elsewhere s' k' row (λ e' f'. ne f'))
        (cases_eq k' k))
        (λ (ne : s' ≡ s → ⊥). elsewhere s' k' row (λ e' f'. ne e'))
        (cases_eq s' s)

-- a level within 60 of zero
pub level_is_small : (x : ℤ) → unsigned_abs x ≤ 60 → IsSmall (At x)
level_is_small x h = let b = within_abs x 60 h in (omega (arith, ints, b.0), omega (arith, ints, b.1))
