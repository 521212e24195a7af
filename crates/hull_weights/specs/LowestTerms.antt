-- Weights in lowest terms.
use Rattle.std.specs.Prelude.{◌≡◌, ℕ, ◌<◌, ◌≤◌, ◌^◌, ℤ, pos, ◌+ℤ◌, ◌*ℤ◌, ◌<ℤ◌, unsigned_abs, zero, suc, List, [], ◌∷◌, length, All, AllPairs}
use Rattle.std.specs.Int.{◌∣◌}
use Rattle.hull_weights.specs.Hull.{weighted}

-- an index with its weight, if that isn't 0
abbrev pub item_of : ℕ → ℕ → List (ℕ × ℤ)
item_of index zero = []
item_of index (suc n) = (index, pos (suc n)) ∷ []

-- the items have the same averages as the three indices with their weights
pub record IsLowestTerms (low high last : ℕ × ℕ) (items : List (ℕ × ℤ)) : Type 0 where
  pub factor : ℕ
  pub factor_positive : 0 < factor
  pub proportional : (value : ℕ → ℤ) → pos factor *ℤ weighted value items ≡ pos low.1 *ℤ value low.0 +ℤ pos high.1 *ℤ value high.0 +ℤ pos last.1 *ℤ value last.0
  pub at_most_three : length items ≤ 3
  pub none_later : All (λ item. item.0 ≤ last.0) items
  pub ascending : AllPairs (λ earlier later. earlier.0 < later.0) items
  pub weights_positive : All (λ item. pos 0 <ℤ item.1) items
  pub weights_small : All (λ item. unsigned_abs item.1 ≤ 2 ^ 83) items
  pub no_common_divisor : (divisor : ℕ) → All (λ item. divisor ∣ unsigned_abs item.1) items → divisor ≡ 1
