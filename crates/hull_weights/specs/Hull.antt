-- Hulls of points of the plane. A point is the list of its two parts.
use Rattle.std.specs.Prelude.{◌≡◌, ℕ, ◌^◌, ◌<◌, ◌≤◌, ℤ, pos, ◌+ℤ◌, ◌*ℤ◌, ◌≤ℤ◌, ◌<ℤ◌, unsigned_abs, List, [], ◌∷◌, length, slice_index_or, All, AllPairs}
use Rattle.std.specs.Int.{◌∣◌}

abbrev pub x_of : List ℤ → ℤ
x_of point = slice_index_or point 0 (pos 0)

abbrev pub y_of : List ℤ → ℤ
y_of point = slice_index_or point 1 (pos 0)

abbrev pub dot : List ℤ → List ℤ → ℤ
dot v w = x_of v *ℤ x_of w +ℤ y_of v *ℤ y_of w

abbrev pub point_at : List (List ℤ) → ℕ → List ℤ
point_at points index = slice_index_or points index []

-- both parts are at most 2^40 in absolute value
pub record IsSmallPoint (point : List ℤ) : Type 0 where
  pub x_small : unsigned_abs (x_of point) ≤ 2 ^ 40
  pub y_small : unsigned_abs (y_of point) ≤ 2 ^ 40

-- the sum over indices with their weights: each weight times what stands at the index
abbrev pub weighted : (ℕ → ℤ) → List (ℕ × ℤ) → ℤ
weighted value [] = pos 0
weighted value (item ∷ items) = item.1 *ℤ value item.0 +ℤ weighted value items

abbrev pub total_weight : List (ℕ × ℤ) → ℤ
total_weight items = weighted (λ _. pos 1) items

-- the target is the average of points with whole weights that aren't negative and add up to a positive number
pub record IsAverage (points : List (List ℤ)) (target : List ℤ) (items : List (ℕ × ℤ)) : Type 0 where
  pub indices_within : All (λ item. item.0 < length points) items
  pub not_negative : All (λ item. pos 0 ≤ℤ item.1) items
  pub total_positive : pos 0 <ℤ total_weight items
  pub average_x : weighted (λ index. x_of (point_at points index)) items ≡ total_weight items *ℤ x_of target
  pub average_y : weighted (λ index. y_of (point_at points index)) items ≡ total_weight items *ℤ y_of target

-- the hull of the points is the set of their averages
abbrev pub IsInHull : List (List ℤ) → List ℤ → Type 0
IsInHull points target = (items : List (ℕ × ℤ)) × IsAverage points target items

-- the product of the normal with the target is greater than with each point
abbrev pub Separates : List (List ℤ) → List ℤ → List ℤ → Type 0
Separates points target normal = (index : ℕ) → index < length points → dot normal (point_at points index) <ℤ dot normal target

-- both parts are at most 2^42 in absolute value
pub record IsSmallNormal (normal : List ℤ) : Type 0 where
  pub x_small : unsigned_abs (x_of normal) ≤ 2 ^ 42
  pub y_small : unsigned_abs (y_of normal) ≤ 2 ^ 42

-- an average in its shortest form: of at most three points, in order, with weights that have no common divisor
pub record IsTriangle (points : List (List ℤ)) (target : List ℤ) (items : List (ℕ × ℤ)) : Type 0 where
  pub average : IsAverage points target items
  pub at_most_three : length items ≤ 3
  pub ascending : AllPairs (λ earlier later. earlier.0 < later.0) items
  pub weights_positive : All (λ item. pos 0 <ℤ item.1) items
  pub weights_small : All (λ item. unsigned_abs item.1 ≤ 2 ^ 83) items
  pub no_common_divisor : (divisor : ℕ) → All (λ item. divisor ∣ unsigned_abs item.1) items → divisor ≡ 1
