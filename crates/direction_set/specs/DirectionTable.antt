-- The directions in which payoff sets are bounded: vectors of three whole numbers, of which games of two players use the first two.
-- Each direction of even number is listed here, and the next odd one is its negative.
use Rattle.std.specs.Prelude.{◌≡◌, ℕ, ◌+◌, ◌-◌, ◌*◌, ◌%◌, ◌<◌, ◌≤◌, ◌==◌, ℤ, pos, neg_ℤ, unsigned_abs, List, [], ◌∷◌, length, map, take, slice_index_or, slice_set, IsTrue, if◌then◌else◌}
use Rattle.std.specs.List.{list_any}
use Rattle.std.proofs.Common.{arith}

-- a number of players, and the vector of each direction
pub record DirectionTable : Type 0 where
  pub players : ℕ
  pub vectors : List (List ℤ)

abbrev pub zero_vector : List ℤ
zero_vector = pos 0 ∷ pos 0 ∷ pos 0 ∷ []

-- the vector of plus axis i
abbrev pub unit_vector : ℕ → List ℤ
unit_vector i = slice_set zero_vector i (pos 1)

abbrev pub negative : List ℤ → List ℤ
negative vector = map neg_ℤ vector

-- the vector of direction k
abbrev pub vector_at : List (List ℤ) → ℕ → List ℤ
vector_at vectors k = slice_index_or vectors k zero_vector

-- part i of the vector of direction k
abbrev pub part_at : List (List ℤ) → ℕ → ℕ → ℤ
part_at vectors k i = slice_index_or (vector_at vectors k) i (pos 0)

-- k with its last bit changed
abbrev pub opposite_of : ℕ → ℕ
opposite_of k = k + 1 - 2 * (k % 2)

-- What holds of each table: the axes come first, plus before minus, and directions whose numbers differ in the last bit alone are opposite.
pub record IsDirectionTable (players : ℕ) (vectors : List (List ℤ)) : Type 0 where
  pub at_least_two_players : 2 ≤ players
  pub at_most_three_players : players ≤ 3
  pub count_small : length vectors ≤ 32
  pub has_axes : 2 * players ≤ length vectors
  pub plus_axis : (i : ℕ) → i < players → vector_at vectors (2 * i) ≡ unit_vector i
  pub minus_axis : (i : ℕ) → i < players → vector_at vectors (2 * i + 1) ≡ negative (unit_vector i)
  pub opposite_within : (k : ℕ) → k < length vectors → opposite_of k < length vectors
  pub opposite_is_negative : (k : ℕ) → k < length vectors → vector_at vectors (opposite_of k) ≡ negative (vector_at vectors k)
  pub width : (k : ℕ) → length (vector_at vectors k) ≡ 3
  pub unused_is_zero : (k i : ℕ) → players ≤ i → part_at vectors k i ≡ pos 0
  pub part_small : (k i : ℕ) → unsigned_abs (part_at vectors k i) ≤ 3
  pub part_of_three_small : players ≡ 3 → (k i : ℕ) → unsigned_abs (part_at vectors k i) ≤ 1

abbrev minus : ℕ → ℤ
minus n = neg_ℤ (pos n)

abbrev plane : ℤ → ℤ → List ℤ
plane x y = x ∷ y ∷ pos 0 ∷ []

abbrev space : ℤ → ℤ → ℤ → List ℤ
space x y z = x ∷ y ∷ z ∷ []

-- the directions of even number of two players
unfoldable pub listed_for_two : List (List ℤ)
listed_for_two =
    plane (pos 1) (pos 0) ∷ plane (pos 0) (pos 1) ∷ plane (pos 1) (pos 1) ∷ plane (pos 1) (minus 1) ∷
    plane (pos 2) (pos 1) ∷ plane (pos 1) (pos 2) ∷ plane (pos 2) (minus 1) ∷ plane (pos 1) (minus 2) ∷
    plane (pos 3) (pos 1) ∷ plane (pos 1) (pos 3) ∷ plane (pos 3) (minus 1) ∷ plane (pos 1) (minus 3) ∷
    plane (pos 3) (pos 2) ∷ plane (pos 2) (pos 3) ∷ plane (pos 3) (minus 2) ∷ plane (pos 2) (minus 3) ∷ []

-- the directions of even number of three players
unfoldable pub listed_for_three : List (List ℤ)
listed_for_three =
    space (pos 1) (pos 0) (pos 0) ∷ space (pos 0) (pos 1) (pos 0) ∷ space (pos 0) (pos 0) (pos 1) ∷
    space (pos 1) (pos 1) (pos 1) ∷ space (pos 1) (pos 1) (minus 1) ∷
    space (pos 1) (minus 1) (pos 1) ∷ space (pos 1) (minus 1) (minus 1) ∷
    space (pos 1) (pos 1) (pos 0) ∷ space (pos 1) (minus 1) (pos 0) ∷
    space (pos 1) (pos 0) (pos 1) ∷ space (pos 1) (pos 0) (minus 1) ∷
    space (pos 0) (pos 1) (pos 1) ∷ space (pos 0) (pos 1) (minus 1) ∷ []

-- each vector, followed by its negative
abbrev pub with_negatives : List (List ℤ) → List (List ℤ)
with_negatives [] = []
with_negatives (v ∷ vs) = v ∷ negative v ∷ with_negatives vs

-- the longest table
unfoldable pub all_vectors : ℕ → List (List ℤ)
all_vectors players = with_negatives (if players == 2 then listed_for_two else listed_for_three)

-- the numbers of directions for which there is a table
abbrev pub table_sizes : ℕ → List ℕ
table_sizes players =
    if players == 2 then 4 ∷ 8 ∷ 16 ∷ 32 ∷ [] else (if players == 3 then 6 ∷ 14 ∷ 26 ∷ [] else [])

abbrev pub HasTable : ℕ → ℕ → Type 0
HasTable players count = IsTrue (list_any (λ size. size == count) (table_sizes players))

-- the table of so many directions: the first of the longest table
abbrev pub direction_vectors : ℕ → ℕ → List (List ℤ)
direction_vectors players count = take count (all_vectors players)

pub length-direction_vectors : (players count : ℕ) → HasTable players count → length (direction_vectors players count) ≡ count
unfolding all_vectors listed_for_two listed_for_three
length-direction_vectors players count known = grind arith
