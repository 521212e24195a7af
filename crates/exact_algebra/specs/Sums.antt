-- Sums over lists, and vectors as lists.
use Rattle.std.specs.Prelude.{ℤ, pos, ◌+ℤ◌, ◌*ℤ◌, List, [], ◌∷◌}

-- the sum of f over the items
abbrev pub total_by : {A : Type 0} → (A → ℤ) → List A → ℤ
total_by f [] = pos 0
total_by f (x ∷ xs) = f x +ℤ total_by f xs

-- the sum of the products of the parts; a missing part counts as 0
abbrev pub dot : List ℤ → List ℤ → ℤ
dot [] ys = pos 0
dot (x ∷ xs) [] = pos 0
dot (x ∷ xs) (y ∷ ys) = x *ℤ y +ℤ dot xs ys

-- the sum of two vectors, as long as the longer one
abbrev pub plus : List ℤ → List ℤ → List ℤ
plus [] ys = ys
plus (x ∷ xs) [] = x ∷ xs
plus (x ∷ xs) (y ∷ ys) = (x +ℤ y) ∷ plus xs ys

abbrev pub times : ℤ → List ℤ → List ℤ
times k [] = []
times k (x ∷ xs) = (k *ℤ x) ∷ times k xs

-- the sum of the vectors of the items, each multiplied by the item's weight
abbrev pub combined : {A : Type 0} → (A → ℤ) → (A → List ℤ) → List A → List ℤ
combined w v [] = []
combined w v (x ∷ xs) = plus (times (w x) (v x)) (combined w v xs)
