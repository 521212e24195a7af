-- Filters, maps and sums of lengths.
use Rattle.std.proofs.Common.{◌≡◌, ℕ, zero, suc, ◌+◌, ◌<◌, ◌≤◌, Bool, true, false, cond, List, [], ◌∷◌, length, map, get_or, refl, sym, ap, subst, ◌∙◌, arith}
use Rattle.std.specs.Prelude.{All, AllPairs, Contains, filter, sum_by}
use Rattle.std.proofs.lemmas.List.Sums.{sum_by-cons}
use Rattle.std.proofs.lemmas.List.{length-map, get_or-map, get_or_default}

module _ {X : Type 0} (p : X → Bool) where
  kept_here : (x y : X) (xs : List X) (b : Bool) → (b ≡ true → x ≡ y) → b ≡ true → Contains (cond b (x ∷ xs) xs) y
  kept_here x y xs true e t = (0, omega arith, e refl)
  kept_here x y xs false e t = absurd (apart t)
    where
      apart : false ≡ true → ⊥
      apart t = cc

  kept_later : (x y : X) (xs : List X) (b : Bool) → Contains xs y → Contains (cond b (x ∷ xs) xs) y
  kept_later x y xs true (k, below, is) = (suc k, omega arith, is)
  kept_later x y xs false there = there

  pub Contains-filter : (xs : List X) (y : X) → Contains xs y → p y ≡ true → Contains (filter p xs) y
  Contains-filter [] y (k, below, is) t = absurd (omega arith)
  Contains-filter (x ∷ xs) y (zero, below, is) t = kept_here x y (filter p xs) (p x) (λ _. is) (ap p is ∙ t)
  Contains-filter (x ∷ xs) y (suc k, below, is) t = kept_later x y (filter p xs) (p x) (Contains-filter xs y (k, omega arith, is) t)

  length_kept : (x : X) (xs : List X) (b : Bool) → length (cond b (x ∷ xs) xs) ≤ suc (length xs)
  length_kept x xs true = omega arith
  length_kept x xs false = omega arith

  pub length-filter_le : (xs : List X) → length (filter p xs) ≤ length xs
  length-filter_le [] = omega arith
  length-filter_le (x ∷ xs) = omega (arith, length_kept x (filter p xs) (p x), length-filter_le xs)

  whole_from : (x : X) (xs ys : List X) (b : Bool) → length ys ≤ length xs → length (cond b (x ∷ ys) ys) ≡ suc (length xs) → (length ys ≡ length xs → ys ≡ xs) → cond b (x ∷ ys) ys ≡ x ∷ xs
  whole_from x xs ys true few long rest = ap (λ zs. x ∷ zs) (rest (omega arith))
  whole_from x xs ys false few long rest = absurd (omega arith)

  -- a filter that keeps as many keeps all
  pub filter_whole : (xs : List X) → length (filter p xs) ≡ length xs → filter p xs ≡ xs
  filter_whole [] e = refl
  filter_whole (x ∷ xs) e = whole_from x xs (filter p xs) (p x) (length-filter_le xs) e (filter_whole xs)

module _ {X Y : Type 0} (f : X → Y) where
  pub Contains-map : (xs : List X) (x : X) → Contains xs x → Contains (map f xs) (f x)
  Contains-map xs x (k, below, is) = (k, omega (arith, length-map xs f), get_or-map f xs k x (f x) below ∙ ap f is)

  pub AllPairs-map : (R : Y → Y → Type 0) (xs : List X) → AllPairs (λ x y. R (f x) (f y)) xs → AllPairs R (map f xs)
  AllPairs-map R [] h i j d less below = absurd (omega arith)
  AllPairs-map R (x ∷ xs) h i j d less below =
      let inside : j < length (x ∷ xs) = omega (arith, length-map xs f) in
      let other : i < length (x ∷ xs) = omega arith in
      let e : get_or (map f (x ∷ xs)) i d ≡ f (get_or (x ∷ xs) i x) = get_or-map f (x ∷ xs) i x d other in
      let k : get_or (map f (x ∷ xs)) j d ≡ f (get_or (x ∷ xs) j x) = get_or-map f (x ∷ xs) j x d inside in
      subst (λ (y : Y). R y (get_or (map f (x ∷ xs)) j d)) (sym e) (subst (λ (y : Y). R (f (get_or (x ∷ xs) i x)) y) (sym k) (h i j x less inside))

pub All-at : {X : Type 0} (P : X → Type 0) (xs : List X) (d : X) → ((k : ℕ) → k < length xs → P (get_or xs k d)) → All P xs
All-at P xs d h k e below = subst P (get_or_default xs k d e below) (h k below)

-- ---- sums of lengths
module _ {X : Type 0} where
  sum_step : (x : List X) (xs : List (List X)) → sum_by length (x ∷ xs) ≡ length x + sum_by length xs
  sum_step x xs = sum_by-cons length x xs

  pub sum_at_most : (xs ys : List (List X)) → length xs ≡ length ys → ((s : ℕ) → s < length ys → length (get_or xs s []) ≤ length (get_or ys s [])) → sum_by length xs ≤ sum_by length ys
  sum_at_most [] [] e h = omega arith
  sum_at_most [] (y ∷ ys) e h = absurd (omega arith)
  sum_at_most (x ∷ xs) [] e h = absurd (omega arith)
  sum_at_most (x ∷ xs) (y ∷ ys) e h =
      let first : length x ≤ length y = h 0 (omega arith) in
      let rest : sum_by length xs ≤ sum_by length ys = sum_at_most xs ys (omega arith) (λ s k. h (suc s) (omega arith)) in
      omega (arith, first, rest, sum_step x xs, sum_step y ys)

  pub lengths_from_sum : (xs ys : List (List X)) → length xs ≡ length ys → ((s : ℕ) → s < length ys → length (get_or xs s []) ≤ length (get_or ys s [])) → sum_by length xs ≡ sum_by length ys
      → (s : ℕ) → s < length ys → length (get_or xs s []) ≡ length (get_or ys s [])
  lengths_from_sum [] [] e h sum s below = absurd (omega arith)
  lengths_from_sum [] (y ∷ ys) e h sum s below = absurd (omega arith)
  lengths_from_sum (x ∷ xs) [] e h sum s below = absurd (omega arith)
  lengths_from_sum (x ∷ xs) (y ∷ ys) e h sum zero below =
      let first : length x ≤ length y = h 0 (omega arith) in
      let rest : sum_by length xs ≤ sum_by length ys = sum_at_most xs ys (omega arith) (λ s k. h (suc s) (omega arith)) in
      omega (arith, first, rest, sum_step x xs, sum_step y ys)
  lengths_from_sum (x ∷ xs) (y ∷ ys) e h sum (suc s) below =
      let first : length x ≤ length y = h 0 (omega arith) in
      let rest : sum_by length xs ≤ sum_by length ys = sum_at_most xs ys (omega arith) (λ s k. h (suc s) (omega arith)) in
      lengths_from_sum xs ys (omega arith) (λ s k. h (suc s) (omega arith)) (omega (arith, first, rest, sum, sum_step x xs, sum_step y ys)) s (omega arith)
