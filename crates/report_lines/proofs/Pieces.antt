-- The first piece of bytes that are cut at some of them.
use Rattle.std.proofs.Common.{◌≡◌, ◌≢◌, ℕ, ◌+◌, ◌<◌, ◌≤◌, Bool, List, [], ◌∷◌, length, take, drop, sym, ap, ◌∙◌, arith}
use Rattle.std.specs.List.{slice_split, position_or_len}
use Rattle.std.specs.Prelude.{count_by}
use Rattle.std.proofs.lemmas.List.Splits.{slice_split_none, slice_split_first, length-slice_split}
use Rattle.std.proofs.lemmas.List.Sums.{fails_before_first}

-- nothing is cut
pub split_none : (p : ℕ → Bool) (xs : List ℕ) (n : ℕ) → n ≡ position_or_len p xs → n ≡ length xs → slice_split p xs ≡ xs ∷ []
split_none p xs n e f = slice_split_none p xs (λ k d l. let k_first : k < position_or_len p xs = omega arith in fails_before_first p xs k d k_first)

-- the first piece, and the rest behind it
pub split_first : (p : ℕ → Bool) (xs : List ℕ) (n : ℕ) → n ≡ position_or_len p xs → n ≤ length xs → n ≢ length xs → slice_split p xs ≡ take n xs ∷ slice_split p (drop (n + 1) xs)
split_first p xs n e l ne =
    let below : position_or_len p xs < length xs = omega arith in
    slice_split_first p xs 0 below
    ∙ ap (λ (m : ℕ). take m xs ∷ slice_split p (drop (m + 1) xs)) (sym e)

-- a list of pieces is never empty
pub split_some : (p : ℕ → Bool) (xs : List ℕ) → slice_split p xs ≡ [] → ⊥
split_some p xs e =
    let n : length (slice_split p xs) ≡ count_by p xs + 1 = length-slice_split p xs in
    let z : length (slice_split p xs) ≡ 0 = ap length e in
    omega arith

pub split_length : (p : ℕ → Bool) (xs : List ℕ) → length (slice_split p xs) ≡ count_by p xs + 1
split_length p xs = length-slice_split p xs
