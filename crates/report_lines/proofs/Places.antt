-- The place of the first line that has no form, a line at a time.
use Rattle.std.proofs.Common.{◌≡◌, ℕ, ◌+◌, ◌<◌, ◌==◌, Bool, true, false, if◌then◌else◌, List, [], ◌∷◌, length, take, drop, refl, ap, ◌∙◌, arith}
use Rattle.std.specs.List.{position_or_len}
use Rattle.std.proofs.lemmas.List.{length-take-le}
use Rattle.report_lines.specs.Forms.{has_form, lines_of, place_from}
use Rattle.report_lines.proofs.Pieces.{split_none, split_first, split_some}

place_cons : (at : ℕ) (line : List ℕ) (lines : List (List ℕ)) → (lines ≡ [] → ⊥) → place_from at (line ∷ lines) ≡ (if has_form line then place_from (at + length line + 1) lines else at)
place_cons at line [] h = absurd (h refl)
place_cons at line (next ∷ lines) h = refl

taken : (n : ℕ) (xs : List ℕ) → n < length xs → length (take n xs) ≡ n
taken n xs l = length-take-le n xs (omega arith)

at_first : (at n : ℕ) (xs : List ℕ) → n ≡ position_or_len (λ b. b == 10) xs → n < length xs
    → place_from at (lines_of xs) ≡ (if has_form (take n xs) then place_from (at + length (take n xs) + 1) (lines_of (drop (n + 1) xs)) else at)
at_first at n xs e l =
    ap (place_from at) (split_first (λ b. b == 10) xs n e (omega arith) (omega arith))
    ∙ place_cons at (take n xs) (lines_of (drop (n + 1) xs)) (split_some (λ b. b == 10) (drop (n + 1) xs))

pub place_step : (at n : ℕ) (xs : List ℕ) → n ≡ position_or_len (λ b. b == 10) xs → n < length xs → has_form (take n xs) ≡ true
    → place_from at (lines_of xs) ≡ place_from (at + (n + 1)) (lines_of (drop (n + 1) xs))
place_step at n xs e l h =
    let further : at + length (take n xs) + 1 ≡ at + (n + 1) = omega (arith, taken n xs l) in
    at_first at n xs e l
    ∙ ap (λ (b : Bool). if b then place_from (at + length (take n xs) + 1) (lines_of (drop (n + 1) xs)) else at) h
    ∙ ap (λ (m : ℕ). place_from m (lines_of (drop (n + 1) xs))) further

pub place_stop : (at n : ℕ) (xs : List ℕ) → n ≡ position_or_len (λ b. b == 10) xs → n < length xs → has_form (take n xs) ≡ false → place_from at (lines_of xs) ≡ at
place_stop at n xs e l h =
    at_first at n xs e l ∙ ap (λ (b : Bool). if b then place_from (at + length (take n xs) + 1) (lines_of (drop (n + 1) xs)) else at) h

pub place_end : (at n : ℕ) (xs : List ℕ) → n ≡ position_or_len (λ b. b == 10) xs → n ≡ length xs → place_from at (lines_of xs) ≡ at
place_end at n xs e l = ap (place_from at) (split_none (λ b. b == 10) xs n e l)
