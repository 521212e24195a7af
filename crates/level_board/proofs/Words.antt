-- Words have the order of their levels, and lists of words that of lists of levels.
use Rattle.std.proofs.Common.{◌≡◌, ℕ, zero, suc, ◌^◌, ◌<◌, min, List, [], ◌∷◌, ◌++◌, map, length, get_or, set, refl, sym, ap, ◌∙◌, arith}
use Rattle.std.proofs.lemmas.Int.{ints, clamps}
use Rattle.std.proofs.lemmas.List.{map-set, set-append_left, get_or_append_left}
use Rattle.level_table.specs.declared.level.Level.{Level}
use Rattle.level_table.specs.declared.level.Level.TheVariants.{Empty, At}
use Rattle.level_table.specs.Levels.{IsSmall, lesser}
use Rattle.level_table.specs.Tables.{kept_word}
use Rattle.level_board.specs.Board.{words_of}

pub same_words : (a b : Level) → IsSmall a → IsSmall b → kept_word a ≡ kept_word b → a ≡ b
same_words Empty Empty h k e = refl
same_words Empty (At y) h k e = absurd (omega (arith, ints))
same_words (At x) Empty h k e = absurd (omega (arith, ints))
same_words (At x) (At y) h k e = let same : x ≡ y = omega (arith, ints) in ap At same

pub lesser_words : (a b : Level) → IsSmall a → IsSmall b → min (kept_word a) (kept_word b) ≡ kept_word (lesser a b)
lesser_words Empty b h k = omega arith
lesser_words (At x) Empty h k = omega arith
lesser_words (At x) (At y) h k = omega (arith, ints, clamps)

pub word_fits : (a : Level) → IsSmall a → kept_word a < 2 ^ 64
word_fits Empty h = omega arith
word_fits (At x) h = omega (arith, ints)

pub get_or-map : {X Y : Type 0} (f : X → Y) (xs : List X) (i : ℕ) (d : X) (e : Y) → i < length xs → get_or (map f xs) i e ≡ f (get_or xs i d)
get_or-map f [] i d e h = absurd (omega arith)
get_or-map f (x ∷ xs) zero d e h = refl
get_or-map f (x ∷ xs) (suc i) d e h = get_or-map f xs i d e (omega arith)

pub length-map : {X Y : Type 0} (f : X → Y) (xs : List X) → length (map f xs) ≡ length xs
length-map f [] = refl
length-map f (x ∷ xs) = ap suc (length-map f xs)

-- the word of a row
pub word_of_row : (levels : List Level) (claim r : ℕ) → r < length levels → get_or (words_of levels claim) r 0 ≡ kept_word (get_or levels r Empty)
word_of_row levels claim r h =
    get_or_append_left (map kept_word levels) (claim ∷ []) 0 r (omega (arith, length-map kept_word levels)) ∙ get_or-map kept_word levels r Empty 0 h

-- a row's word after a write
pub words_set : (levels : List Level) (claim r : ℕ) (l : Level) → r < length levels → set (words_of levels claim) r (kept_word l) ≡ words_of (set levels r l) claim
words_set levels claim r l h =
    set-append_left (map kept_word levels) (claim ∷ []) r (kept_word l) (omega (arith, length-map kept_word levels)) ∙ ap (λ ws. ws ++ claim ∷ []) (sym (map-set kept_word levels r l))
