-- Rows that are read one after another.
use Rattle.std.proofs.Common.{◌≡◌, ℕ, suc, ◌+◌, ◌/◌, ◌%◌, ◌<◌, List, [], ◌∷◌, ◌++◌, length, get_or, set, take, drop, sym, ap, ◌∙◌, arith}
use Rattle.std.specs.Prelude.{codes, decimal}
use Rattle.std.proofs.Math.Seq.{drop-cons, take-suc-set}
use Rattle.std.proofs.lemmas.List.{take_more}
use Rattle.level_table.specs.declared.level.Level.{Level}
use Rattle.level_table.specs.declared.level.Level.TheVariants.{Empty}
use Rattle.report_text.specs.ReportText.{level_word}
use Rattle.report_text.specs.Reading.{levels_words}

-- the words of the rows from this one on begin with its line
pub levels_next : (k row : ℕ) (ls : List Level) (words rest : List (List ℕ)) → row < length ls → words ≡ levels_words k row (drop row ls) ++ rest
    → words ≡ codes "row" ∷ decimal (row / k) ∷ decimal (row % k) ∷ level_word (get_or ls row Empty) ∷ (levels_words k (row + 1) (drop (row + 1) ls) ++ rest)
levels_next k row ls words rest l e =
    let next : suc row ≡ row + 1 = omega arith in
    e
    ∙ ap (λ (xs : List Level). levels_words k row xs ++ rest) (drop-cons ls row Empty l)
    ∙ ap (λ (n : ℕ). codes "row" ∷ decimal (row / k) ∷ decimal (row % k) ∷ level_word (get_or ls row Empty) ∷ (levels_words k (row + 1) (drop n ls) ++ rest)) next

-- a level that is put in its row
pub levels_more : (row : ℕ) (ls old : List Level) (level : Level) → row < length ls → length old ≡ length ls → take row old ≡ take row ls → level ≡ get_or ls row Empty
    → take (row + 1) (set old row level) ≡ take (row + 1) ls
levels_more row ls old level l n e f =
    let next : row + 1 ≡ suc row = omega arith in
    let l' : row < length old = omega arith in
    ap (λ (m : ℕ). take m (set old row level)) next
    ∙ take-suc-set old row level l'
    ∙ ap (λ (xs : List Level). xs ++ level ∷ []) e
    ∙ ap (λ (x : Level). take row ls ++ x ∷ []) f
    ∙ sym (take_more ls row Empty l)
