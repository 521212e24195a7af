-- The bytes of words.
use Rattle.std.proofs.Common.{◌≡◌, ℕ, ◌+◌, ◌-◌, ◌<◌, ◌++◌, List, [], ◌∷◌, length, get_or, take, drop, refl, sym, ap, ◌∙◌, arith}
use Rattle.std.specs.Prelude.{String, string_bytes}
use Rattle.std.specs.declared.alloc.Global.{Global}
use Rattle.std.proofs.Math.Seq.{take-length}
use Rattle.std.proofs.lemmas.List.{drop-map, get_or-map, length-map, map-append, take-map, take_more, take_rest}
use Rattle.pay_words.specs.Command.{words_in}

pub length-words_in : (words : List (String Global)) → length (words_in words) ≡ length words
length-words_in words = length-map words string_bytes

pub take-words_in : (words : List (String Global)) (n : ℕ) → take n (words_in words) ≡ words_in (take n words)
take-words_in words n = take-map string_bytes n words

pub all_words : (words : List (String Global)) (n : ℕ) → n ≡ length words → words_in (take n words) ≡ words_in words
all_words words n e = ap words_in (ap (λ k. take k words) e ∙ take-length words)

-- the bytes b of word i, which is s
pub word_at : (words : List (String Global)) (i : ℕ) (s : String Global) (b d : List ℕ) → i < length words → s ≡ get_or words i s → b ≡ string_bytes s → get_or (words_in words) i d ≡ b
word_at words i s b d l e f = get_or-map string_bytes words i s d l ∙ ap string_bytes (sym e) ∙ sym f

pub words_more : (words : List (String Global)) (i : ℕ) (s : String Global) (b : List ℕ) → i < length words → s ≡ get_or words i s → b ≡ string_bytes s
    → words_in (take (i + 1) words) ≡ words_in (take i words) ++ b ∷ []
words_more words i s b l e f =
    ap words_in (take_more words i s l)
    ∙ map-append string_bytes (take i words) (get_or words i s ∷ [])
    ∙ ap (λ x. words_in (take i words) ++ x ∷ []) (ap string_bytes (sym e) ∙ sym f)

-- the first word and the others
pub first_word : (words : List (String Global)) (s : String Global) (b : List ℕ) → 0 < length words → s ≡ get_or words 0 s → b ≡ string_bytes s → words_in words ≡ b ∷ words_in (drop 1 words)
first_word [] s b l e f = absurd (omega arith)
first_word (x ∷ xs) s b l e f = ap (λ y. y ∷ words_in xs) (ap string_bytes (sym e) ∙ sym f)

-- all words from one on, as a slice
pub rest_of : (words : List (String Global)) (n : ℕ) → words_in (take (length words - n) (drop n words)) ≡ drop n (words_in words)
rest_of words n = ap words_in (take_rest words n) ∙ sym (drop-map string_bytes n words)

pub no_words_in : (words : List (String Global)) → length words ≡ 0 → words_in words ≡ []
no_words_in [] l = refl
no_words_in (x ∷ xs) l = absurd (omega arith)
