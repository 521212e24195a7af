-- The words of an item that is written.
use Rattle.std.proofs.Common.{◌≡◌, ℕ, Bool, true, false, if◌then◌else◌, List, [], ◌∷◌, get_or, refl, ap, ◌∙◌, arith, ℤ, pos, ◌≤ℤ◌}
use Rattle.std.specs.Prelude.{codes, decimal}
use Rattle.std.specs.Fmt.{signed_decimal}
use Rattle.std.specs.Ordering.{int_eq}
use Rattle.std.proofs.lemmas.Bool.Decides.{Decides-int_eq}
use Rattle.std.proofs.lemmas.Int.{ints}
use Rattle.level_table.specs.declared.reason.Item.TheVariants.{Level, Gain}
use Rattle.report_text.specs.ReportText.{item_words}

times_not_zero : (times : ℤ) → pos 1 ≤ℤ times → int_eq times (pos 0) ≡ false
times_not_zero times h =
    let by : (b : Bool) → int_eq times (pos 0) ≡ b → int_eq times (pos 0) ≡ false =
    λ b. elim b as (λ b. int_eq times (pos 0) ≡ b → int_eq times (pos 0) ≡ false) [
      | true ↦ λ e. let z : times ≡ pos 0 = (Decides-int_eq times (pos 0)).0 e in absurd (omega (arith, ints))
      | false ↦ λ e. e
    ] in
    by (int_eq times (pos 0)) refl

pub level_words : (k : ℕ) (x times : ℤ) → pos 1 ≤ℤ times → item_words (Level k x times) ≡ codes "level" ∷ decimal k ∷ signed_decimal x ∷ signed_decimal times ∷ []
level_words k x times h = ap (λ (b : Bool). if b then [] else (codes "level" ∷ decimal k ∷ signed_decimal x ∷ signed_decimal times ∷ [])) (times_not_zero times h)

pub gain_words : (i b : ℕ) (x times : ℤ) → pos 1 ≤ℤ times → item_words (Gain i b x times) ≡ codes "gain" ∷ decimal i ∷ decimal b ∷ signed_decimal x ∷ signed_decimal times ∷ []
gain_words i b x times h = ap (λ (t : Bool). if t then [] else (codes "gain" ∷ decimal i ∷ decimal b ∷ signed_decimal x ∷ signed_decimal times ∷ [])) (times_not_zero times h)

pub level_same : (a k : ℕ) (b x c times : ℤ) → a ≡ k → b ≡ x → c ≡ times → Level a b c ≡ Level k x times
level_same a k b x c times e f g = ap (λ (n : ℕ). Level n b c) e ∙ ap (λ (z : ℤ). Level k z c) f ∙ ap (λ (z : ℤ). Level k x z) g

pub gain_same : (a i h b : ℕ) (d x c times : ℤ) → a ≡ i → h ≡ b → d ≡ x → c ≡ times → Gain a h d c ≡ Gain i b x times
gain_same a i h b d x c times e j f g = ap (λ (n : ℕ). Gain n h d c) e ∙ ap (λ (n : ℕ). Gain i n d c) j ∙ ap (λ (z : ℤ). Gain i b z c) f ∙ ap (λ (z : ℤ). Gain i b x z) g

-- names that differ in their first bytes
pub firsts : (a b : ℕ) (v w : List ℕ) → a ∷ v ≡ b ∷ w → a ≡ b
firsts a b v w e = ap (λ (bs : List ℕ). get_or bs 0 0) e

pub gain_no_level : codes "gain" ≡ codes "level" → ⊥
gain_no_level w = let f = firsts 103 108 (codes "ain") (codes "evel") w in omega (arith, f)

pub farkas_no_deviation : codes "farkas" ≡ codes "deviation" → ⊥
farkas_no_deviation w = let f = firsts 102 100 (codes "arkas") (codes "eviation") w in omega (arith, f)

pub farkas_no_successor : codes "farkas" ≡ codes "successor" → ⊥
farkas_no_successor w = let f = firsts 102 115 (codes "arkas") (codes "uccessor") w in omega (arith, f)

pub deviation_no_successor : codes "deviation" ≡ codes "successor" → ⊥
deviation_no_successor w = let f = firsts 100 115 (codes "eviation") (codes "uccessor") w in omega (arith, f)
