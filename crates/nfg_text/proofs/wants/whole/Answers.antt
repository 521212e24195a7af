use Rattle.std.proofs.Common.{◌≡◌, ℕ, ◌≤◌, ◌^◌, List, length, min, Option, Some, None, refl, sym, ap, ◌∙◌}
use Rattle.std.specs.Option.{option_map}
use Rattle.std.proofs.lemmas.Option.{same_Some, none-some}
use Rattle.pay_frac.specs.Number.{whole_of}
use Rattle.nfg_text.specs.Wanted.{whole_word, word_in}
use Rattle.token_text.specs.Lexer.{kind_of}
use Rattle.nfg_text.proofs.wants.whole.Goals as goal

uncapped : (w : List ℕ) (v : ℕ) (k : Option (List ℕ)) (o : Option ℕ) → k ≡ Some w → whole_of w ≡ o → Some v ≡ option_map (λ n. min n (10 ^ 36)) o → (length w ≤ 36 → Some v ≡ o)
    → (n : ℕ) × (whole_word k ≡ Some (n, length w)) × (v ≡ min n (10 ^ 36)) × (length w ≤ 36 → v ≡ n)
uncapped w v k None h is e f = absurd (none-some v (sym e))
uncapped w v k (Some n) h is e f =
    (n, ap whole_word h ∙ ap (option_map (λ (n : ℕ). (n, length w))) is, same_Some v (min n (10 ^ 36)) e, λ l. same_Some v n (f l))

pub returns : goal.returns
returns c = uncapped c.in-Word.word.now c.in_ok-value.value (word_in (kind_of c.args.token.now.kind)) (whole_of c.in-Word.word.now) (ap (λ k. word_in (kind_of k)) c.in-Word.is) refl c.in_ok-value.ensures.capped c.in_ok-value.ensures.few
