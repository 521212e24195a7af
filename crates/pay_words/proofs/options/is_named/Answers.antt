use Rattle.std.proofs.Common.{◌≡◌, ◌≢◌, ◌<◌, length, refl, sym, subst, ◌∙◌, arith, ap}
use Rattle.std.specs.Prelude.{All}
use Rattle.std.proofs.lemmas.Bool.Decides.{Decides-eqb, not_from_Decides}
use Rattle.std.proofs.lemmas.Slice.Eq.{slice_eq-Decides}
use Rattle.pay_words.specs.Command.{words_in}
use Rattle.pay_words.specs.Options.{name_in}
use Rattle.pay_words.proofs.OptionLemmas.{more_not_named}
use Rattle.pay_words.proofs.Strings.{all_words, length-words_in, word_at, words_more}
use Rattle.pay_words.proofs.options.is_named.Goals as goal

pub returns-then-eq : goal.returns-then-eq
returns-then-eq c =
    let words = c.args.words.now in
    let i = c.loop-word.word-index in
    let word = c.deref.result.now in
    let same : c.name_in.result.now ≡ c.args.name.now = (slice_eq-Decides Decides-eqb _ _ _ c.eq.ensures).0 c.if-eq.true in
    let there : i < length (words_in words) = omega (arith, c.loop-word-test.true, length-words_in words) in
    let at = word_at words i c.word-item.result word word c.loop-word-test.true c.word-item.is c.deref.ensures in
    (λ _. (i, word, there, at, sym c.name_in.ensures ∙ same), λ _. refl)

pub loop-word-preserved : goal.loop-word-preserved
loop-word-preserved c =
    let words = c.args.words.now in
    let i = c.loop-word.word-index in
    let word = c.deref.result.now in
    let new : name_in word ≢ c.args.name.now = λ e. not_from_Decides c.eq.result (slice_eq-Decides Decides-eqb _ _ _ c.eq.ensures) c.if-eq.false (c.name_in.ensures ∙ e) in
    subst (λ xs. All (λ w. name_in w ≢ c.args.name.now) xs)
    (sym (words_more words i c.word-item.result word c.loop-word-test.true c.word-item.is c.deref.ensures))
    (more_not_named _ word c.args.name.now c.loop-word.invariant new)

pub returns : goal.returns
returns c =
    let words = c.args.words.now in
    let i = c.loop-word.word-index in
    let none : All (λ w. name_in w ≢ c.args.name.now) (words_in words) =
    subst (λ xs. All (λ w. name_in w ≢ c.args.name.now) xs) (all_words words i (omega arith)) c.loop-word.invariant in
    (λ t. absurd (cc), λ a. absurd (none a.0 a.1 a.2 (ap name_in a.3 ∙ a.4)))
