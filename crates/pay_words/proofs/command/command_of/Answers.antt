use Rattle.std.proofs.Common.{◌≡◌, length, drop, sym, subst, ◌∙◌, arith}
use Rattle.std.proofs.lemmas.Bool.{eqb-true, eqb-false}
use Rattle.pay_words.specs.Command.{IsMisfit, words_in}
use Rattle.pay_words.proofs.CommandLemmas.{answered, no_verb, no_words, refused}
use Rattle.pay_words.proofs.Strings.{first_word, no_words_in}
use Rattle.pay_words.proofs.command.command_of.Goals as goal

pub returns-then-is_empty-clause-misfit : goal.returns-then-is_empty-clause-misfit
returns-then-is_empty-clause-misfit c =
    let words = c.args.words.now in
    let none = no_words_in words (eqb-true (length words) 0 (sym c.is_empty.ensures ∙ c.if-is_empty.true)) in
    (refused (words_in words) 0 (subst (λ xs. IsMisfit xs 0) (sym none) no_words)).1

pub returns-in-Some-clause-command : goal.returns-in-Some-clause-command
returns-in-Some-clause-command c = (answered (words_in c.args.words.now) c.call_of.result c.call_of.ensures.command c.call_of.ensures.misfit).0

pub returns-in-Some-clause-misfit : goal.returns-in-Some-clause-misfit
returns-in-Some-clause-misfit c = (answered (words_in c.args.words.now) c.call_of.result c.call_of.ensures.command c.call_of.ensures.misfit).1

pub returns-in-None-clause-command : goal.returns-in-None-clause-command
returns-in-None-clause-command c =
    let words = c.args.words.now in
    let word = c.deref.result.now in
    let some : length words ≡ 0 → ⊥ = eqb-false (length words) 0 (sym c.is_empty.ensures ∙ c.if-is_empty.false) in
    let all = first_word words c.index-words-0.result word (omega arith) c.index-words-0.is c.deref.ensures in
    (refused (words_in words) 0 (subst (λ xs. IsMisfit xs 0) (sym all) (no_verb word (words_in (drop 1 words)) c.in-None.ensures.none))).0

pub returns-in-None-clause-misfit : goal.returns-in-None-clause-misfit
returns-in-None-clause-misfit c =
    let words = c.args.words.now in
    let word = c.deref.result.now in
    let some : length words ≡ 0 → ⊥ = eqb-false (length words) 0 (sym c.is_empty.ensures ∙ c.if-is_empty.false) in
    let all = first_word words c.index-words-0.result word (omega arith) c.index-words-0.is c.deref.ensures in
    (refused (words_in words) 0 (subst (λ xs. IsMisfit xs 0) (sym all) (no_verb word (words_in (drop 1 words)) c.in-None.ensures.none))).1
