use Rattle.std.proofs.Common.{◌+◌, ◌++◌, [], ◌∷◌, take, sym, subst, ◌∙◌, arith}
use Rattle.pay_words.specs.Command.{words_in}
use Rattle.pay_words.specs.Options.{AreOptions, AreSettings, AreLimited}
use Rattle.pay_words.proofs.OptionLemmas.{limits_more, more_options, more_settings, wrong_option}
use Rattle.pay_words.proofs.Strings.{length-words_in, take-words_in, words_more}
use Rattle.pay_words.proofs.options.settings_of.Goals as goal

pub returns-in-None-clause-wrong : goal.returns-in-None-clause-wrong
returns-in-None-clause-wrong c =
    let words = c.args.words.now in
    let i = c.loop-place.place in
    let word = c.deref.result.now in
    let first = words_in (take i words) in
    let more = words_more words i c.index-words-place.result word c.loop-place-test.true c.index-words-place.is c.deref.ensures in
    record {
      there = omega (arith, c.loop-place-test.true, length-words_in words);
      before = subst (AreOptions c.args.verb) (sym (take-words_in words i)) c.loop-place.invariant.0;
      settings = c.loop-place.given;
      given = subst (λ xs. AreSettings xs c.loop-place.given) (sym (take-words_in words i)) c.loop-place.invariant.1;
      wrong = λ h. wrong_option c.args.verb first word c.in-None.ensures.none (subst (AreOptions c.args.verb) (take-words_in words (i + 1) ∙ more) h);
    }

pub loop-place-preserved : goal.loop-place-preserved
loop-place-preserved c =
    let words = c.args.words.now in
    let i = c.loop-place.place in
    let word = c.deref.result.now in
    let first = words_in (take i words) in
    let more = words_more words i c.index-words-place.result word c.loop-place-test.true c.index-words-place.is c.deref.ensures in
    let spelled = c.in-Some.ensures.spelled in
    let new = c.in-Some.ensures.new in
    let settings = more_settings first word c.loop-place.given c.in-Some.setting c.loop-place.invariant.1 spelled new in (
      subst (AreOptions c.args.verb) (sym more) (more_options c.args.verb first word c.in-Some.setting c.loop-place.invariant.0 spelled c.in-Some.ensures.taken new),
      subst (λ xs. AreSettings xs c.with-given.result) (sym more) (subst (λ s. AreSettings (first ++ word ∷ []) s) (sym c.with-given.ensures) settings),
      subst AreLimited (sym c.with-given.ensures) (limits_more c.loop-place.given word c.in-Some.setting c.loop-place.invariant.2 spelled),
    )
