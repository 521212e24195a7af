use Rattle.std.proofs.Common.{◌++◌, ◌∷◌, sym, ap, ◌∙◌}
use Rattle.pay_words.proofs.OptionLemmas.{made_setting, split_word}
use Rattle.pay_words.proofs.options.setting_of.Goals as goal

pub returns-clause-some : goal.returns-clause-some
returns-clause-some c =
    let name = c.in_ok-name.name.now in
    let parts = split_word c.args.word.now c.split_once.result c.in_ok-name.name c.in_ok-name.value c.split_once.ensures.cases c.in_ok-name.was in
    made_setting c.args.word.now name c.as_bytes.result.now c.value_of.result (parts ∙ ap (λ v. name ++ 61 ∷ v) (sym c.as_bytes.ensures.value)) c.value_of.ensures.name c.value_of.ensures.value
