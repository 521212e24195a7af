use Rattle.report_text.proofs.FractionLemmas.{one_word}
use Rattle.report_text.proofs.text.fraction_word_law.Goals as goal

pub returns : goal.returns
returns c = one_word
