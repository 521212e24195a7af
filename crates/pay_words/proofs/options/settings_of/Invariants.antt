use Rattle.std.proofs.Common.{take}
use Rattle.pay_words.specs.Command.{words_in}
use Rattle.pay_words.specs.Options.{AreOptions, AreSettings, AreLimited}
use Rattle.pay_words.proofs.options.settings_of.Given as goal

abbrev pub invariant-loop-place : goal.invariant-loop-place
invariant-loop-place l = AreOptions l.verb (words_in (take l.place l.words)) × AreSettings (words_in (take l.place l.words)) l.given × AreLimited l.given
