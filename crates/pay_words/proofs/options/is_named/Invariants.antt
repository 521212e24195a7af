use Rattle.std.proofs.Common.{◌≢◌, take}
use Rattle.std.specs.Prelude.{All}
use Rattle.pay_words.specs.Command.{words_in}
use Rattle.pay_words.specs.Options.{name_in}
use Rattle.pay_words.proofs.options.is_named.Given as goal

abbrev pub invariant-loop-word : goal.invariant-loop-word
invariant-loop-word l = All (λ w. name_in w ≢ l.name) (words_in (take l.word-index l.words))
