use Rattle.std.proofs.Common.{subst}
use Rattle.pay_words.specs.Command.{IsMisfit, words_in}
use Rattle.pay_words.proofs.CommandLemmas.{made_of, unmade_of}
use Rattle.pay_words.proofs.Strings.{length-words_in}
use Rattle.pay_words.proofs.command.made.Goals as goal

pub returns-in_ok-given-in-Make-clause-command : goal.returns-in_ok-given-in-Make-clause-command
returns-in_ok-given-in-Make-clause-command c = made_of c.args.verb (words_in c.args.words.now) c.args.given _ c.in-Make.is c.requires.call c.in_ok-given-in-Make.was

pub returns-in_err-given-in-Make-clause-misfit : goal.returns-in_err-given-in-Make-clause-misfit
returns-in_err-given-in-Make-clause-misfit c =
    let words = c.args.words.now in
    rw c.from_residual.ensures
    (subst (IsMisfit (words_in words)) (length-words_in words) (unmade_of c.args.verb (words_in words) c.args.given c.in-Make.is c.requires.call c.in_err-given-in-Make.was))
