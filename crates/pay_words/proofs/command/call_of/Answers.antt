use Rattle.std.proofs.Common.{◌≡◌, ◌+◌, ◌<◌, length, drop, sym, subst, ◌∙◌, arith, ap}
use Rattle.pay_words.specs.Command.{IsMisfit, file_count, words_in}
use Rattle.pay_words.proofs.CommandLemmas.{call_is, misplaced, too_short}
use Rattle.pay_words.proofs.Strings.{length-words_in, rest_of}
use Rattle.pay_words.proofs.command.call_of.Goals as goal

pub returns-then-words-head-clause-misfit : goal.returns-then-words-head-clause-misfit
returns-then-words-head-clause-misfit c =
    let words = c.args.words.now in
    let short : length (words_in words) < 1 + file_count c.args.verb = omega (arith, c.if-words-head.true, c.count_files-head.ensures, length-words_in words) in
    subst (IsMisfit (words_in words)) (length-words_in words) (too_short c.args.verb (words_in words) c.requires.named short)

pub returns-in-Err-clause-misfit : goal.returns-in-Err-clause-misfit
returns-in-Err-clause-misfit c =
    let words = c.args.words.now in
    let verb = c.args.verb in
    let head : 1 + c.count_files-head.result ≡ 1 + file_count verb = ap (λ n. 1 + n) c.count_files-head.ensures in
    let long : file_count verb < length (words_in words) = omega (arith, c.if-words-head.false, c.count_files-head.ensures, length-words_in words) in
    let place : 1 + file_count verb + c.in-Err.place ≡ 1 + c.count_files-head.result + c.in-Err.place = ap (λ n. n + c.in-Err.place) (sym head) in
    subst (IsMisfit (words_in words)) place
    (misplaced verb (words_in words) _ c.in-Err.place c.requires.named long
    (rest_of words (1 + c.count_files-head.result) ∙ ap (λ n. drop n (words_in words)) head) c.in-Err.ensures.wrong)

pub made-requires-clause-call : goal.made-requires-clause-call
made-requires-clause-call c =
    let words = c.args.words.now in
    let verb = c.args.verb in
    let head : 1 + c.count_files-head.result ≡ 1 + file_count verb = ap (λ n. 1 + n) c.count_files-head.ensures in
    call_is verb (words_in words) _ c.in-Ok.given c.requires.named (rest_of words (1 + c.count_files-head.result) ∙ ap (λ n. drop n (words_in words)) head)
    c.in-Ok.ensures.options c.in-Ok.ensures.settings
