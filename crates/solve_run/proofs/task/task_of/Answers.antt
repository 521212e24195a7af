use Rattle.std.proofs.Common.{◌≡◌, ◌<◌, length, refl, subst, sym}
use Rattle.std.specs.Prelude.{IsOkAnd, string_bytes}
use Rattle.std.proofs.lemmas.List.{length-map}
use Rattle.pay_words.specs.Command.{IsCommand, request_of, words_in}
use Rattle.solve_run.specs.Tasks.{HasLimits, last_name, request_in, task_in}
use Rattle.solve_run.proofs.Asks.{asks_of, limits_of}
use Rattle.solve_run.proofs.task.task_of.Goals as goal

pub returns-in-Ok-clause-asks : goal.returns-in-Ok-clause-asks
returns-in-Ok-clause-asks c =
    let command = c.in-Ok.command in
    let words = words_in c.args.words.now in
    let is = (c.command_of.ensures.command (request_of command)).1 (subst (λ r. IsOkAnd r (λ d. request_of d ≡ request_of command)) (sym c.in-Ok.is) refl) in
    subst (λ t. IsCommand words (request_in words t)) (sym c.task_in.ensures) (asks_of words command is).0

pub returns-in-Ok-clause-files : goal.returns-in-Ok-clause-files
returns-in-Ok-clause-files c =
    let command = c.in-Ok.command in
    let words = words_in c.args.words.now in
    let is = (c.command_of.ensures.command (request_of command)).1 (subst (λ r. IsOkAnd r (λ d. request_of d ≡ request_of command)) (sym c.in-Ok.is) refl) in
    subst (λ t. last_name t < length c.args.words.now) (sym c.task_in.ensures) (subst (λ n. last_name (task_in command) < n) (length-map c.args.words.now string_bytes) (asks_of words command is).1)

pub returns-in-Ok-clause-limits : goal.returns-in-Ok-clause-limits
returns-in-Ok-clause-limits c = subst HasLimits (sym c.task_in.ensures) (limits_of c.in-Ok.command c.in-Ok.ensures.limits)
