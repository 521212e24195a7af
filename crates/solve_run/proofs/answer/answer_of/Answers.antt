use Rattle.std.proofs.Common.{sym, subst}
use Rattle.pay_words.specs.Command.{words_in}
use Rattle.game_files.specs.Loads.{Counts, counts_of}
use Rattle.solve_run.specs.Answers.{IsFaultOf}
use Rattle.solve_run.specs.Checks.{IsCheckFault}
use Rattle.solve_run.specs.Refusals.{IsSolveFault}
use Rattle.solve_run.specs.Replays.{IsReplayFault}
use Rattle.solve_run.specs.Tasks.{request_in, word_at}
use Rattle.solve_run.proofs.answer.answer_of.Goals as goal

pub returns-in-Err-clause-why : goal.returns-in-Err-clause-why
returns-in-Err-clause-why g c =
    let told = g.S.Shelf.bytes c.args.shelf.now in
    let words = words_in c.args.words.now in
    let fault = c.in-Err.fault in
    let set = c.in-Solve.set in
    let before : Counts = counts_of g.S.Shelf.faults g.S.Shelf.overlong g.S.Shelf.loads c.args.shelf.now in
    let after : Counts = counts_of g.S.Shelf.faults g.S.Shelf.overlong g.S.Shelf.loads c.solve.new.shelf in
    let why : IsSolveFault told (word_at words 1) set before after fault = subst (λ f. IsSolveFault told f set before after fault) c.name_in.ensures c.in-Err.ensures.why in
    subst (λ t. IsFaultOf told before after (request_in words t) fault) (sym c.in-Solve.is) why

pub returns-in-Err-checked-clause-why : goal.returns-in-Err-checked-clause-why
returns-in-Err-checked-clause-why g c =
    let told = g.S.Shelf.bytes c.args.shelf.now in
    let words = words_in c.args.words.now in
    let fault = c.in-Err-checked.fault in
    let discount = c.in-Check.discount in
    let before : Counts = counts_of g.S.Shelf.faults g.S.Shelf.overlong g.S.Shelf.loads c.args.shelf.now in
    let after : Counts = counts_of g.S.Shelf.faults g.S.Shelf.overlong g.S.Shelf.loads c.checked.new.shelf in
    let corr = c.name_in-in-Check-2.result.now in
    let first : IsCheckFault told (word_at words 1) corr discount before after fault = subst (λ f. IsCheckFault told f corr discount before after fault) c.name_in-in-Check.ensures c.in-Err-checked.ensures.why in
    let why : IsCheckFault told (word_at words 1) (word_at words 2) discount before after fault = subst (λ f. IsCheckFault told (word_at words 1) f discount before after fault) c.name_in-in-Check-2.ensures first in
    subst (λ t. IsFaultOf told before after (request_in words t) fault) (sym c.in-Check.is) why

pub returns-in-Err-replayed-clause-why : goal.returns-in-Err-replayed-clause-why
returns-in-Err-replayed-clause-why g c =
    let told = g.S.Shelf.bytes c.args.shelf.now in
    let words = words_in c.args.words.now in
    let fault = c.in-Err-replayed.fault in
    let set = c.in-Replay.set in
    let before : Counts = counts_of g.S.Shelf.faults g.S.Shelf.overlong g.S.Shelf.loads c.args.shelf.now in
    let after : Counts = counts_of g.S.Shelf.faults g.S.Shelf.overlong g.S.Shelf.loads c.replayed.new.shelf in
    let schedule = c.name_in-in-Replay-2.result.now in
    let first : IsReplayFault told (word_at words 1) schedule set before after fault = subst (λ f. IsReplayFault told f schedule set before after fault) c.name_in-in-Replay.ensures c.in-Err-replayed.ensures.why in
    let why : IsReplayFault told (word_at words 1) (word_at words 2) set before after fault = subst (λ f. IsReplayFault told (word_at words 1) f set before after fault) c.name_in-in-Replay-2.ensures first in
    subst (λ t. IsFaultOf told before after (request_in words t) fault) (sym c.in-Replay.is) why
