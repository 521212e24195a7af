use Rattle.std.proofs.Common.{◌≡◌, ◌∙◌, inr, refl, sym, subst, ap}
use Rattle.pay_words.specs.Command.{Request, words_in}
use Rattle.game_files.specs.Loads.{Counts, counts_of}
use Rattle.solve_run.specs.declared.outcome.Outcome.{Outcome}
use Rattle.solve_run.specs.declared.outcome.Status.TheVariants.{Usage}
use Rattle.solve_run.specs.Run.{IsRight, IsThrough, alone, refused_as}
use Rattle.solve_run.specs.Tasks.{request_in}
use Rattle.solve_run.specs.Writing.{Taking, taking_of}
use Rattle.solve_run.proofs.Ends.{answer_is_end, fault_is_through, refusal_is_end, telling_is_through}
use Rattle.solve_run.proofs.run.payoff_run.Goals as goal

pub returns-in-Err-clause-misfit : goal.returns-in-Err-clause-misfit
returns-in-Err-clause-misfit g c index m =
    ap (λ (o : Outcome). o.status) c.alone.ensures ∙ ap (λ n. Usage n) (c.command_laws.ensures.one_misfit (words_in c.args.words.now) c.in-Err.fault.index index c.in-Err.ensures.misfit m)

pub returns-in-Err-answer_of-clause-causes : goal.returns-in-Err-answer_of-clause-causes
returns-in-Err-answer_of-clause-causes g c =
    let words = words_in c.args.words.now in
    let request : Request = request_in words c.in-Ok.task in
    let fault = c.in-Err-answer_of.fault in
    let before : Counts = counts_of g.S.Shelf.faults g.S.Shelf.overlong g.S.Shelf.loads c.args.shelf.now in
    let after : Counts = counts_of g.S.Shelf.faults g.S.Shelf.overlong g.S.Shelf.loads c.answer_of.new.shelf in
    let sink : Taking = taking_of g.K.Sink.taken g.K.Sink.faults c.args.sink.now c.args.sink.now in
    let end = c.alone-in-Err-answer_of.ensures in
    inr (
      request,
      c.in-Ok.ensures.asks,
      refusal_is_end (g.S.Shelf.bytes c.args.shelf.now) before after sink c.alone-in-Err-answer_of.result request c.answer_of.ensures.unasked (record {
        fault = fault;
        is_fault = c.in-Err-answer_of.ensures.why;
        end_is = end ∙ ap alone c.status_of_fault.ensures;
        nothing = record { taken = refl; faults = refl };
      }),
    )

pub returns-in-Err-answer_of-clause-complete : goal.returns-in-Err-answer_of-clause-complete
returns-in-Err-answer_of-clause-complete g c request is right calm quiet =
    let words = words_in c.args.words.now in
    let told = g.S.Shelf.bytes c.args.shelf.now in
    let asked : Request = request_in words c.in-Ok.task in
    let fault = c.in-Err-answer_of.fault in
    let before : Counts = counts_of g.S.Shelf.faults g.S.Shelf.overlong g.S.Shelf.loads c.args.shelf.now in
    let after : Counts = counts_of g.S.Shelf.faults g.S.Shelf.overlong g.S.Shelf.loads c.answer_of.new.shelf in
    let same : request ≡ asked = c.command_laws.ensures.one_command words request asked is c.in-Ok.ensures.asks in
    let status : c.alone-in-Err-answer_of.result.status ≡ refused_as fault = ap (λ (o : Outcome). o.status) c.alone-in-Err-answer_of.ensures ∙ c.status_of_fault.ensures in
    subst IsThrough (sym status) (fault_is_through told before after asked fault c.game_laws.ensures (subst (IsRight told) same right) c.in-Err-answer_of.ensures.why calm)

pub returns-in-Err-answer_of-clause-misfit : goal.returns-in-Err-answer_of-clause-misfit
returns-in-Err-answer_of-clause-misfit g c index m =
    let words = words_in c.args.words.now in
    absurd (c.command_laws.ensures.not_both words (request_in words c.in-Ok.task) index c.in-Ok.ensures.asks m)

pub returns-in-Ok-answer_of-clause-causes : goal.returns-in-Ok-answer_of-clause-causes
returns-in-Ok-answer_of-clause-causes g c =
    let words = words_in c.args.words.now in
    let request : Request = request_in words c.in-Ok.task in
    let answer = c.in-Ok-answer_of.answer in
    let before : Counts = counts_of g.S.Shelf.faults g.S.Shelf.overlong g.S.Shelf.loads c.args.shelf.now in
    let after : Counts = counts_of g.S.Shelf.faults g.S.Shelf.overlong g.S.Shelf.loads c.answer_of.new.shelf in
    let sink : Taking = taking_of g.K.Sink.taken g.K.Sink.faults c.args.sink.now c.finish.new.sink in
    inr (request, c.in-Ok.ensures.asks, answer_is_end (g.S.Shelf.bytes c.args.shelf.now) before after sink c.finish.result request answer c.answer_of.ensures.unasked c.in-Ok-answer_of.ensures.found c.finish.ensures)

pub returns-in-Ok-answer_of-clause-complete : goal.returns-in-Ok-answer_of-clause-complete
returns-in-Ok-answer_of-clause-complete g c request is right calm quiet =
    let sink : Taking = taking_of g.K.Sink.taken g.K.Sink.faults c.args.sink.now c.finish.new.sink in
    telling_is_through c.in-Ok-answer_of.answer sink c.finish.result c.finish.ensures quiet

pub returns-in-Ok-answer_of-clause-misfit : goal.returns-in-Ok-answer_of-clause-misfit
returns-in-Ok-answer_of-clause-misfit g c index m =
    let words = words_in c.args.words.now in
    absurd (c.command_laws.ensures.not_both words (request_in words c.in-Ok.task) index c.in-Ok.ensures.asks m)
