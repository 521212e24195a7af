-- the end of a command, by what it asks for
use Rattle.std.proofs.Common.{◌∙◌, inl, inr, ℕ, List, Option, ap}
use Rattle.pay_outside.specs.Counts.{Rose}
use Rattle.pay_words.specs.Command.{Request, solving, checking, replaying, making}
use Rattle.game_files.specs.declared.fault.GameFault.{GameFault}
use Rattle.game_files.specs.Loads.{Counts}
use Rattle.solve_run.specs.declared.answer.Answer.{Answer}
use Rattle.solve_run.specs.declared.answer.Answer.TheVariants.{Solved, Checked, Ran, Drawn}
use Rattle.solve_run.specs.declared.outcome.Outcome.{Outcome}
use Rattle.solve_run.specs.Answers.{IsAnswerTo, IsFaultOf, IsUnasked}
use Rattle.solve_run.specs.Run.{IsEnd, IsRefused, IsRight, IsTelling, IsThrough, alone, refused_as}
use Rattle.solve_run.specs.Writing.{Taking}
use Rattle.solve_run.proofs.Completeness.{FileLaw, check_fault_is_through, memory_is_through, printed_is_through, replay_fault_is_through, shown_is_through, solve_fault_is_through, told_is_through, written_is_through}

pub refusal_is_end : (told : List ℕ → Option (List ℕ)) (before after : Counts) (sink : Taking) (end : Outcome) (request : Request) → IsUnasked before after request → IsRefused (IsFaultOf told before after request) sink end → IsEnd told before after sink end request
refusal_is_end told before after sink end (solving file set) u h = inl h
refusal_is_end told before after sink end (checking file corr discount) u h = inl h
refusal_is_end told before after sink end (replaying file schedule set) u h = inl h
refusal_is_end told before after sink end (making seed states workers) u h = (u, inl (h.end_is ∙ ap (λ r. alone (refused_as r)) h.is_fault, h.nothing))

pub answer_is_end : (told : List ℕ → Option (List ℕ)) (before after : Counts) (sink : Taking) (end : Outcome) (request : Request) (answer : Answer)
    → IsUnasked before after request → IsAnswerTo told request answer → IsTelling answer sink end → IsEnd told before after sink end request
answer_is_end told before after sink end (solving file set) (Solved report) u is telling = inr (report, is, telling)
answer_is_end told before after sink end (solving file set) (Checked fault) u is telling = absurd is
answer_is_end told before after sink end (solving file set) (Ran replay) u is telling = absurd is
answer_is_end told before after sink end (solving file set) (Drawn made) u is telling = absurd is
answer_is_end told before after sink end (checking file corr discount) (Solved report) u is telling = absurd is
answer_is_end told before after sink end (checking file corr discount) (Checked fault) u is telling = inr (fault, is, telling)
answer_is_end told before after sink end (checking file corr discount) (Ran replay) u is telling = absurd is
answer_is_end told before after sink end (checking file corr discount) (Drawn made) u is telling = absurd is
answer_is_end told before after sink end (replaying file schedule set) (Solved report) u is telling = absurd is
answer_is_end told before after sink end (replaying file schedule set) (Checked fault) u is telling = absurd is
answer_is_end told before after sink end (replaying file schedule set) (Ran replay) u is telling = inr (replay, is, telling)
answer_is_end told before after sink end (replaying file schedule set) (Drawn made) u is telling = absurd is
answer_is_end told before after sink end (making seed states workers) (Solved report) u is telling = absurd is
answer_is_end told before after sink end (making seed states workers) (Checked fault) u is telling = absurd is
answer_is_end told before after sink end (making seed states workers) (Ran replay) u is telling = absurd is
answer_is_end told before after sink end (making seed states workers) (Drawn made) u is telling = (u, inr (made, is, telling))

pub fault_is_through : (told : List ℕ → Option (List ℕ)) (before after : Counts) (request : Request) (r : GameFault) → FileLaw → IsRight told request → IsFaultOf told before after request r
    → (Rose before.faults after.faults → ⊥) → IsThrough (refused_as r)
fault_is_through told before after (solving file set) r law right fault calm = solve_fault_is_through told file set before after r law right fault calm
fault_is_through told before after (checking file corr discount) r law right fault calm = check_fault_is_through told file corr discount before after r law right fault calm
fault_is_through told before after (replaying file schedule set) r law right fault calm = replay_fault_is_through told file schedule set before after r law right fault calm
fault_is_through told before after (making seed states workers) r law right fault calm = memory_is_through r fault

pub telling_is_through : (answer : Answer) (sink : Taking) (end : Outcome) → IsTelling answer sink end → (Rose sink.faults_before sink.faults_after → ⊥) → IsThrough end.status
telling_is_through (Solved report) sink end telling quiet = written_is_through report sink end telling quiet
telling_is_through (Checked fault) sink end telling quiet = told_is_through fault sink end telling quiet
telling_is_through (Ran replay) sink end telling quiet = shown_is_through replay sink end telling quiet
telling_is_through (Drawn made) sink end telling quiet = printed_is_through made sink end telling quiet
