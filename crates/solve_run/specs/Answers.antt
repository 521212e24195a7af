-- What answers a request, and why nothing does.
use Rattle.std.specs.Prelude.{◌≡◌, ℕ, List, Option}
use Rattle.pay_words.specs.Command.{Request, solving, checking, replaying, making}
use Rattle.report_text.specs.ReportText.{IsPrintable}
use Rattle.game_files.specs.declared.fault.GameFault.{GameFault}
use Rattle.game_files.specs.declared.fault.GameFault.TheVariants.{NoMemory}
use Rattle.game_files.specs.Loads.{Counts}
use Rattle.make_run.specs.Made.{IsMade}
use Rattle.solve_run.specs.declared.answer.Answer.{Answer}
use Rattle.solve_run.specs.declared.answer.Answer.TheVariants.{Solved, Checked, Ran, Drawn}
use Rattle.solve_run.specs.Checks.{IsCheckFault, IsChecked}
use Rattle.solve_run.specs.Refusals.{IsSolveFault}
use Rattle.solve_run.specs.Replays.{IsReplayFault, IsReplayed}
use Rattle.solve_run.specs.Solved.{IsAnswer}

abbrev pub IsAnswerTo : (List ℕ → Option (List ℕ)) → Request → Answer → Type 0
IsAnswerTo told (solving file set) (Solved report) = IsAnswer told file set report
IsAnswerTo told (solving file set) (Checked fault) = ⊥
IsAnswerTo told (solving file set) (Ran replay) = ⊥
IsAnswerTo told (solving file set) (Drawn made) = ⊥
IsAnswerTo told (checking file corr discount) (Solved report) = ⊥
IsAnswerTo told (checking file corr discount) (Checked fault) = IsChecked told file corr discount fault
IsAnswerTo told (checking file corr discount) (Ran replay) = ⊥
IsAnswerTo told (checking file corr discount) (Drawn made) = ⊥
IsAnswerTo told (replaying file schedule set) (Solved report) = ⊥
IsAnswerTo told (replaying file schedule set) (Checked fault) = ⊥
IsAnswerTo told (replaying file schedule set) (Ran replay) = IsReplayed told file schedule set replay
IsAnswerTo told (replaying file schedule set) (Drawn made) = ⊥
IsAnswerTo told (making seed states workers) (Solved report) = ⊥
IsAnswerTo told (making seed states workers) (Checked fault) = ⊥
IsAnswerTo told (making seed states workers) (Ran replay) = ⊥
IsAnswerTo told (making seed states workers) (Drawn made) = IsMade seed states made

abbrev pub IsFaultOf : (List ℕ → Option (List ℕ)) → Counts → Counts → Request → GameFault → Type 0
IsFaultOf told before after (solving file set) fault = IsSolveFault told file set before after fault
IsFaultOf told before after (checking file corr discount) fault = IsCheckFault told file corr discount before after fault
IsFaultOf told before after (replaying file schedule set) fault = IsReplayFault told file schedule set before after fault
IsFaultOf told before after (making seed states workers) fault = fault ≡ NoMemory

-- a command that names no file asks for none
abbrev pub IsUnasked : Counts → Counts → Request → Type 0
IsUnasked before after (solving file set) = Unit {0}
IsUnasked before after (checking file corr discount) = Unit {0}
IsUnasked before after (replaying file schedule set) = Unit {0}
IsUnasked before after (making seed states workers) = after ≡ before

-- a report has a text
abbrev pub CanBeTold : Answer → Type 0
CanBeTold (Solved report) = IsPrintable report
CanBeTold (Checked fault) = Unit {0}
CanBeTold (Ran replay) = Unit {0}
CanBeTold (Drawn made) = Unit {0}
