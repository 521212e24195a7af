-- What the top call promises: which answer comes from which cause, what it leaves, and what the sink has then taken.
use Rattle.std.specs.Prelude.{◌≡◌, ◌⊎◌, ℕ, List, Option, Some, None, ℤ}
use Rattle.pay_outside.specs.Counts.{Rose}
use Rattle.game_model.specs.Game.{DynamicGame}
use Rattle.level_table.specs.Tables.{IsFirstBeyond}
use Rattle.pay_words.specs.declared.options.Settings.{Settings}
use Rattle.pay_words.specs.Command.{IsCommand, IsMisfit, Request, solving, checking, replaying, making}
use Rattle.make_run.specs.Made.{IsMade, made_text}
use Rattle.make_run.specs.declared.made.Made.{Made}
use Rattle.set_operator.specs.declared.row.Verdict.{Verdict}
use Rattle.set_operator.specs.declared.row.Verdict.TheVariants.{Supported, Unsupported}
use Rattle.report_text.specs.declared.replay.Replay.{Replay}
use Rattle.report_text.specs.declared.report.Report.{Report}
use Rattle.report_text.specs.ReplayText.{replay_text}
use Rattle.report_text.specs.ReportText.{IsReportText}
use Rattle.schedule_core.specs.declared.moves.Schedule.{Schedule}
use Rattle.sweep_run.specs.Runs.{IsSupportedVerdict}
use Rattle.game_files.specs.declared.fault.GameFault.{GameFault}
use Rattle.game_files.specs.declared.fault.GameFault.TheVariants as faults
use Rattle.game_files.specs.Loads.{Counts}
use Rattle.game_files.specs.Causes.{AreRight, IsGameOf}
use Rattle.solve_run.specs.declared.outcome.Outcome.{Outcome}
use Rattle.solve_run.specs.declared.outcome.Status.{Status}
use Rattle.solve_run.specs.declared.outcome.Status.TheVariants.{Settled, Holds, Replayed, Made as MadeStatus, Fails, Usage, Spent, BadInput, Shape, TooLong, ReadFault, Beyond, WriteFault, NoMemory}
use Rattle.selfgen_check.specs.declared.fault.CorrFault.{CorrFault}
use Rattle.selfgen_check.specs.Promises.{Promises}
use Rattle.solve_run.specs.declared.answer.Answer.{Answer}
use Rattle.solve_run.specs.declared.answer.Answer.TheVariants.{Solved, Checked, Ran, Drawn}
use Rattle.solve_run.specs.Checks.{IsCheckFault, IsChecked, IsCorrOf, check_text}
use Rattle.solve_run.specs.Problems.{problem_in, row_count}
use Rattle.solve_run.specs.Refusals.{IsSolveFault, MayAskFor}
use Rattle.solve_run.specs.Replays.{IsReplayFault, IsReplayed, IsScheduleOf}
use Rattle.solve_run.specs.Solved.{IsAnswer}
use Rattle.solve_run.specs.Writing.{Taking, TookAll, TookNothing, TookPart}

-- ---- what a call leaves
-- a status alone
abbrev pub alone : Status → Outcome
alone status = record { status = status; report = None; replay = None; made = None }

-- a status with the report whose text was offered
abbrev pub with_report : Status → Report → Outcome
with_report status report = record { status = status; report = Some report; replay = None; made = None }

-- a status with the replay whose text was offered
abbrev pub with_replay : Status → Replay → Outcome
with_replay status replay = record { status = status; report = None; replay = Some replay; made = None }

-- a status with the numbers whose text was offered
abbrev pub with_made : Status → Made → Outcome
with_made status made = record { status = status; report = None; replay = None; made = Some made }

-- the status of a refusal
abbrev pub refused_as : GameFault → Status
refused_as (faults.BadInput file at) = BadInput file at
refused_as (faults.TooLong file) = TooLong file
refused_as (faults.ReadFault file) = ReadFault file
refused_as (faults.Shape fault) = Shape fault
refused_as (faults.Beyond what number) = Beyond what number
refused_as faults.NoMemory = NoMemory

-- the row of an unsupported verdict
abbrev pub IsUnsupportedAt : ℕ → Verdict → Type 0
IsUnsupportedAt row (Supported supports) = ⊥
IsUnsupportedAt row (Unsupported first level reached) = first ≡ row

-- the status of a report whose whole text was taken
abbrev pub IsStatusOf : Verdict → ℕ → Status → Type 0
IsStatusOf verdict sweeps Settled = IsSupportedVerdict verdict
IsStatusOf verdict sweeps (Spent n row) = IsUnsupportedAt row verdict × (n ≡ sweeps)
IsStatusOf verdict sweeps Holds = ⊥
IsStatusOf verdict sweeps Replayed = ⊥
IsStatusOf verdict sweeps MadeStatus = ⊥
IsStatusOf verdict sweeps (Fails fault) = ⊥
IsStatusOf verdict sweeps (Usage index) = ⊥
IsStatusOf verdict sweeps (BadInput file at) = ⊥
IsStatusOf verdict sweeps (Shape fault) = ⊥
IsStatusOf verdict sweeps (TooLong file) = ⊥
IsStatusOf verdict sweeps (ReadFault file) = ⊥
IsStatusOf verdict sweeps (Beyond what number) = ⊥
IsStatusOf verdict sweeps (WriteFault written) = ⊥
IsStatusOf verdict sweeps NoMemory = ⊥

-- ---- texts
-- The whole text of a report was taken; or its first part, and then the sink failed; or memory ran out before any was offered.
abbrev pub IsWritten : Report → Taking → Outcome → Type 0
IsWritten report sink end =
    ((status : Status) × (end ≡ with_report status report) × TookAll (IsReportText report) sink × IsStatusOf report.verdict report.sweeps status)
    ⊎ ((n : ℕ) × (end ≡ with_report (WriteFault n) report) × TookPart (IsReportText report) sink n)
    ⊎ ((end ≡ alone NoMemory) × TookNothing sink)

-- the status of an answer whose line was taken
abbrev pub answered_as : Option CorrFault → Status
answered_as None = Holds
answered_as (Some fault) = Fails fault

-- the same of the line of a check
abbrev pub IsTold : Option CorrFault → Taking → Outcome → Type 0
IsTold answer sink end =
    ((end ≡ alone (answered_as answer)) × TookAll (λ text. text ≡ check_text answer) sink)
    ⊎ ((n : ℕ) × (end ≡ alone (WriteFault n)) × TookPart (λ text. text ≡ check_text answer) sink n)
    ⊎ ((end ≡ alone NoMemory) × TookNothing sink)

-- the same of the text of a replay
abbrev pub IsShown : Replay → Taking → Outcome → Type 0
IsShown replay sink end =
    ((end ≡ with_replay Replayed replay) × TookAll (λ text. text ≡ replay_text replay) sink)
    ⊎ ((n : ℕ) × (end ≡ with_replay (WriteFault n) replay) × TookPart (λ text. text ≡ replay_text replay) sink n)
    ⊎ ((end ≡ alone NoMemory) × TookNothing sink)

-- the same of the text of a game that was made
abbrev pub IsPrinted : Made → Taking → Outcome → Type 0
IsPrinted made sink end =
    ((end ≡ with_made MadeStatus made) × TookAll (λ text. text ≡ made_text made) sink)
    ⊎ ((n : ℕ) × (end ≡ with_made (WriteFault n) made) × TookPart (λ text. text ≡ made_text made) sink n)
    ⊎ ((end ≡ alone NoMemory) × TookNothing sink)

-- how an answer was told
abbrev pub IsTelling : Answer → Taking → Outcome → Type 0
IsTelling (Solved report) sink end = IsWritten report sink end
IsTelling (Checked fault) sink end = IsTold fault sink end
IsTelling (Ran replay) sink end = IsShown replay sink end
IsTelling (Drawn made) sink end = IsPrinted made sink end

-- ---- ends
-- nothing was made and nothing written, for such a fault
pub record IsRefused (IsFault : GameFault → Type 0) (sink : Taking) (end : Outcome) : Type 0 where
  pub fault : GameFault
  pub is_fault : IsFault fault
  pub end_is : end ≡ alone (refused_as fault)
  pub nothing : TookNothing sink

-- a word doesn't fit: no file was asked for and nothing written
pub record IsUsage (words : List (List ℕ)) (before after : Counts) (sink : Taking) (end : Outcome) : Type 0 where
  pub index : ℕ
  pub misfit : IsMisfit words index
  pub end_is : end ≡ alone (Usage index)
  pub unasked : after ≡ before
  pub nothing : TookNothing sink

-- the ends of a command: a refusal with its cause, or what it asks for
abbrev pub IsEnd : (List ℕ → Option (List ℕ)) → Counts → Counts → Taking → Outcome → Request → Type 0
IsEnd told before after sink end (solving file set) =
    IsRefused (IsSolveFault told file set before after) sink end
    ⊎ ((report : Report) × IsAnswer told file set report × IsWritten report sink end)
IsEnd told before after sink end (checking file corr discount) =
    IsRefused (IsCheckFault told file corr discount before after) sink end
    ⊎ ((answer : Option CorrFault) × IsChecked told file corr discount answer × IsTold answer sink end)
IsEnd told before after sink end (replaying file schedule set) =
    IsRefused (IsReplayFault told file schedule set before after) sink end
    ⊎ ((replay : Replay) × IsReplayed told file schedule set replay × IsShown replay sink end)
IsEnd told before after sink end (making seed states workers) =
    (after ≡ before)
    × (((end ≡ alone NoMemory) × TookNothing sink)
    ⊎ ((made : Made) × IsMade seed states made × IsPrinted made sink end))

-- What each answer says: the words are no command, or they are this one and it came to this end.
abbrev pub Causes : List (List ℕ) → (List ℕ → Option (List ℕ)) → Counts → Counts → Taking → Outcome → Type 0
Causes words told before after sink end =
    IsUsage words before after sink end
    ⊎ ((request : Request) × IsCommand words request × IsEnd told before after sink end request)

-- the files of the command that the words are may be asked for
abbrev pub MayAsk : List (List ℕ) → (List ℕ → Option (List ℕ)) → (List ℕ → Type 0) → Type 0
MayAsk words told may = (request : Request) → IsCommand words request → MayAskFor told may request

-- ---- completeness
-- a game's files are told, short and right, and its openings pass no limit
abbrev pub IsRightGame : (List ℕ → Option (List ℕ)) → List ℕ → Settings → Type 0
IsRightGame told file set =
    AreRight told file set.discount
    × ((game : DynamicGame) (number : ℤ) → IsGameOf told file set.discount game → IsFirstBeyond (problem_in game set) number → ⊥)

-- the files of a command are told, short and right, and no limit is passed
abbrev pub IsRight : (List ℕ → Option (List ℕ)) → Request → Type 0
IsRight told (solving file set) = IsRightGame told file set
IsRight told (checking file corr discount) =
    AreRight told file discount
    × (told corr ≡ None → ⊥)
    × ((game : DynamicGame) → IsGameOf told file discount game → (c : Promises) × IsCorrOf told corr game c)
IsRight told (replaying file schedule set) =
    IsRightGame told file set
    × (told schedule ≡ None → ⊥)
    × ((game : DynamicGame) → IsGameOf told file set.discount game → (s : Schedule) × IsScheduleOf told schedule (row_count game set) s)
IsRight told (making seed states workers) = Unit {0}

-- a command came to its end, or memory ran out
abbrev pub IsThrough : Status → Type 0
IsThrough Settled = Unit {0}
IsThrough (Spent sweeps row) = Unit {0}
IsThrough Holds = Unit {0}
IsThrough Replayed = Unit {0}
IsThrough MadeStatus = Unit {0}
IsThrough (Fails fault) = Unit {0}
IsThrough NoMemory = Unit {0}
IsThrough (Usage index) = ⊥
IsThrough (BadInput file at) = ⊥
IsThrough (Shape fault) = ⊥
IsThrough (TooLong file) = ⊥
IsThrough (ReadFault file) = ⊥
IsThrough (Beyond what number) = ⊥
IsThrough (WriteFault written) = ⊥

-- Where the words and the files are right and no count of faults rises, nothing but memory stands in the way of an end.
abbrev pub IsComplete : List (List ℕ) → (List ℕ → Option (List ℕ)) → Counts → Counts → Taking → Status → Type 0
IsComplete words told before after sink status =
    (request : Request) → IsCommand words request → IsRight told request
    → (Rose before.faults after.faults → ⊥)
    → (Rose sink.faults_before sink.faults_after → ⊥)
    → IsThrough status
