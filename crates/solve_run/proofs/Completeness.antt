-- what stands in the way of an end, and what doesn't
use Rattle.std.proofs.Common.{◌≡◌, inl, inr, ℕ, List, Option, Some, None, sym, subst, ap, ◌∙◌, ℤ}
use Rattle.pay_outside.specs.Counts.{Rose}
use Rattle.game_model.specs.Game.{DynamicGame}
use Rattle.level_table.specs.Tables.{IsFirstBeyond}
use Rattle.pay_frac.specs.Ratio.{Ratio}
use Rattle.pay_words.specs.declared.options.Settings.{Settings}
use Rattle.pay_words.specs.Command.{solving, checking, replaying}
use Rattle.report_text.specs.declared.replay.Replay.{Replay}
use Rattle.report_text.specs.declared.report.Report.{Report}
use Rattle.game_files.specs.declared.fault.GameFault.{GameFault}
use Rattle.game_files.specs.declared.fault.GameFault.TheVariants as faults
use Rattle.game_files.specs.Loads.{Counts, Stands}
use Rattle.game_files.specs.declared.fault.FileId.TheVariants.{Second}
use Rattle.game_files.specs.Causes.{AreRight, IsLoadFault, IsNoGame}
use Rattle.game_files.proofs.RightFiles.{not_long, ok_not_err, same_text}
use Rattle.selfgen_check.specs.declared.fault.CorrFault.{CorrFault}
use Rattle.selfgen_check.specs.declared.text_fault.CorrTextFault.{CorrTextFault}
use Rattle.selfgen_check.specs.declared.text_fault.CorrTextFault.TheVariants.{Bad, Limit, Wide}
use Rattle.selfgen_check.specs.Measures.{corr_of}
use Rattle.selfgen_check.specs.Promises.{Promises}
use Rattle.schedule_core.specs.declared.moves.Schedule.{Schedule}
use Rattle.schedule_core.specs.declared.schedule_fault.ScheduleFault.{ScheduleFault}
use Rattle.schedule_core.specs.declared.schedule_fault.ScheduleFault.TheVariants as schedules
use Rattle.schedule_core.specs.Schedules.{schedule_of}
use Rattle.solve_run.specs.declared.outcome.Outcome.{Outcome}
use Rattle.solve_run.specs.declared.outcome.Status.{Status}
use Rattle.solve_run.specs.declared.outcome.Status.TheVariants.{Settled, Holds, Replayed, Made as MadeStatus, Fails, Usage, Spent, BadInput, Shape, TooLong, ReadFault, Beyond, WriteFault, NoMemory}
use Rattle.solve_run.specs.Problems.{problem_in, row_count}
use Rattle.solve_run.specs.Refusals.{IsOpeningFault, IsSolveFault}
use Rattle.solve_run.specs.Checks.{IsCheckFault, IsCorrFault, IsCorrOf, IsCorrTextFault, IsNoCorr, longest_second}
use Rattle.solve_run.specs.Replays.{IsNoSchedule, IsReplayFault, IsScheduleFault, IsScheduleOf, IsScheduleTextFault}
use Rattle.solve_run.specs.Run.{IsPrinted, IsRight, IsShown, IsStatusOf, IsThrough, IsTold, IsWritten, alone, answered_as, refused_as, with_made, with_replay, with_report}
use Rattle.solve_run.specs.Writing.{Taking}
use Rattle.make_run.specs.declared.made.Made.{Made}
use Rattle.set_operator.specs.declared.row.Verdict.{Verdict}

-- where files that are told make a game, nothing but a fault of the shelf or want of memory stands in its way
abbrev pub FileLaw : Type 0
FileLaw = (told : List ℕ → Option (List ℕ)) (name : List ℕ) (discount : Ratio) (before after : Counts) (r : GameFault) → AreRight told name discount → IsNoGame told name discount before after r
    → (Rose before.faults after.faults → ⊥) → r ≡ faults.NoMemory

pub memory_is_through : (r : GameFault) → r ≡ faults.NoMemory → IsThrough (refused_as r)
memory_is_through r e = subst (λ x. IsThrough (refused_as x)) (sym e) tt

opening_is_through : (told : List ℕ → Option (List ℕ)) (file : List ℕ) (set : Settings) (game : DynamicGame) (r : GameFault) → ((number : ℤ) → IsFirstBeyond (problem_in game set) number → ⊥) → IsOpeningFault (problem_in game set) r → IsThrough (refused_as r)
opening_is_through told file set game (faults.Beyond what number) small h = absurd (small number h.1)
opening_is_through told file set game (faults.BadInput f at) small h = absurd h
opening_is_through told file set game (faults.TooLong f) small h = absurd h
opening_is_through told file set game (faults.ReadFault f) small h = absurd h
opening_is_through told file set game (faults.Shape fault) small h = absurd h
opening_is_through told file set game faults.NoMemory small h = tt

pub solve_fault_is_through : (told : List ℕ → Option (List ℕ)) (file : List ℕ) (set : Settings) (before after : Counts) (r : GameFault) → FileLaw → IsRight told (solving file set) → IsSolveFault told file set before after r
    → (Rose before.faults after.faults → ⊥) → IsThrough (refused_as r)
solve_fault_is_through told file set before after r law right fault calm =
    elim fault [
      | inl none ↦ memory_is_through r (law told file set.discount before after r right.0 none calm)
      | inr opening ↦ opening_is_through told file set opening.0 r (λ number. right.1 opening.0 number opening.1) opening.2
    ]

-- ---- a correspondence
no_text_fault : (told : List ℕ → Option (List ℕ)) (corr : List ℕ) (g : DynamicGame) (c : Promises) (e : CorrTextFault) → (told corr ≡ None → ⊥) → IsCorrOf told corr g c → IsNoCorr told corr g e → ⊥
no_text_fault told corr g c e n is other =
    let same : other.bytes ≡ is.bytes = same_text (told corr) other.bytes is.bytes n other.stands.same is.stands.same in
    ok_not_err (sym is.says ∙ sym (ap (corr_of g) same) ∙ other.says)

load_is_through : (told : List ℕ → Option (List ℕ)) (name bytes : List ℕ) (before after : Counts) (r : GameFault) → (told name ≡ None → ⊥) → Stands told longest_second name bytes
    → (Rose before.faults after.faults → ⊥) → IsLoadFault told longest_second Second name before after r → IsThrough (refused_as r)
load_is_through told name bytes before after (faults.ReadFault f) n is calm h = absurd (calm h.1)
load_is_through told name bytes before after (faults.TooLong f) n is calm h = absurd (not_long (told name) bytes longest_second n is.short is.same h.2)
load_is_through told name bytes before after (faults.BadInput f at) n is calm h = absurd h
load_is_through told name bytes before after (faults.Shape fault) n is calm h = absurd h
load_is_through told name bytes before after (faults.Beyond what number) n is calm h = absurd h
load_is_through told name bytes before after faults.NoMemory n is calm h = tt

text_is_through : (told : List ℕ → Option (List ℕ)) (corr : List ℕ) (g : DynamicGame) (c : Promises) (r : GameFault) → (told corr ≡ None → ⊥) → IsCorrOf told corr g c → IsCorrTextFault told corr g r → IsThrough (refused_as r)
text_is_through told corr g c (faults.BadInput f at) n is h = absurd (no_text_fault told corr g c (Bad at) n is h.1)
text_is_through told corr g c (faults.Beyond what number) n is h =
    elim h [
      | inl limit ↦ absurd (no_text_fault told corr g c (Limit what number limit.0) n is limit.1)
      | inr wide ↦ absurd (no_text_fault told corr g c (Wide what number) n is wide)
    ]
text_is_through told corr g c (faults.TooLong f) n is h = absurd h
text_is_through told corr g c (faults.ReadFault f) n is h = absurd h
text_is_through told corr g c (faults.Shape fault) n is h = absurd h
text_is_through told corr g c faults.NoMemory n is h = tt

corr_is_through : (told : List ℕ → Option (List ℕ)) (corr : List ℕ) (g : DynamicGame) (c : Promises) (before after : Counts) (r : GameFault) → (told corr ≡ None → ⊥) → IsCorrOf told corr g c
    → (Rose before.faults after.faults → ⊥) → IsCorrFault told corr g before after r → IsThrough (refused_as r)
corr_is_through told corr g c before after r n is calm h =
    elim h [
      | inl load ↦ load_is_through told corr is.bytes before after r n is.stands calm load
      | inr text ↦ text_is_through told corr g c r n is text
    ]

pub check_fault_is_through : (told : List ℕ → Option (List ℕ)) (file corr : List ℕ) (discount : Ratio) (before after : Counts) (r : GameFault) → FileLaw → IsRight told (checking file corr discount)
    → IsCheckFault told file corr discount before after r → (Rose before.faults after.faults → ⊥) → IsThrough (refused_as r)
check_fault_is_through told file corr discount before after r law right fault calm =
    elim fault [
      | inl none ↦ memory_is_through r (law told file discount before after r right.0 none calm)
      | inr second ↦
          let is = right.2 second.0 second.1 in
          corr_is_through told corr second.0 is.0 before after r right.1 is.1 calm second.2.fault
    ]

-- ---- a schedule
no_schedule_fault : (told : List ℕ → Option (List ℕ)) (name : List ℕ) (rows : ℕ) (s : Schedule) (e : ScheduleFault) → (told name ≡ None → ⊥) → IsScheduleOf told name rows s → IsNoSchedule told name rows e → ⊥
no_schedule_fault told name rows s e n is other =
    let same : other.bytes ≡ is.bytes = same_text (told name) other.bytes is.bytes n other.stands.same is.stands.same in
    ok_not_err (sym is.says ∙ sym (ap (schedule_of rows) same) ∙ other.says)

schedule_text_is_through : (told : List ℕ → Option (List ℕ)) (name : List ℕ) (rows : ℕ) (s : Schedule) (r : GameFault) → (told name ≡ None → ⊥) → IsScheduleOf told name rows s → IsScheduleTextFault told name rows r → IsThrough (refused_as r)
schedule_text_is_through told name rows s (faults.BadInput f at) n is h = absurd (no_schedule_fault told name rows s (schedules.Bad at) n is h.1)
schedule_text_is_through told name rows s (faults.Beyond what number) n is h = absurd (no_schedule_fault told name rows s (schedules.Limit what number h.0) n is h.1)
schedule_text_is_through told name rows s (faults.TooLong f) n is h = absurd h
schedule_text_is_through told name rows s (faults.ReadFault f) n is h = absurd h
schedule_text_is_through told name rows s (faults.Shape fault) n is h = absurd h
schedule_text_is_through told name rows s faults.NoMemory n is h = tt

schedule_is_through : (told : List ℕ → Option (List ℕ)) (name : List ℕ) (rows : ℕ) (s : Schedule) (before after : Counts) (r : GameFault) → (told name ≡ None → ⊥) → IsScheduleOf told name rows s
    → (Rose before.faults after.faults → ⊥) → IsScheduleFault told name rows before after r → IsThrough (refused_as r)
schedule_is_through told name rows s before after r n is calm h =
    elim h [
      | inl load ↦ load_is_through told name is.bytes before after r n is.stands calm load
      | inr text ↦ schedule_text_is_through told name rows s r n is text
    ]

pub replay_fault_is_through : (told : List ℕ → Option (List ℕ)) (file schedule : List ℕ) (set : Settings) (before after : Counts) (r : GameFault) → FileLaw → IsRight told (replaying file schedule set)
    → IsReplayFault told file schedule set before after r → (Rose before.faults after.faults → ⊥) → IsThrough (refused_as r)
replay_fault_is_through told file schedule set before after r law right fault calm =
    elim fault [
      | inl none ↦ memory_is_through r (law told file set.discount before after r right.0.0 none calm)
      | inr rest ↦ elim rest [
        | inl opening ↦ opening_is_through told file set opening.0 r (λ number. right.0.1 opening.0 number opening.1) opening.2
        | inr second ↦
            let is = right.2 second.0 second.1 in
            schedule_is_through told schedule (row_count second.0 set) is.0 before after r right.1 is.1 calm second.3.fault
      ]
    ]

-- ---- what was written
ended : (verdict : Verdict) (sweeps : ℕ) (status : Status) → IsStatusOf verdict sweeps status → IsThrough status
ended verdict sweeps Settled h = tt
ended verdict sweeps (Spent n row) h = tt
ended verdict sweeps Holds h = absurd h
ended verdict sweeps Replayed h = absurd h
ended verdict sweeps MadeStatus h = absurd h
ended verdict sweeps (Fails fault) h = absurd h
ended verdict sweeps (Usage index) h = absurd h
ended verdict sweeps (BadInput file at) h = absurd h
ended verdict sweeps (Shape fault) h = absurd h
ended verdict sweeps (TooLong file) h = absurd h
ended verdict sweeps (ReadFault file) h = absurd h
ended verdict sweeps (Beyond what number) h = absurd h
ended verdict sweeps (WriteFault written) h = absurd h
ended verdict sweeps NoMemory h = absurd h

ends_through : (end other : Outcome) → end ≡ other → IsThrough other.status → IsThrough end.status
ends_through end other e h = subst (λ (o : Outcome). IsThrough o.status) (sym e) h

pub written_is_through : (report : Report) (sink : Taking) (end : Outcome) → IsWritten report sink end → (Rose sink.faults_before sink.faults_after → ⊥) → IsThrough end.status
written_is_through report sink end wrote quiet =
    elim wrote [
      | inl all ↦ ends_through end (with_report all.0 report) all.1 (ended report.verdict report.sweeps all.0 all.3)
      | inr rest ↦ elim rest [
        | inl part ↦ absurd (quiet part.2.cause)
        | inr memory ↦ ends_through end (alone NoMemory) memory.0 tt
      ]
    ]

answer_is_through : (answer : Option CorrFault) → IsThrough (answered_as answer)
answer_is_through None = tt
answer_is_through (Some fault) = tt

pub told_is_through : (answer : Option CorrFault) (sink : Taking) (end : Outcome) → IsTold answer sink end → (Rose sink.faults_before sink.faults_after → ⊥) → IsThrough end.status
told_is_through answer sink end told quiet =
    elim told [
      | inl all ↦ ends_through end (alone (answered_as answer)) all.0 (answer_is_through answer)
      | inr rest ↦ elim rest [
        | inl part ↦ absurd (quiet part.2.cause)
        | inr memory ↦ ends_through end (alone NoMemory) memory.0 tt
      ]
    ]

pub shown_is_through : (replay : Replay) (sink : Taking) (end : Outcome) → IsShown replay sink end → (Rose sink.faults_before sink.faults_after → ⊥) → IsThrough end.status
shown_is_through replay sink end shown quiet =
    elim shown [
      | inl all ↦ ends_through end (with_replay Replayed replay) all.0 tt
      | inr rest ↦ elim rest [
        | inl part ↦ absurd (quiet part.2.cause)
        | inr memory ↦ ends_through end (alone NoMemory) memory.0 tt
      ]
    ]

pub printed_is_through : (made : Made) (sink : Taking) (end : Outcome) → IsPrinted made sink end → (Rose sink.faults_before sink.faults_after → ⊥) → IsThrough end.status
printed_is_through made sink end printed quiet =
    elim printed [
      | inl all ↦ ends_through end (with_made MadeStatus made) all.0 tt
      | inr rest ↦ elim rest [
        | inl part ↦ absurd (quiet part.2.cause)
        | inr memory ↦ ends_through end (alone NoMemory) memory.0 tt
      ]
    ]
