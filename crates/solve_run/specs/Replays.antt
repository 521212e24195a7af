-- What a replay answers of the schedule in a file, and why it answers nothing.
use Rattle.std.specs.Prelude.{◌≡◌, ◌⊎◌, ℕ, ◌-◌, List, [], length, Option, Ok, Err}
use Rattle.direction_set.specs.DirectionTable.{DirectionTable}
use Rattle.game_model.specs.Game.{DynamicGame}
use Rattle.level_table.specs.Levels.{Table}
use Rattle.level_table.specs.Tables.{HasSmallOpening, IsOpening}
use Rattle.pay_words.specs.declared.options.Settings.{Settings}
use Rattle.schedule_core.specs.declared.moves.Schedule.{Schedule}
use Rattle.schedule_core.specs.declared.schedule_fault.ScheduleFault.{ScheduleFault}
use Rattle.schedule_core.specs.declared.schedule_fault.ScheduleFault.TheVariants.{Bad, Limit, NoMemory as OutOfMemory}
use Rattle.schedule_core.specs.Core.{Core}
use Rattle.schedule_core.specs.Frame.{frame_from}
use Rattle.schedule_core.specs.Replays.{IsReplay}
use Rattle.schedule_core.specs.Runs.{AllBound, started}
use Rattle.schedule_core.specs.Schedules.{schedule_of}
use Rattle.schedule_core.specs.State.{words_in}
use Rattle.report_text.specs.declared.replay.Replay.{Replay}
use Rattle.game_files.specs.declared.fault.FileId.TheVariants.{Second}
use Rattle.game_files.specs.declared.fault.GameFault.{GameFault}
use Rattle.game_files.specs.declared.fault.GameFault.TheVariants.{BadInput, TooLong, ReadFault, Shape, Beyond, NoMemory}
use Rattle.game_files.specs.Loads.{Counts, Stands}
use Rattle.game_files.specs.Causes.{IsGameOf, IsLoadFault, IsNoGame}
use Rattle.solve_run.specs.Checks.{IsSecondFault, longest_second}
use Rattle.solve_run.specs.Problems.{directions_of, problem_in, row_count}
use Rattle.solve_run.specs.Refusals.{IsOpeningFault}

-- the text under the name is this schedule of so many rows
pub record IsScheduleOf (told : List ℕ → Option (List ℕ)) (name : List ℕ) (rows : ℕ) (s : Schedule) : Type 0 where
  pub bytes : List ℕ
  pub stands : Stands told longest_second name bytes
  pub says : schedule_of rows bytes ≡ Ok s

-- the text under the name has this first fault
pub record IsNoSchedule (told : List ℕ → Option (List ℕ)) (name : List ℕ) (rows : ℕ) (e : ScheduleFault) : Type 0 where
  pub bytes : List ℕ
  pub stands : Stands told longest_second name bytes
  pub says : schedule_of rows bytes ≡ Err e

-- why the text gives no schedule
abbrev pub IsScheduleTextFault : (List ℕ → Option (List ℕ)) → List ℕ → ℕ → GameFault → Type 0
IsScheduleTextFault told name rows (BadInput file at) = (file ≡ Second) × IsNoSchedule told name rows (Bad at)
IsScheduleTextFault told name rows (Beyond what number) = (at : ℕ) × IsNoSchedule told name rows (Limit what number at)
IsScheduleTextFault told name rows (TooLong file) = ⊥
IsScheduleTextFault told name rows (ReadFault file) = ⊥
IsScheduleTextFault told name rows (Shape fault) = ⊥
IsScheduleTextFault told name rows NoMemory = Unit {0}

-- why the file gives none
abbrev pub IsScheduleFault : (List ℕ → Option (List ℕ)) → List ℕ → ℕ → Counts → Counts → GameFault → Type 0
IsScheduleFault told name rows before after r = IsLoadFault told longest_second Second name before after r ⊎ IsScheduleTextFault told name rows r

-- Why a replay answers nothing: there is no game, or no opening, or else no schedule.
abbrev pub IsReplayFault : (List ℕ → Option (List ℕ)) → List ℕ → List ℕ → Settings → Counts → Counts → GameFault → Type 0
IsReplayFault told file schedule set before after r =
    IsNoGame told file set.discount before after r
    ⊎ ((g : DynamicGame) × IsGameOf told file set.discount g × IsOpeningFault (problem_in g set) r)
    ⊎ ((g : DynamicGame) × IsGameOf told file set.discount g × HasSmallOpening (problem_in g set)
    × IsSecondFault told file before after (IsScheduleFault told schedule (row_count g set) before after r))

-- The replay is what the moves of the schedule make of the opening: the words and notes of the run of these moves. Each level bounds.
pub record IsMadeBy (game : DynamicGame) (dirs : DirectionTable) (grid : ℕ) (opening : Table) (moves : Schedule) (replay : Replay) : Type 0 where
  pub core : Core
  pub run : IsReplay (started (frame_from game dirs grid opening) (moves.workers - 1) []) moves.moves core
  pub bound : AllBound core
  pub count : replay.moves ≡ length moves.moves
  pub words : replay.levels ≡ words_in core
  pub notes : replay.notes.list ≡ core.notes

-- the same of the schedule in a file and the game that the files make
pub record IsReplayed (told : List ℕ → Option (List ℕ)) (file schedule : List ℕ) (set : Settings) (replay : Replay) : Type 0 where
  pub game : DynamicGame
  pub is_game : IsGameOf told file set.discount game
  pub small : HasSmallOpening (problem_in game set)
  pub opening : Table
  pub is_opening : IsOpening (problem_in game set) opening
  pub moves : Schedule
  pub is_schedule : IsScheduleOf told schedule (row_count game set) moves
  pub made : IsMadeBy game (directions_of set) set.grid opening moves replay

-- how the first fault of a text is told
abbrev pub schedule_refused : ScheduleFault → GameFault
schedule_refused (Bad at) = BadInput Second at
schedule_refused (Limit what number at) = Beyond what number
schedule_refused OutOfMemory = NoMemory
