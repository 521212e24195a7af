-- What a report says of the problem that was solved.
use Rattle.std.specs.Prelude.{◌≡◌, ℕ, ◌<◌, [], List, Option, length, slice_index}
use Rattle.game_model.specs.Game.{DynamicGame, states, unit_of}
use Rattle.level_table.specs.Problem.{Problem, direction_count}
use Rattle.level_table.specs.Levels.{opening_table}
use Rattle.level_table.specs.Tables.{HasSmallOpening}
use Rattle.pay_words.specs.declared.options.Settings.{Settings}
use Rattle.game_files.specs.Causes.{IsGameOf}
use Rattle.solve_run.specs.Inner.{IsInnerShown, inner_number}
use Rattle.solve_run.specs.Problems.{problem_in}
use Rattle.report_text.specs.ReportText.{discount_at}
use Rattle.report_text.specs.declared.report.Report.{Report}
use Rattle.sweep_run.specs.Runs.{IsRunFrom}
use Rattle.sweep_run.specs.declared.run.Run.{Run}

-- the run in a report
abbrev pub run_of : Report → Run
run_of report = record { levels = report.levels; notes = report.notes; sweeps = report.sweeps; verdict = report.verdict }

-- The report is that of a run from the opening without notes.
pub record IsReportOf (p : Problem) (slack budget : ℕ) (report : Report) : Type 0 where
  pub players : report.players ≡ p.game.players
  pub states_shown : report.states ≡ states p.game
  pub directions : report.directions ≡ direction_count p
  pub one_discount_each : length report.discounts ≡ p.game.players
  pub discounts : (i : ℕ) → i < p.game.players → discount_at report.discounts i ≡ (slice_index p.game.discounts i, p.game.q)
  pub unit : report.unit ≡ unit_of p.game p.grid
  pub slack_shown : report.slack ≡ slack
  pub run : IsRunFrom p (opening_table p) [] slack budget (run_of report)

-- The report is that of the game that the files make, with these settings, and shows its inner sets.
pub record IsAnswer (told : List ℕ → Option (List ℕ)) (file : List ℕ) (set : Settings) (report : Report) : Type 0 where
  pub game : DynamicGame
  pub is_game : IsGameOf told file set.discount game
  pub small : HasSmallOpening (problem_in game set)
  pub is_report : IsReportOf (problem_in game set) set.slack set.budget report
  pub inner : IsInnerShown game (inner_number set.inner) report.inner report.numbers
