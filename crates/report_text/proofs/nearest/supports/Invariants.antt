use Rattle.std.proofs.Common.{ℕ, ◌≤◌, List, length, take}
use Rattle.std.specs.Prelude.{All}
use Rattle.set_operator.specs.declared.row.Support.{Support}
use Rattle.report_text.specs.ReportText.{IsFraction}
use Rattle.report_text.specs.Reading.{BeginWithSupports}
use Rattle.report_text.specs.Rules.{AreSupports}
use Rattle.report_text.proofs.Supports.{LeftSupports}
use Rattle.report_text.proofs.nearest.supports.Given as goal

abbrev pub invariant-loop-row : goal.invariant-loop-row
invariant-loop-row l = record {
  few : length l.supports ≤ l.row;
  keeps : AreSupports l.sizes.players 0 (take l.row l.levels.levels) l.supports;
  printable : All (λ s. IsFraction s.point.num s.point.den) l.supports;
  read : (ss : List Support) (rest : List (List ℕ)) → AreSupports l.sizes.players 0 l.levels.levels ss → BeginWithSupports l.sizes ss l.fn.words rest → LeftSupports l.sizes l.levels.levels ss l.supports l.row rest l.words;
}
