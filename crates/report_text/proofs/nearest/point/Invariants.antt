use Rattle.std.proofs.Common.{◌≡◌, ℕ, ◌<◌, ◌^◌, List, ◌++◌, length, pos, ◌≤ℤ◌}
use Rattle.lp_core.specs.declared.Point.{Point}
use Rattle.game_model.specs.SelfGeneration.{part}
use Rattle.report_text.specs.ReportText.{AreFractionWords}
use Rattle.report_text.specs.Reading.{IsPart, ratio_at}
use Rattle.report_text.specs.Rules.{IsShortPoint}
use Rattle.report_text.proofs.PointLoop.{ReadParts}
use Rattle.report_text.proofs.nearest.point.Given as goal

abbrev pub invariant-loop-i : goal.invariant-loop-i
invariant-loop-i l = record {
  three : length l.parts ≡ 3;
  common : (pos 1 ≤ℤ l.den) × (l.den ≤ℤ pos (2 ^ 20));
  parts : (k : ℕ) → k < 3 → IsPart l.den (ratio_at l.parts k);
  read : (y : Point) (words rest : List (List ℕ)) (h : IsShortPoint l.players y) → AreFractionWords l.players (part y.num) (λ i. y.den) words → l.fn.words ≡ words ++ rest
      → ReadParts y h.denominator words rest l.i l.parts l.den l.words;
}
