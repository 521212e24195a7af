use Rattle.std.proofs.Common.{◌≡◌, ℕ, ◌≤◌, List, ◌++◌, length}
use Rattle.level_table.specs.declared.reason.Reason.{Reason}
use Rattle.report_text.specs.Reading.{EndsReasons, whys_words}
use Rattle.report_text.specs.Rules.{KeepReasons}
use Rattle.report_text.proofs.Kept.{LeftReasons}
use Rattle.report_text.proofs.noted.count_of.Given as goal

abbrev pub invariant-loop-count : goal.invariant-loop-count
invariant-loop-count l = record {
  read : (s : ℕ) (list : List Reason) (rest : List (List ℕ)) → length list ≤ 4096 → KeepReasons l.sizes list → EndsReasons rest → l.words ≡ whys_words s 0 list ++ rest
      → (taken : List Reason) × (length taken ≡ l.count) × LeftReasons l.sizes s list taken rest l.ahead;
}
