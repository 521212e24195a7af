use Rattle.std.proofs.Common.{◌≡◌, ℕ, ◌+◌, ◌≤◌, List, ◌++◌, length}
use Rattle.level_table.specs.declared.reason.Reason.{Reason}
use Rattle.report_text.specs.Reading.{EndsReasons, whys_words}
use Rattle.report_text.specs.Rules.{KeepReasons}
use Rattle.report_text.proofs.Kept.{LeftReasons}
use Rattle.report_text.proofs.noted.reasons.Given as goal

abbrev pub invariant-loop-kept : goal.invariant-loop-kept
invariant-loop-kept l = record {
  kept : length l.reasons.list ≡ l._kept;
  room : length l.reasons.list + l.reasons.spare ≡ l.count;
  keeps : KeepReasons l.sizes l.reasons.list;
  read : (s : ℕ) (list : List Reason) (rest : List (List ℕ)) → length list ≤ 4096 → KeepReasons l.sizes list → EndsReasons rest → l.fn.words ≡ whys_words s 0 list ++ rest → LeftReasons l.sizes s list l.reasons.list rest l.words;
}
