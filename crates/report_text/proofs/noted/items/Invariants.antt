use Rattle.std.proofs.Common.{◌≡◌, ℕ, ◌≤◌, List, ◌++◌, length}
use Rattle.level_table.specs.declared.reason.Item.{Item}
use Rattle.report_text.specs.Reading.{EndsItems}
use Rattle.report_text.specs.ReportText.{items_words}
use Rattle.report_text.specs.Rules.{KeepItems}
use Rattle.report_text.proofs.Kept.{LeftItems}
use Rattle.report_text.proofs.noted.items.Given as goal

abbrev pub invariant-loop-kept : goal.invariant-loop-kept
invariant-loop-kept l = record {
  count : length l.items ≡ l._kept;
  keeps : KeepItems l.sizes l.items;
  read : (list : List Item) (rest : List (List ℕ)) → 1 ≤ length list → length list ≤ 4 → KeepItems l.sizes list → EndsItems rest → l.fn.words ≡ items_words list ++ rest → LeftItems l.sizes list l.items rest l.words;
}
