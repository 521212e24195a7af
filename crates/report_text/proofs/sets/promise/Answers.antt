use Rattle.std.proofs.Common.{◌∙◌, ◌++◌, ap, List, ℕ, map}
use Rattle.std.specs.Prelude.{decimal}
use Rattle.std.proofs.lemmas.Result.{on_ok_weaker}
use Rattle.report_text.specs.ReportText.{blanked, outcome_word}
use Rattle.report_text.proofs.SetLemmas.{promise_from_words}
use Rattle.report_text.proofs.sets.promise.Goals as goal

pub returns : goal.returns
returns c =
    on_ok_weaker c.punishments.result
    (λ last. promise_from_words c.args.profile c.args.entry.now c.args.out.now.items c.word.new.out.items c.number.new.out.items c.word-2.new.out.items c.outcomes.new.out.items c.word-3.new.out.items c.punishments.new.out.items
    c.in_ok-word.ensures c.in_ok-number.ensures c.in_ok-word-2.ensures
    (c.in_ok-outcomes.ensures ∙ ap (λ (l : List (ℕ × ℕ)). c.word-2.new.out.items ++ blanked (map outcome_word l)) c.lottery.ensures)
    c.in_ok-word-3.ensures
    (last ∙ ap (λ (ps : List ℕ). c.word-3.new.out.items ++ blanked (map decimal ps)) c.punish.ensures))
    c.punishments.ensures
