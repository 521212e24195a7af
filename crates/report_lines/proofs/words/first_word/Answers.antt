use Rattle.std.proofs.Common.{ℕ, List, [], get_or, drop, sym, ap, ◌∙◌, arith}
use Rattle.report_lines.specs.Words.{is_break, words_of}
use Rattle.report_lines.proofs.Pieces.{split_none, split_first}
use Rattle.report_lines.proofs.words.first_word.Goals as goal

pub returns-then-end-bytes-clause-first : goal.returns-then-end-bytes-clause-first
returns-then-end-bytes-clause-first c = sym (ap (λ (ws : List (List ℕ)). get_or ws 0 []) (split_none is_break c.args.bytes.now c.word_run-end.result c.word_run-end.ensures.value (omega arith)))

pub returns-then-end-bytes-clause-rest : goal.returns-then-end-bytes-clause-rest
returns-then-end-bytes-clause-rest c = sym (ap (λ (ws : List (List ℕ)). drop 1 ws) (split_none is_break c.args.bytes.now c.word_run-end.result c.word_run-end.ensures.value (omega arith)))

pub returns-else-end-bytes-clause-first : goal.returns-else-end-bytes-clause-first
returns-else-end-bytes-clause-first c =
    c.up_to.ensures
    ∙ sym (ap (λ (ws : List (List ℕ)). get_or ws 0 []) (split_first is_break c.args.bytes.now c.word_run-end.result c.word_run-end.ensures.value c.word_run-end.ensures.within (λ e. c.if-end-bytes.false e)))

pub returns-else-end-bytes-clause-rest : goal.returns-else-end-bytes-clause-rest
returns-else-end-bytes-clause-rest c =
    ap words_of c.behind.ensures
    ∙ sym (ap (λ (ws : List (List ℕ)). drop 1 ws) (split_first is_break c.args.bytes.now c.word_run-end.result c.word_run-end.ensures.value c.word_run-end.ensures.within (λ e. c.if-end-bytes.false e)))
