use Rattle.std.proofs.Common.{length, refl, sym}
use Rattle.std.proofs.lemmas.Bool.{true≢false}
use Rattle.report_lines.proofs.Joined.{parts_are, are_parts_of, too_short}
use Rattle.report_lines.proofs.spelled.has_parts.Goals as goal

pub returns-then-end-word : goal.returns-then-end-word
returns-then-end-word c = (
  (λ t. parts_are c.args.word.now c.args.first.now c.args.second.now (length c.args.first.now) refl c.if-end-word.true (c.are_parts.ensures.0 t)),
  (λ e. c.are_parts.ensures.1 (are_parts_of c.args.word.now c.args.first.now c.args.second.now (length c.args.first.now) refl e)),
)

pub returns-else-end-word : goal.returns-else-end-word
returns-else-end-word c =
    ((λ t. absurd (true≢false (sym t))), (λ e. absurd (too_short c.args.word.now c.args.first.now c.args.second.now (length c.args.first.now) refl c.if-end-word.false e)))
