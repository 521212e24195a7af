use Rattle.std.proofs.Common.{drop, ap, ◌∙◌}
use Rattle.report_text.proofs.noted.why.Goals as goal

pub returns-clause-read : goal.returns-clause-read
returns-clause-read c = λ s a r rest k n e.
    c.reason.ensures.read r rest k n (c.skip-3.ensures ∙ ap (drop 1) (c.skip-2.ensures ∙ ap (drop 1) (c.skip.ensures ∙ ap (drop 1) e)))
