use Rattle.std.proofs.Common.{drop, ap, ◌∙◌}
use Rattle.report_text.proofs.nearest.level.Goals as goal

pub returns-clause-read : goal.returns-clause-read
returns-clause-read c = λ s k l rest small e.
    c.level_there.ensures.read l rest small (c.skip-3.ensures ∙ ap (drop 1) (c.skip-2.ensures ∙ ap (drop 1) (c.skip.ensures ∙ ap (drop 1) e)))
