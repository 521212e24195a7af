use Rattle.std.proofs.Common.{◌≡◌, ℕ, List, [], get_or, drop, ap, ◌∙◌, arith}
use Rattle.level_table.specs.declared.reason.Reason.TheVariants.{Successor}
use Rattle.report_text.proofs.noted.successor.Goals as goal

pub returns-clause-read : goal.returns-clause-read
returns-clause-read c = λ t rest l e.
    let first = λ (ws : List (List ℕ)). get_or ws 0 [] in
    let r : c.small-state.result ≡ t = c.small-state.ensures.read t (ap first e) (omega arith) (omega arith) in
    (ap (λ (n : ℕ). Successor n) r, c.small-state.ensures.rest ∙ ap (drop 1) e)
