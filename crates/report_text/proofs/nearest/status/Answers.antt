use Rattle.std.proofs.Common.{◌≡◌, ℕ, List, [], ◌∷◌, get_or, drop, sym, ap, ◌∙◌}
use Rattle.std.specs.Prelude.{codes}
use Rattle.report_text.specs.ReportText.{status_word}
use Rattle.report_text.proofs.nearest.status.Goals as goal

pub returns : goal.returns
returns c = λ v rest e.
    let e1 : c.skip.new.self ≡ codes "1" ∷ codes "status" ∷ status_word v ∷ rest = c.skip.ensures ∙ ap (drop 1) e in
    let e2 : c.skip-2.new.self ≡ codes "status" ∷ status_word v ∷ rest = c.skip-2.ensures ∙ ap (drop 1) e1 in
    let e3 : c.skip-3.new.self ≡ status_word v ∷ rest = c.skip-3.ensures ∙ ap (drop 1) e2 in
    let w : get_or c.skip-3.new.self 0 [] ≡ status_word v = ap (λ (ws : List (List ℕ)). get_or ws 0 []) e3 in (
      ((λ t. sym w ∙ c.next_is-settled.ensures.0 t), (λ k. c.next_is-settled.ensures.1 (w ∙ k))),
      c.skip-4.ensures ∙ ap (drop 1) e3,
    )
