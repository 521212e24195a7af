use Rattle.std.proofs.Common.{◌≡◌, ℕ, List, [], ◌∷◌, get_or, drop, ap, ◌∙◌, arith}
use Rattle.std.specs.Prelude.{decimal}
use Rattle.level_table.specs.declared.reason.Reason.TheVariants.{Deviation}
use Rattle.report_text.proofs.noted.deviation.Goals as goal

pub returns-clause-read : goal.returns-clause-read
returns-clause-read c = λ i b t rest li lb lt e.
    let first = λ (ws : List (List ℕ)). get_or ws 0 [] in
    let p : c.small-player.result ≡ i = c.small-player.ensures.read i (ap first e) (omega arith) (omega arith) in
    let e1 : c.small-player.new.self ≡ decimal b ∷ decimal t ∷ rest = c.small-player.ensures.rest ∙ ap (drop 1) e in
    let q : c.small-strategy.result ≡ b = c.small-strategy.ensures.read b (ap first e1) (omega arith) (omega arith) in
    let e2 : c.small-strategy.new.self ≡ decimal t ∷ rest = c.small-strategy.ensures.rest ∙ ap (drop 1) e1 in
    let r : c.small-state.result ≡ t = c.small-state.ensures.read t (ap first e2) (omega arith) (omega arith) in (
      ap (λ (n : ℕ). Deviation n c.small-strategy.result c.small-state.result) p ∙ ap (λ (n : ℕ). Deviation i n c.small-state.result) q ∙ ap (λ (n : ℕ). Deviation i b n) r,
      c.small-state.ensures.rest ∙ ap (drop 1) e2,
    )
