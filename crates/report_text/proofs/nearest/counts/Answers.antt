use Rattle.std.proofs.Common.{◌≡◌, ℕ, List, [], ◌∷◌, get_or, drop, ap, ◌∙◌, arith, rules, SFits, ℤ}
use Rattle.std.specs.Prelude.{codes, decimal}
use Rattle.std.specs.Fmt.{signed_decimal}
use Rattle.std.specs.Int.{w128}
use Rattle.std.proofs.lemmas.Int.{ints, to_z-of_z}
use Rattle.report_text.proofs.Sizes.{unit_few}
use Rattle.report_text.proofs.nearest.counts.Goals as goal

pub returns-clause-read : goal.returns-clause-read
returns-clause-read c = λ unit slack sweeps solves rest u1 u2 s1 s2 w e.
    let first = λ (ws : List (List ℕ)). get_or ws 0 [] in
    let d1 : c.skip.new.self ≡ signed_decimal unit ∷ codes "slack" ∷ decimal slack ∷ codes "sweeps" ∷ decimal sweeps ∷ codes "solves" ∷ decimal solves ∷ rest = c.skip.ensures ∙ ap (drop 1) e in
    let a : c.whole-unit.result ≡ unit = c.whole-unit.ensures.read unit (ap first d1) (unit_few unit u1 u2) u1 u2 in
    let d2 : c.whole-unit.new.self ≡ codes "slack" ∷ decimal slack ∷ codes "sweeps" ∷ decimal sweeps ∷ codes "solves" ∷ decimal solves ∷ rest = c.whole-unit.ensures.rest ∙ ap (drop 1) d1 in
    let d3 : c.skip-2.new.self ≡ decimal slack ∷ codes "sweeps" ∷ decimal sweeps ∷ codes "solves" ∷ decimal solves ∷ rest = c.skip-2.ensures ∙ ap (drop 1) d2 in
    let b : c.large-slack.result ≡ slack = c.large-slack.ensures.read slack (ap first d3) s1 s2 in
    let d4 : c.large-slack.new.self ≡ codes "sweeps" ∷ decimal sweeps ∷ codes "solves" ∷ decimal solves ∷ rest = c.large-slack.ensures.rest ∙ ap (drop 1) d3 in
    let d5 : c.skip-3.new.self ≡ decimal sweeps ∷ codes "solves" ∷ decimal solves ∷ rest = c.skip-3.ensures ∙ ap (drop 1) d4 in
    let g : c.large-sweeps.result ≡ sweeps = c.large-sweeps.ensures.read sweeps (ap first d5) (omega arith) (omega arith) in
    let d6 : c.large-sweeps.new.self ≡ codes "solves" ∷ decimal solves ∷ rest = c.large-sweeps.ensures.rest ∙ ap (drop 1) d5 in
    let d7 : c.skip-4.new.self ≡ decimal solves ∷ rest = c.skip-4.ensures ∙ ap (drop 1) d6 in
    let f : SFits w128 c.whole-unit.result = first_of (search rules, search (rules, c.whole-unit.ensures.within), omega (arith, ints, c.whole-unit.ensures.within)) in (
      ap (λ (x : ℤ). (x, c.large-slack.result, c.large-sweeps.result)) (to_z-of_z w128 c.whole-unit.result f ∙ a) ∙ ap (λ (n : ℕ). (unit, n, c.large-sweeps.result)) b ∙ ap (λ (n : ℕ). (unit, slack, n)) g,
      c.skip-5.ensures ∙ ap (drop 1) d7,
    )
