use Rattle.std.proofs.Common.{◌≡◌, ℕ, ◌+◌, ◌*◌, ◌/◌, ◌%◌, ◌<◌, List, [], ◌∷◌, get_or, drop, ap, subst, ◌∙◌, arith, rules, SFits}
use Rattle.std.specs.Prelude.{decimal}
use Rattle.std.specs.Fmt.{signed_decimal}
use Rattle.std.specs.Int.{w64}
use Rattle.std.proofs.lemmas.Int.{to_z-of_z}
use Rattle.level_table.specs.declared.level.Level.TheVariants.{At}
use Rattle.level_table.specs.Levels.{level_at}
use Rattle.report_text.specs.ReportText.{reached_word}
use Rattle.report_text.proofs.Verdicts.{at_same, row_parts, stopped_same}
use Rattle.report_text.proofs.nearest.stop.Goals as goal

pub returns-in-At-clause-read : goal.returns-in-At-clause-read
returns-in-At-clause-read c = λ row level reached rest k e.
    let n = c.args.sizes.directions in
    let first = λ (ws : List (List ℕ)). get_or ws 0 [] in
    let known : row < c.args.sizes.states * n = subst (λ m. row < m * n) c.requires.levels.states (subst (λ m. row < c.args.levels.now.states * m) c.requires.levels.directions k.known) in
    let p = row_parts row c.args.sizes.states n known in
    let d1 : c.skip.new.self ≡ decimal (row / n) ∷ decimal (row % n) ∷ signed_decimal level ∷ reached_word reached ∷ rest = c.skip.ensures ∙ ap (drop 1) e in
    let a : c.small-state.result ≡ row / n = c.small-state.ensures.read (row / n) (ap first d1) (omega arith) (omega (arith, p.1)) in
    let d2 : c.small-state.new.self ≡ decimal (row % n) ∷ signed_decimal level ∷ reached_word reached ∷ rest = c.small-state.ensures.rest ∙ ap (drop 1) d1 in
    let b : c.small-dir.result ≡ row % n = c.small-dir.ensures.read (row % n) (ap first d2) (omega arith) (omega (arith, p.2)) in
    let d3 : c.small-dir.new.self ≡ signed_decimal level ∷ reached_word reached ∷ rest = c.small-dir.ensures.rest ∙ ap (drop 1) d2 in
    let d4 : c.skip-2.new.self ≡ reached_word reached ∷ rest = c.skip-2.ensures ∙ ap (drop 1) d3 in
    let r = c.reached-reached.ensures.read reached rest k.short d4 in
    let same : c.small-state.result * n + c.small-dir.result ≡ row = ap (λ (x : ℕ). x * n + c.small-dir.result) a ∙ ap (λ (x : ℕ). row / n * n + x) b ∙ p.3 in
    let f : SFits w64 c.in-At.level = search rules in
    let there : At c.in-At.level ≡ At level = c.in-At.ensures ∙ ap (level_at c.args.levels.now) same ∙ k.kept in
    (stopped_same _ row _ level _ reached same (to_z-of_z w64 c.in-At.level f ∙ at_same c.in-At.level level there) r.0, r.1)
