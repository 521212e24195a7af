use Rattle.std.proofs.Common.{◌≡◌, ◌-◌, ap, refl, subst, ◌∙◌}
use Rattle.lp_core.specs.Bounds.{IsCut, IsMissed, left_entry, left_side}
use Rattle.lp_core.specs.Lines.{line_at}
use Rattle.lp_core.specs.Planar.{half_line, lines_of, pivot_of, reach_of}
use Rattle.lp_core.proofs.edge.Edge.with_row.Goals as goal

pub returns-in-Some : goal.returns-in-Some
returns-in-Some c =
    let v = pivot_of c.args.self.now in
    let k = 1 - c.args.self.now.place in
    let lines = lines_of c.args.rows.now in
    let line : half_line c.known_at.result ≡ line_at lines c.args.l = c.known_at.ensures in
    let entry = c.cut.ensures.entry ∙ ap (λ x. left_entry v x k) line in
    let side = c.cut.ensures.side ∙ ap (λ x. left_side v x) line in
    subst (λ z. IsCut (reach_of c.args.ends) z (left_side v (line_at lines c.args.l)) c.args.l (reach_of c.in-Some.ends)) entry
    (subst (λ z. IsCut (reach_of c.args.ends) c.cut.result.entry z c.args.l (reach_of c.in-Some.ends)) side c.in-Some.ensures)

pub returns-in-None : goal.returns-in-None
returns-in-None c =
    let v = pivot_of c.args.self.now in
    let k = 1 - c.args.self.now.place in
    let lines = lines_of c.args.rows.now in
    let line : half_line c.known_at.result ≡ line_at lines c.args.l = c.known_at.ensures in
    let entry = c.cut.ensures.entry ∙ ap (λ x. left_entry v x k) line in
    let side = c.cut.ensures.side ∙ ap (λ x. left_side v x) line in (
      refl,
      subst (λ z. IsMissed z (left_side v (line_at lines c.args.l))) entry (subst (λ z. IsMissed c.cut.result.entry z) side c.in-None.ensures),
    )
