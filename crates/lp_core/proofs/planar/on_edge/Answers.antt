use Rattle.std.proofs.Common.{◌≡◌, ◌-◌, ◌<◌, length, sym, ap, subst, ◌∙◌, arith, rules}
use Rattle.std.specs.Prelude.{pos, ◌+ℤ◌, ◌*ℤ◌, ◌<ℤ◌, ◌≤ℤ◌, false, true}
use Rattle.std.proofs.lemmas.Int.{by_lt_z, to_z-of_z}
use Rattle.std.specs.Int.{w64}
use Rattle.std.specs.Int.RustNames.{FitsSigned}
use Rattle.lp_core.specs.declared.edge.Half.{Half}
use Rattle.lp_core.specs.Lines.{along, line_at}
use Rattle.lp_core.specs.Search.{IsReduced}
use Rattle.lp_core.specs.Planar.{half_line, lines_of, optimum_of, peak_of, pivot_of, reach_of, spot_num, whole_of}
use Rattle.lp_core.specs.Bounds.{IsPeak, left_objective}
use Rattle.lp_core.proofs.Halves.{whole_is}
use Rattle.lp_core.proofs.Edges.{edge_best}
use Rattle.lp_core.proofs.Ends.{tip_on}
use Rattle.lp_core.proofs.Wholes.{planar_is_reduced}
use Rattle.lp_core.proofs.planar.on_edge.Goals as goal

never : {A : Type 0} → false ≡ true → A
never e = absurd (grind (arith, e))

pub returns : goal.returns
returns c =
    let p = c.args.rows.now in
    let o = c.args.objective in
    let e = c.in_ok-edge.edge in
    let ends = c.in-Ok.ends in
    let t = c.tip-tip.result in
    let three : length c.args.objective ≡ 3 = search rules in
    let reduced : IsReduced (whole_of p) o = planar_is_reduced p (whole_of p) o c.requires.program (whole_is p) c.requires.dimension three c.requires.objective c.requires.zeros in
    let same : e.row ≡ c.args.row = c.in_ok-edge.ensures in
    let line : half_line e.row ≡ line_at (lines_of p) c.args.r = ap half_line same ∙ c.requires.row in
    let f1 : FitsSigned w64 c.rest.result = record { sfits = c.rest.type_inv } in
    let tip0 : IsPeak (reach_of ends) c.rest.result (peak_of t) = simp to_z-of_z at c.tip-tip.ensures in
    let tip : IsPeak (reach_of ends) (left_objective (pivot_of e) o (1 - e.place)) (peak_of t) = subst (λ z. IsPeak (reach_of ends) z (peak_of t)) c.rest.ensures.value tip0 in
    let open_ : pos 0 ≤ℤ (ends.lower.entry *ℤ ends.upper.side +ℤ ends.upper.entry *ℤ ends.lower.side) =
    by_lt_z (ends.lower.entry *ℤ ends.upper.side +ℤ ends.upper.entry *ℤ ends.lower.side) (pos 0) (λ l. never (c.if-cross.ensures.1 l)) (λ l. l) in
    let broken = subst (λ (x : Half). ((half_line x).h *ℤ c.args.old.now.den) <ℤ along (half_line x).c (spot_num c.args.old.now)) (sym same) c.requires.broken in
    edge_best p o c.requires.program c.requires.dimension reduced e c.args.r c.requires.within c.requires.boxes line ends t c.in-Ok.ensures open_ tip
    (half_line c.known_at-base.result) c.spot.result c.known_at-base.ensures c.spot.ensures (optimum_of c.args.old.now) c.requires.best broken

pub known_at-base-requires-clause-narrow : goal.known_at-base-requires-clause-narrow
known_at-base-requires-clause-narrow c =
    let e = c.in_ok-edge.edge in
    let f1 : FitsSigned w64 c.rest.result = record { sfits = c.rest.type_inv } in
    let tip : IsPeak (reach_of c.in-Ok.ends) c.rest.result (peak_of c.tip-tip.result) = simp to_z-of_z at c.tip-tip.ensures in
    c.requires.narrow _ (tip_on (lines_of c.args.rows.now) (pivot_of e) (1 - e.place) (λ i. i < c.args.r) (λ i. i < c.args.r) (reach_of c.in-Ok.ends) c.rest.result (peak_of c.tip-tip.result) c.in-Ok.ensures tip).row
