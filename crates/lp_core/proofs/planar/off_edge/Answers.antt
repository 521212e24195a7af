use Rattle.std.proofs.Common.{◌≡◌, ℕ, ◌-◌, ◌<◌, length, refl, sym, ap, subst, ◌∙◌, arith, rules}
use Rattle.std.specs.Prelude.{pos, ◌+ℤ◌, ◌*ℤ◌, ◌<ℤ◌}
use Rattle.std.proofs.lemmas.Int.{to_z-of_z}
use Rattle.std.specs.Int.{w64}
use Rattle.std.specs.Int.RustNames.{FitsSigned}
use Rattle.lp_cert.specs.Program.{entry}
use Rattle.lp_core.specs.declared.edge.Half.{Half}
use Rattle.lp_core.specs.declared.reduced.Line.{Line}
use Rattle.lp_core.specs.Lines.{along, line_at}
use Rattle.lp_core.specs.Search.{IsEmpty, IsReduced}
use Rattle.lp_core.specs.Bounds.{IsApart}
use Rattle.lp_core.specs.Planar.{AreEnds, farkas_of, half_line, lines_of, optimum_of, pivot_of, spot_num, whole_of}
use Rattle.lp_core.proofs.Back.{only_empty}
use Rattle.lp_core.proofs.Halves.{whole_count, whole_is}
use Rattle.lp_core.proofs.Edges.{edge_apart, edge_crossed, edge_empty}
use Rattle.lp_core.proofs.Wholes.{planar_is_reduced}
use Rattle.lp_core.proofs.planar.off_edge.Goals as goal

pub returns-in_default : goal.returns-in_default
returns-in_default c =
    let p = c.args.rows.now in
    let r = c.args.r in
    let b = c.args.old.now in
    subst (λ items. IsEmpty (whole_of p) items) (sym c.only.ensures)
    (only_empty (whole_of p) r (spot_num b) b.den (omega (arith, c.requires.within, whole_count p)) c.requires.best.met.positive
    (subst (λ (x : Line). (k : ℕ) → k < 3 → entry x.c k ≡ pos 0) c.requires.row c.in_default.ensures)
    (subst (λ (x : Line). (x.h *ℤ b.den) <ℤ along x.c (spot_num b)) c.requires.row c.requires.broken))

pub returns-in-Err : goal.returns-in-Err
returns-in-Err c =
    let p = c.args.rows.now in
    let o = c.args.objective in
    let e = c.in-Some.edge in
    let v = pivot_of e in
    let k = 1 - e.place in
    let lines = lines_of p in
    let three : length c.args.objective ≡ 3 = search rules in
    let reduced : IsReduced (whole_of p) o = planar_is_reduced p (whole_of p) o c.requires.program (whole_is p) c.requires.dimension three c.requires.objective c.requires.zeros in
    let same : e.row ≡ c.args.row = c.in-Some.ensures in
    let line : half_line e.row ≡ line_at lines c.args.r = ap half_line same ∙ c.requires.row in
    let broken = subst (λ (x : Half). ((half_line x).h *ℤ c.args.old.now.den) <ℤ along (half_line x).c (spot_num c.args.old.now)) (sym same) c.requires.broken in
    let l = c.in-Err.l in
    let apart : IsApart lines v k (λ i. i < c.args.r) l = c.in-Err.ensures in
    let items : c.farkas.result ≡ farkas_of v lines c.args.r (l, pos 1) (l, pos 0) = c.farkas.ensures in
    subst (λ xs. IsEmpty (whole_of p) xs) (sym items)
    (edge_empty p o c.requires.program c.requires.dimension reduced e c.args.r c.requires.within c.requires.boxes line l l (pos 1) (pos 0) apart.row apart.row
    (edge_apart p o c.requires.program c.requires.dimension reduced e c.args.r c.requires.within c.requires.boxes line l apart) (optimum_of c.args.old.now) c.requires.best broken)

pub farkas-requires-then-cross-clause-first_narrow : goal.farkas-requires-then-cross-clause-first_narrow
farkas-requires-then-cross-clause-first_narrow c = c.requires.narrow _ c.in-Ok.ensures.upper.row

pub farkas-requires-then-cross-clause-second_narrow : goal.farkas-requires-then-cross-clause-second_narrow
farkas-requires-then-cross-clause-second_narrow c = c.requires.narrow _ c.in-Ok.ensures.lower.row

pub returns-then-cross : goal.returns-then-cross
returns-then-cross c =
    let p = c.args.rows.now in
    let o = c.args.objective in
    let e = c.in-Some.edge in
    let v = pivot_of e in
    let k = 1 - e.place in
    let lines = lines_of p in
    let three : length c.args.objective ≡ 3 = search rules in
    let reduced : IsReduced (whole_of p) o = planar_is_reduced p (whole_of p) o c.requires.program (whole_is p) c.requires.dimension three c.requires.objective c.requires.zeros in
    let same : e.row ≡ c.args.row = c.in-Some.ensures in
    let line : half_line e.row ≡ line_at lines c.args.r = ap half_line same ∙ c.requires.row in
    let broken = subst (λ (x : Half). ((half_line x).h *ℤ c.args.old.now.den) <ℤ along (half_line x).c (spot_num c.args.old.now)) (sym same) c.requires.broken in
    let u = c.in-Ok.ends.upper in
    let w = c.in-Ok.ends.lower in
    let bounds : AreEnds lines v k (λ i. i < c.args.r) (λ i. i < c.args.r) c.in-Ok.ends = c.in-Ok.ensures in
    let crossed : (w.entry *ℤ u.side +ℤ u.entry *ℤ w.side) <ℤ pos 0 = c.if-cross.ensures.0 refl in
    let f1 : FitsSigned w64 c.in-Ok.ends.upper.entry = search rules in
    let f2 : FitsSigned w64 c.in-Ok.ends.lower.entry = search rules in
    let items : c.farkas-then-cross.result ≡ farkas_of v lines c.args.r (u.row, w.entry) (w.row, u.entry) = simp to_z-of_z at c.farkas-then-cross.ensures in
    subst (λ xs. IsEmpty (whole_of p) xs) (sym items)
    (edge_empty p o c.requires.program c.requires.dimension reduced e c.args.r c.requires.within c.requires.boxes line u.row w.row w.entry u.entry bounds.upper.row bounds.lower.row
    (edge_crossed p o c.requires.program c.requires.dimension reduced e c.args.r c.requires.within c.requires.boxes line c.in-Ok.ends bounds crossed) (optimum_of c.args.old.now) c.requires.best broken)
