use Rattle.std.proofs.Common.{◌≤◌, ◌^◌, zero, suc, List, arith, ◌≡◌, length, subst, rules}
use Rattle.std.specs.Int.{w64}
use Rattle.std.specs.Int.RustNames.{FitsSigned, unsigned_abs}
use Rattle.std.proofs.lemmas.Int.{to_z-of_z}
use Rattle.lp_cert.specs.Program.{entry}
use Rattle.lp_core.specs.declared.reduced.Line.{Line}
use Rattle.lp_core.specs.Lines.{line_at}
use Rattle.lp_core.specs.Corner.{IsEnd}
use Rattle.lp_core.specs.Search.{IsReduced}
use Rattle.lp_core.specs.Planar.{AreNarrow, end_of, lines_of, whole_of}
use Rattle.lp_core.proofs.Edges.{corner_two}
use Rattle.lp_core.proofs.Halves.{whole_is}
use Rattle.lp_core.proofs.Wholes.{planar_is_reduced}
use Rattle.lp_core.proofs.planar.corner.Goals as goal

pub returns-clause-best : goal.returns-clause-best
returns-clause-best c =
    let p = c.args.rows.now in
    let o = c.args.objective in
    let a = c.in_ok-first.first in
    let b = c.in_ok-second.second in
    let three : length c.args.objective ≡ 3 = search rules in
    let reduced : IsReduced (whole_of p) o = planar_is_reduced p (whole_of p) o c.requires.program (whole_is p) c.requires.dimension three c.requires.objective c.requires.zeros in
    let f1 : FitsSigned w64 c.weight.result = record { sfits = c.weight.type_inv } in
    let f2 : FitsSigned w64 c.weight-2.result = record { sfits = c.weight-2.type_inv } in
    let f3 : FitsSigned w64 c.in_ok-first.first.at = search rules in
    let f4 : FitsSigned w64 c.in_ok-first.first.times = search rules in
    let f5 : FitsSigned w64 c.in_ok-second.second.at = search rules in
    let f6 : FitsSigned w64 c.in_ok-second.second.times = search rules in
    let x0 : IsEnd (lines_of p) 0 c.weight.result (end_of a) = simp to_z-of_z at c.in_ok-first.ensures.best in
    let y0 : IsEnd (lines_of p) 1 c.weight-2.result (end_of b) = simp to_z-of_z at c.in_ok-second.ensures.best in
    let x : IsEnd (lines_of p) 0 (entry o 0) (end_of a) = subst (λ z. IsEnd (lines_of p) 0 z (end_of a)) c.weight.ensures.value x0 in
    let y : IsEnd (lines_of p) 1 (entry o 1) (end_of b) = subst (λ z. IsEnd (lines_of p) 1 z (end_of b)) c.weight-2.ensures.value y0 in
    simp to_z-of_z (corner_two p o c.requires.program c.requires.dimension reduced (end_of a) (end_of b) x y)

four : (lines : List Line) → unsigned_abs (line_at lines 0).h ≤ 2 ^ 51 → unsigned_abs (line_at lines 1).h ≤ 2 ^ 51 → unsigned_abs (line_at lines 2).h ≤ 2 ^ 51 → unsigned_abs (line_at lines 3).h ≤ 2 ^ 51 → AreNarrow lines 4
four lines a b d e zero h = a
four lines a b d e (suc zero) h = b
four lines a b d e (suc (suc zero)) h = d
four lines a b d e (suc (suc (suc zero))) h = e
four lines a b d e (suc (suc (suc (suc l)))) h = absurd (omega (arith, h))

pub returns-clause-narrow : goal.returns-clause-narrow
returns-clause-narrow c = four (lines_of c.args.rows.now) c.in_ok-first.ensures.narrow_upper c.in_ok-first.ensures.narrow_lower c.in_ok-second.ensures.narrow_upper c.in_ok-second.ensures.narrow_lower
