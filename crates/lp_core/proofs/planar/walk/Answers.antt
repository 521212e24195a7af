use Rattle.std.proofs.Common.{◌^◌, below_more, ◌+◌, ◌≤◌, length, refl, sym, subst, arith}
use Rattle.std.specs.Prelude.{◌*ℤ◌, ◌≤ℤ◌}
use Rattle.std.specs.Int.RustNames.{unsigned_abs}
use Rattle.lp_core.specs.declared.reduced.Line.{Line}
use Rattle.lp_core.specs.Lines.{all_seen, along, is_seen, line_at}
use Rattle.lp_core.specs.Search.{IsBest}
use Rattle.lp_core.specs.Planar.{half_line, lines_of, optimum_of, spot_num, whole_of}
use Rattle.lp_core.proofs.Back.{met_more}
use Rattle.lp_core.proofs.Edges.{all_best}
use Rattle.lp_core.proofs.planar.walk.Goals as goal
use Rattle.lp_core.proofs.planar.walk.Goals.{then-not-meets+in-Some, else-not-meets}

pub loop-r-preserved : goal.loop-r-preserved
loop-r-preserved c =
    let p = c.args.rows.now in
    let o = c.args.objective in
    let r = c.loop-r.r in (
      omega (arith, c.loop-r.invariant.0),
      below_more (λ l. unsigned_abs (line_at (lines_of p) l).h ≤ 2 ^ 51) r c.loop-r.invariant.1 c.in_ok-row.ensures.narrow,
      elim c.if-not-meets.branch [
        | then-not-meets+in-Some w ↦ subst (λ s. IsBest (is_seen (whole_of p).live (r + 1)) (whole_of p) o (optimum_of s)) (sym w.spot-is) w.in-Some.ensures
        | else-not-meets w ↦
            let met : along (half_line c.in_ok-row.row).c (spot_num c.loop-r.spot) ≤ℤ ((half_line c.in_ok-row.row).h *ℤ c.loop-r.spot.den) = w.if-not-meets.ensures.0 refl in
            subst (λ s. IsBest (is_seen (whole_of p).live (r + 1)) (whole_of p) o (optimum_of s)) (sym w.spot-is)
            (met_more (whole_of p) o r (optimum_of c.loop-r.spot) c.loop-r.invariant.2
            (subst (λ (x : Line). along x.c (spot_num c.loop-r.spot) ≤ℤ (x.h *ℤ c.loop-r.spot.den)) c.in_ok-row.ensures.row met))
      ],
    )

pub returns : goal.returns
returns c =
    let p = c.args.rows.now in
    let o = c.args.objective in
    let end : length p.rows ≤ c.loop-r.r = omega (arith, c.loop-r-test.false, c.len-count.ensures.value) in
    subst (λ b. IsBest all_seen (whole_of p) o b) (sym c.optimum.ensures) (all_best p o c.len-count.ensures.program c.requires.dimension c.loop-r.r (optimum_of c.loop-r.spot) end c.loop-r.invariant.0 c.loop-r.invariant.2)
