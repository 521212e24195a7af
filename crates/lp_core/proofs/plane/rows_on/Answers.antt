use Rattle.std.proofs.Common.{◌≡◌, ◌+◌, ◌*◌, ◌≤◌, length, max, sym, subst, ◌∙◌, arith, lit≤}
use Rattle.lp_cert.specs.Program.{row_at}
use Rattle.lp_core.specs.Planar.{line_of}
use Rattle.lp_core.specs.Turned.{AreLeft, IsLeft}
use Rattle.lp_core.proofs.Planes.{count_more, left_more}
use Rattle.lp_core.proofs.Turned.{gone_rows, row_later}
use Rattle.lp_core.proofs.plane.rows_on.Goals as goal

pub loop-l-init : goal.loop-l-init
loop-l-init c =
    let P = c.args.rows.now in
    let p = c.args.pivot.now in
    let gone = gone_rows p.place p.inside in
    let x : IsLeft p (line_of (row_at P (2 * p.place))) (line_of c.left_at.result) = c.left_at.ensures.left in
    let y : IsLeft p (line_of (row_at P (2 * p.place + 1))) (line_of c.left_at-2.result) = c.left_at-2.ensures.left in
    let first = left_more p P c.box_on-left.result c.add.new.self c.left_at.result 4 c.box_on-left.ensures.count c.box_on-left.ensures.each c.add.ensures.rows (subst (λ n. IsLeft p (line_of (row_at P n)) (line_of c.left_at.result)) (sym gone.0) x) in
    let five = count_more c.box_on-left.result c.add.new.self c.left_at.result 4 c.box_on-left.ensures.count c.add.ensures.rows in (
      lit≤ tt,
      omega arith,
      c.add-2.ensures.dimension ∙ c.add.ensures.dimension ∙ c.box_on-left.ensures.dimension,
      count_more c.add.new.self c.add-2.new.self c.left_at-2.result 5 five c.add-2.ensures.rows,
      left_more p P c.add.new.self c.add-2.new.self c.left_at-2.result 5 five first c.add-2.ensures.rows (subst (λ n. IsLeft p (line_of (row_at P n)) (line_of c.left_at-2.result)) (sym gone.1) y),
    )

pub loop-l-preserved : goal.loop-l-preserved
loop-l-preserved c =
    let P = c.args.rows.now in
    let p = c.args.pivot.now in
    let l = c.loop-l.l in
    let i = c.loop-l.invariant in (
      omega (arith, i.0),
      omega (arith, c.loop-l-test.true),
      c.add-in-loop-l.ensures.dimension ∙ i.2,
      count_more c.loop-l.left c.add-in-loop-l.new.self c.left_at-in-loop-l.result l i.3 c.add-in-loop-l.ensures.rows,
      left_more p P c.loop-l.left c.add-in-loop-l.new.self c.left_at-in-loop-l.result l i.3 i.4 c.add-in-loop-l.ensures.rows
          (subst (λ n. IsLeft p (line_of (row_at P n)) (line_of c.left_at-in-loop-l.result)) (sym (row_later p.place l i.0)) c.left_at-in-loop-l.ensures.left),
    )
