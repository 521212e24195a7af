use Rattle.std.proofs.Common.{arith, ◌≡◌, ◌+◌, ◌-◌, ◌<◌, refl, sym, subst, lit≤}
use Rattle.std.specs.Prelude.{pos, ◌<ℤ◌}
use Rattle.lp_core.specs.Bounds.{IsMissedRow, left_entry, left_side}
use Rattle.lp_core.specs.Lines.{line_at}
use Rattle.lp_core.specs.Planar.{lines_of, pivot_of, reach_of}
use Rattle.lp_core.proofs.Ends.{ends_more}
use Rattle.lp_core.proofs.Lines.{reach_fewer, or_last}
use Rattle.lp_core.proofs.edge.Edge.ends.Goals as goal

pub box_ends-requires-clause-narrow : goal.box_ends-requires-clause-narrow
box_ends-requires-clause-narrow c = λ l h. c.requires.narrow l (omega (arith, h, c.requires.boxes))

pub returns-in-Err : goal.returns-in-Err
returns-in-Err c = let h = c.in-Err.ensures in record { row = omega (arith, h.row, c.requires.boxes); none = h.none; side = h.side }

pub loop-l-init : goal.loop-l-init
loop-l-init c =
    let r = c.args.r in
    (lit≤ tt, reach_fewer (lines_of c.args.rows.now) (pivot_of c.args.self.now) (1 - c.args.self.now.place) (λ i. i < 4) (λ i. i < 4) (λ i. i < 4) (λ i. i < r) (reach_of c.in-Ok.ends) (λ l h. h) (λ l h. omega (arith, h, c.requires.boxes)) c.in-Ok.ensures)

pub with_row-requires-clause-narrow : goal.with_row-requires-clause-narrow
with_row-requires-clause-narrow c = c.requires.narrow _ c.loop-l-test.true

pub loop-l-preserved : goal.loop-l-preserved
loop-l-preserved c =
    let n = c.loop-l.l in
    let r = c.args.r in (
      omega (arith, c.loop-l.invariant.0),
      ends_more (lines_of c.args.rows.now) (pivot_of c.args.self.now) (1 - c.args.self.now.place) n (λ i. i < n) (λ i. i < n + 1) (λ i. i < r) (or_last n) (reach_of c.loop-l.ends) (reach_of c.in-Ok-with_row.ends) _ _ c.loop-l.invariant.1 c.in-Ok-with_row.ensures c.loop-l-test.true refl refl,
    )

pub returns : goal.returns
returns c =
    let n = c.loop-l.l in
    let r = c.args.r in
    reach_fewer (lines_of c.args.rows.now) (pivot_of c.args.self.now) (1 - c.args.self.now.place) (λ i. i < n) (λ i. i < r) (λ i. i < r) (λ i. i < r) (reach_of c.loop-l.ends) (λ l h. omega (arith, h, c.loop-l-test.false)) (λ l h. h) c.loop-l.invariant.1

pub returns-in-Err-with_row : goal.returns-in-Err-with_row
returns-in-Err-with_row c =
    let v = pivot_of c.args.self.now in
    let k = 1 - c.args.self.now.place in
    let lines = lines_of c.args.rows.now in
    let h : (c.in-Err-with_row.l ≡ c.loop-l.l) × IsMissedRow lines v k c.loop-l.l = c.in-Err-with_row.ensures in
    record {
      row = subst (λ n. n < c.args.r) (sym h.0) c.loop-l-test.true;
      none = subst (λ n. left_entry v (line_at lines n) k ≡ pos 0) (sym h.0) h.1.none;
      side = subst (λ n. left_side v (line_at lines n) <ℤ pos 0) (sym h.0) h.1.below;
    }
