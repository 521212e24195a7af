use Rattle.std.proofs.Common.{◌<◌, sym, ◌∙◌, arith}
use Rattle.report_lines.specs.Forms.{any, count_of}
use Rattle.report_lines.proofs.Stuck.{taken_all}
use Rattle.report_lines.proofs.pattern.Pattern.any.Goals as goal

pub returns-then-is_none : goal.returns-then-is_none
unfolding any
returns-then-is_none c =
    let l : c.loop.counter < count_of c.args.self.now = omega (arith, c.loop-test.true, c.count-end.ensures) in
    taken_all c.args.kind c.loop.counter (count_of c.args.self.now) c.args.self.now c.loop.last l c.loop.invariant (sym c.one-next.ensures ∙ c.is_none.ensures.0 c.if-is_none.true)
