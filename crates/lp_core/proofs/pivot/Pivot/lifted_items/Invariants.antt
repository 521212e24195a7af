use Rattle.std.proofs.Common.{◌≡◌, ◌≤◌, ◌*◌, ◌^◌, map, take}
use Rattle.std.specs.Int.RustNames.{unsigned_abs}
use Rattle.lp_core.specs.Elimination.{lifted_item, pivot_sum}
use Rattle.lp_core.proofs.pivot.Pivot.lifted_items.Given as goal

abbrev pub invariant-loop-i : goal.invariant-loop-i
invariant-loop-i l =
    (l.lifted ≡ map (lifted_item l.self l.program.lines l.program.live l.r) (take l.i l.items))
    × (l.sum ≡ pivot_sum l.self l.program.lines l.program.live l.r (take l.i l.items))
    × (unsigned_abs l.sum ≤ l.i * 2 ^ 30)
