use Rattle.std.proofs.Common.{◌≡◌, map, take}
use Rattle.lp_core.specs.Turned.{turned_item}
use Rattle.lp_core.proofs.plane.items_back.Given as goal

abbrev pub invariant-loop-i : goal.invariant-loop-i
invariant-loop-i l = l.back ≡ map (turned_item l.gone) (take l.i l.items)
