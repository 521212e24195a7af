use Rattle.std.proofs.Common.{◌≡◌, take}
use Rattle.std.specs.List.{filter}
use Rattle.lp_core.specs.Kept.{is_kept}
use Rattle.lp_core.proofs.kept.without_zeros.Given as goal

abbrev pub invariant-loop-i : goal.invariant-loop-i
invariant-loop-i l = l.kept ≡ filter is_kept (take l.i l.items)
