use Rattle.std.proofs.Common.{◌+◌, ◌*◌}
use Rattle.lp_core.specs.Lines.{is_seen}
use Rattle.lp_core.specs.Search.{IsBest}
use Rattle.lp_core.specs.Sizes.{level}
use Rattle.lp_core.proofs.search.+search.Given as goal

abbrev pub decreases-solved : goal.decreases-solved
decreases-solved l = 4 * level l.program.now.live + 3

abbrev pub decreases-tightened : goal.decreases-tightened
decreases-tightened l = 4 * level l.program.now.live + 2

abbrev pub decreases-on_plane : goal.decreases-on_plane
decreases-on_plane l = 4 * level l.program.now.live + 1

abbrev pub decreases-inner : goal.decreases-inner
decreases-inner l = 4 * level l.program.now.live

abbrev pub invariant-solved-loop-r : goal.invariant-solved-loop-r
invariant-solved-loop-r l = IsBest (is_seen l.program.live l.r) l.program l.objective l.best
