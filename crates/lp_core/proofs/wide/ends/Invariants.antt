use Rattle.std.proofs.Common.{◌⊎◌, ◌<◌, ◌≡◌}
use Rattle.std.specs.Prelude.{true}
use Rattle.lp_core.specs.Bounds.{IsBoxRow, IsReach, IsSeenRow}
use Rattle.lp_core.specs.Lines.{is_seen}
use Rattle.lp_core.specs.Wide.{reach_of}
use Rattle.lp_core.proofs.wide.ends.Given as goal

abbrev pub invariant-loop-l : goal.invariant-loop-l
invariant-loop-l l = IsReach l.program.lines l.pivot l.k (λ i. IsBoxRow l.k i ⊎ ((i < l.l) × (is_seen l.program.live l.r i ≡ true))) (IsSeenRow l.program l.r) (reach_of l.ends)
