use Rattle.std.proofs.Common.{◌≡◌, ℕ, ◌^◌, ◌<◌, ◌≤◌, length, slice_index_or}
use Rattle.std.specs.Prelude.{pos, ◌*ℤ◌}
use Rattle.std.specs.Int.RustNames.{unsigned_abs}
use Rattle.game_model.specs.Game.{payoff_at, successor}
use Rattle.level_table.specs.Levels.{levels_in}
use Rattle.level_table.specs.Reasons.{IsKnown}
use Rattle.set_operator.specs.Asked.{AllReachKnown}
use Rattle.set_operator.specs.Boxes.{IsSide, no_side, stage_scale}
use Rattle.set_operator.proofs.sides.box_by.Given as goal

abbrev pub invariant-loop-i : goal.invariant-loop-i
invariant-loop-i l = record {
  three_sides : length l.sides ≡ 3;
  three_stages : length l.stage ≡ 3;
  sides : (j : ℕ) → j < l.i → IsSide l.fn.p (levels_in l.fn.levels) l.fn.state l.fn.profile j (slice_index_or l.sides j no_side);
  next : 0 < l.i → IsKnown l.fn.p (levels_in l.fn.levels) (successor l.fn.p.game l.fn.state l.fn.profile);
  known : AllReachKnown l.fn.p (levels_in l.fn.levels) l.fn.state l.fn.profile l.i;
  stage : (j : ℕ) → j < l.i → slice_index_or l.stage j (pos 0) ≡ pos (stage_scale l.fn.p j) *ℤ payoff_at l.fn.p.game l.fn.state l.fn.profile j;
  small : (j : ℕ) → unsigned_abs (slice_index_or l.stage j (pos 0)) ≤ 2 ^ 60;
}
