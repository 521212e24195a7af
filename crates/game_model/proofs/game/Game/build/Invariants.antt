use Rattle.std.proofs.Common.{ℕ, ◌≡◌, ◌<◌, None}
use Rattle.game_model.specs.Parts.{shape_fault, shape_of}
use Rattle.game_model.proofs.game.Game.build.Given as goal

-- no state before has a fault
abbrev pub invariant-loop-s : goal.invariant-loop-s
invariant-loop-s l = (t : ℕ) → t < l.s → shape_fault (shape_of l.parts) t ≡ None
