use Rattle.std.proofs.Common.{◌≡◌, ℕ, ◌<◌, Vec, None, map}
use Rattle.std.specs.Global.{Global}
use Rattle.game_model.specs.Parts.{shape_fault}
use Rattle.dyn_text.specs.Assembled.{shape_of_lists}
use Rattle.dyn_text.proofs.assembling.test_shape.Given as goal

-- no state before has a fault
abbrev pub invariant-loop-s : goal.invariant-loop-s
invariant-loop-s l = (t : ℕ) → t < l.s → shape_fault (shape_of_lists (map (λ (w : Vec ℕ Global). w.items) l.strategies.items) l.games (map (λ (w : Vec ℕ Global). w.items) l.next.items)) t ≡ None
