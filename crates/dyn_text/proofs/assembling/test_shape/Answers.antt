use Rattle.std.proofs.Common.{ℕ, Vec, map, arith}
use Rattle.std.specs.Global.{Global}
use Rattle.dyn_text.proofs.Loops.{few_at}
use Rattle.dyn_text.proofs.assembling.test_shape.Goals as goal

pub state_fault-requires-clause-small : goal.state_fault-requires-clause-small
state_fault-requires-clause-small c = few_at c.args.games.now (map (λ (w : Vec ℕ Global). w.items) c.args.strategies.now.items) c.loop-s.s c.requires.read c.requires.strategies (omega arith)
