use Rattle.std.proofs.Common.{◌≡◌, ℕ, Vec, map, take}
use Rattle.std.specs.Global.{Global}
use Rattle.dyn_text.specs.declared.transitions.DynState.{DynState}
use Rattle.dyn_text.proofs.assembling.all_successors.Given as goal

abbrev pub invariant-loop-i : goal.invariant-loop-i
invariant-loop-i l = map (λ (w : Vec ℕ Global). w.items) l.items.items ≡ map (λ (x : DynState). x.next) (take l.i l.dynamic.states)
