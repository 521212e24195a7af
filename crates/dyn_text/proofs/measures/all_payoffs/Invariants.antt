use Rattle.std.proofs.Common.{◌≡◌, Vec, map, take}
use Rattle.std.specs.Prelude.{ℤ}
use Rattle.std.specs.Global.{Global}
use Rattle.std.specs.List.{All}
use Rattle.nfg_text.specs.declared.nfg.Nfg.{Nfg}
use Rattle.dyn_text.specs.Assembled.{units, payoffs_in}
use Rattle.dyn_text.specs.BuildFaults.{IsSmallPayoff}
use Rattle.dyn_text.proofs.measures.all_payoffs.Given as goal

abbrev pub invariant-loop-game : goal.invariant-loop-game
invariant-loop-game l = (map (λ (w : Vec ℤ Global). w.items) l.payoffs.items ≡ map (λ (n : Nfg). map (units l.unit) n.payoffs) (take l.game-index l.games)) × All (IsSmallPayoff l.unit) (payoffs_in (take l.game-index l.games))
