use Rattle.std.proofs.Common.{◌≡◌, ℕ, Vec, map, take}
use Rattle.std.specs.Global.{Global}
use Rattle.nfg_text.specs.declared.nfg.Nfg.{Nfg}
use Rattle.nfg_text.specs.Grammar.{counts_of}
use Rattle.dyn_text.proofs.assembling.all_counts.Given as goal

abbrev pub invariant-loop-game : goal.invariant-loop-game
invariant-loop-game l = map (λ (w : Vec ℕ Global). w.items) l.items.items ≡ map (λ (n : Nfg). counts_of n.strategies) (take l.game-index l.games)
