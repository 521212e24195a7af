use Rattle.std.proofs.Common.{ℕ, List, ◌++◌, ◌<◌, ◌≤◌, ◌^◌, map, take}
use Rattle.game_model.specs.Game.{IsLeastCommonMultiple}
use Rattle.dyn_text.proofs.Multiples.{den}
use Rattle.dyn_text.proofs.measures.with_denominators.Given as goal

abbrev pub invariant-loop-k : goal.invariant-loop-k
invariant-loop-k l = ((before : List ℕ) → IsLeastCommonMultiple before l.unit → IsLeastCommonMultiple (before ++ map den (take l.k l.game.payoffs)) l.multiple) × (0 < l.multiple) × (l.multiple ≤ 2 ^ 40)
