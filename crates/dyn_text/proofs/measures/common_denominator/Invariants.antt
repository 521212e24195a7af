use Rattle.std.proofs.Common.{◌≤◌, ◌^◌, take}
use Rattle.game_model.specs.Game.{IsLeastCommonMultiple}
use Rattle.dyn_text.specs.Assembled.{denominators_in}
use Rattle.dyn_text.proofs.measures.common_denominator.Given as goal

abbrev pub invariant-loop-game : goal.invariant-loop-game
invariant-loop-game l = IsLeastCommonMultiple (denominators_in (take l.game-index l.games)) l.unit × (l.unit ≤ 2 ^ 40)
