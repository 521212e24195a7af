use Rattle.std.proofs.Common.{◌^◌, ◌≤◌, take}
use Rattle.game_model.specs.Game.{IsLeastCommonMultiple}
use Rattle.game_model.proofs.game.least_common_multiple.Given as goal

abbrev pub invariant-loop-p : goal.invariant-loop-p
invariant-loop-p l = record { so_far : IsLeastCommonMultiple (take l.p-index l.numerators) l.base; small : l.base ≤ 1024 ^ l.p-index }
