use Rattle.std.proofs.Common.{ℕ, ◌≢◌, ◌*◌, ◌%◌, ◌<◌}
use Rattle.game_model.proofs.game.first_multiple.Given as goal

-- no multiple before was one of p
abbrev pub invariant-loop-k : goal.invariant-loop-k
invariant-loop-k l = (j : ℕ) → 0 < j → j < l.k → (l.base * j) % l.p ≢ 0
