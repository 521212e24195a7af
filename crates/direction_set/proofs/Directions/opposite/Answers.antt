use Rattle.std.proofs.Common.{◌≡◌, ◌<◌, ℕ, length, subst, sym, arith}
use Rattle.direction_set.specs.DirectionTable.{DirectionTable, IsDirectionTable, negative, opposite_of, vector_at}
use Rattle.direction_set.proofs.Tables.{rules_seen}
use Rattle.direction_set.proofs.Directions.opposite.Goals as goal

-- the answer is the opposite direction
record Opposite (t : DirectionTable) (k answer : ℕ) : Type 0 where
  within : answer < length t.vectors
  vector : vector_at t.vectors answer ≡ negative (vector_at t.vectors k)

opposite : (t : DirectionTable) (k answer : ℕ) → IsDirectionTable t.players t.vectors → k < length t.vectors → answer ≡ opposite_of k → Opposite t k answer
opposite t k answer rules within is =
    subst (Opposite t k) (sym is)
    (record { within = rules.opposite_within k within; vector = rules.opposite_is_negative k within })

pub returns-then-k-eq0-clause-within : goal.returns-then-k-eq0-clause-within
returns-then-k-eq0-clause-within c =
    (opposite _ c.args.k _ (rules_seen _ _ _ c.self.invariant c.self.view_is) c.requires (omega arith)).within

pub returns-then-k-eq0-clause-vector : goal.returns-then-k-eq0-clause-vector
returns-then-k-eq0-clause-vector c =
    (opposite _ c.args.k _ (rules_seen _ _ _ c.self.invariant c.self.view_is) c.requires (omega arith)).vector

pub returns-else-k-eq0-clause-vector : goal.returns-else-k-eq0-clause-vector
returns-else-k-eq0-clause-vector c =
    (opposite _ c.args.k _ (rules_seen _ _ _ c.self.invariant c.self.view_is) c.requires (omega arith)).vector
