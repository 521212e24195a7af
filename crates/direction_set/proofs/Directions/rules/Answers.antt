use Rattle.std.proofs.Common.{◌≡◌, ℕ, length, subst, sym, ap}
use Rattle.direction_set.specs.DirectionTable.{DirectionTable, HasTable, direction_vectors, length-direction_vectors}
use Rattle.direction_set.proofs.Tables.{rules_seen}
use Rattle.direction_set.proofs.Directions.rules.Goals as goal

pub returns-clause-known : goal.returns-clause-known
returns-clause-known c =
    let players = c.self.inside.players in
    subst (λ (t : DirectionTable). HasTable t.players (length t.vectors)) c.self.view_is
    (subst (λ (n : ℕ). HasTable players n) (sym (length-direction_vectors _ _ c.self.invariant)) c.self.invariant)

pub returns-clause-table : goal.returns-clause-table
returns-clause-table c =
    subst (λ (t : DirectionTable). t.vectors ≡ direction_vectors t.players (length t.vectors)) c.self.view_is
    (ap (λ (n : ℕ). direction_vectors c.self.inside.players n) (sym (length-direction_vectors _ _ c.self.invariant)))

pub returns-clause-rules : goal.returns-clause-rules
returns-clause-rules c = rules_seen _ _ _ c.self.invariant c.self.view_is
