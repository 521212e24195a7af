-- The static tables are the longest tables of the definition.
use Rattle.std.proofs.Common.{◌≡◌, ℕ, ◌<◌, List, length, get_or, subst, sym, ◌∙◌, ap}
use Rattle.std.specs.Prelude.{ℤ}
use Rattle.direction_set.specs.DirectionTable.{DirectionTable, HasTable, all_vectors, listed_for_two, listed_for_three, direction_vectors, vector_at}
use Rattle.direction_set.proofs.Tables.{read_longest, three_players}
use Rattle.direction_set.proofs.Directions.vector.Goals as goal

read : (t : DirectionTable) (players count k n : ℕ) (d : List ℤ) → HasTable players count → record { players = players; vectors = direction_vectors players count } ≡ t → k < length t.vectors → players ≡ n → get_or (all_vectors n) k d ≡ vector_at t.vectors k
read t players count k n d known is within same =
    ap (λ (m : ℕ). get_or (all_vectors m) k d) (sym same)
    ∙ subst (λ (u : DirectionTable). k < length u.vectors → get_or (all_vectors players) k d ≡ vector_at u.vectors k) is
    (read_longest players count k d known) within

pub returns-then-self-eq2 : goal.returns-then-self-eq2
unfolding all_vectors listed_for_two listed_for_three
returns-then-self-eq2 c = read c.args.self.now _ _ c.args.k 2 _ c.self.invariant c.self.view_is c.requires c.if-self-eq2.true

pub returns-else-self-eq2 : goal.returns-else-self-eq2
unfolding all_vectors listed_for_two listed_for_three
returns-else-self-eq2 c =
    read c.args.self.now _ _ c.args.k 3 _ c.self.invariant c.self.view_is c.requires
    (three_players _ _ c.self.invariant c.if-self-eq2.false)
