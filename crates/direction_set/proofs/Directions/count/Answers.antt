use Rattle.std.proofs.Common.{◌≡◌, length, subst, sym}
use Rattle.direction_set.specs.DirectionTable.{DirectionTable, length-direction_vectors}
use Rattle.direction_set.proofs.Directions.count.Goals as goal

pub returns : goal.returns
returns c =
    subst (λ (t : DirectionTable). c.self.inside.count ≡ length t.vectors) c.self.view_is
    (sym (length-direction_vectors _ _ c.self.invariant))
