use Rattle.std.proofs.Common.{◌<◌, arith}
use Rattle.direction_set.specs.DirectionTable.{direction_vectors, length-direction_vectors}
use Rattle.std.specs.Prelude.{length}
use Rattle.make_run.proofs.Same.{same_made}
use Rattle.make_run.proofs.made.same_numbers.Goals as goal

pub returns : goal.returns
returns c seed count a b h k =
    let some : 0 < length (direction_vectors 2 8) = omega (arith, length-direction_vectors 2 8 (search arith)) in
    same_made seed count a b some h k
