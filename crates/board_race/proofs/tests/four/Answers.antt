use Rattle.std.proofs.Common.{List, ap, ◌∙◌}
use Rattle.std.specs.Prelude.{ℤ}
use Rattle.board_race.proofs.Fall.{four}
use Rattle.board_race.proofs.tests.four.Goals as goal

pub returns-in-Some : goal.returns-in-Some
returns-in-Some c =
    let same = ap (λ (v : List (List ℤ)). record { players = 2; vectors = v }) four in
    (c.in-Some.ensures {u = tt}).table ∙ same
