use Rattle.std.proofs.Common.{◌≡◌, sym, ap, subst, ◌∙◌, Err, lit≤}
use Rattle.direction_set.specs.DirectionTable.{IsDirectionTable}
use Rattle.level_table.specs.Problem.{IsProblem, Problem, problem_of}
use Rattle.make_run.proofs.Openings.{not_beyond, opening_is_tiny}
use Rattle.make_run.proofs.solving.opened.Goals as goal

pub unreachable-requires : goal.unreachable-requires
unreachable-requires c =
    let game = c.args.game.now in
    let dirs = c.args.dirs.now in
    let players : dirs.players ≡ game.players = c.requires.players ∙ sym c.requires.game.players in
    let p : Problem = problem_of game dirs 4 in
    let ok : IsProblem p = record { game = c.requires.game.game; directions = subst (λ n. IsDirectionTable n dirs.vectors) players c.rules.ensures.rules; grid = lit≤ tt } in
    not_beyond p c.in-Err-Beyond.field-0-0 (opening_is_tiny game dirs c.requires.game ok)
    ((c.in-Err-Beyond.ensures.beyond c.in-Err-Beyond.field-0-0).0 (ap Err c.in-Err-Beyond.field-0-is))
