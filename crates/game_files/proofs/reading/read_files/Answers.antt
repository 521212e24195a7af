use Rattle.std.proofs.Common.{◌≡◌, Err, IfErr, Ok, sym, subst, ap, ◌∙◌}
use Rattle.std.proofs.lemmas.Result.{err_from_is_err_and}
use Rattle.game_files.specs.declared.first.First.TheVariants.{Transitions}
use Rattle.game_files.specs.Loads.{Counts, counts_of}
use Rattle.game_files.specs.Files.{IsFirst}
use Rattle.game_files.specs.Causes.{IsFilesFault}
use Rattle.game_files.proofs.Moved.{files_fault}
use Rattle.game_files.proofs.reading.read_files.Goals as goal

pub returns-in_err-games-in-Transitions-clause-why : goal.returns-in_err-games-in-Transitions-clause-why
returns-in_err-games-in-Transitions-clause-why g c =
    let told = g.S.Shelf.bytes c.args.shelf.now in
    let name = c.args.name.now in
    let d = c.in-Transitions.dynamic in
    let before : Counts = counts_of g.S.Shelf.faults g.S.Shelf.overlong g.S.Shelf.loads c.args.shelf.now in
    let mid : Counts = counts_of g.S.Shelf.faults g.S.Shelf.overlong g.S.Shelf.loads c.read_first.new.shelf in
    let after : Counts = counts_of g.S.Shelf.faults g.S.Shelf.overlong g.S.Shelf.loads c.read_stages.new.shelf in
    let r = c.from_residual-in_err-games-in-Transitions in
    let p = err_from_is_err_and r.result r.ensures.1 in
    let first : IsFirst told name (Transitions d) = subst (IsFirst told name) c.in-Transitions.is c.in_ok-game.ensures.read in
    subst (λ x. IfErr x (IsFilesFault told name before after)) (sym (p.1 ∙ ap Err p.2))
    (files_fault (g.S.Shelf.bytes c.read_first.new.shelf) told name d before mid after c.in_err-games-in-Transitions.field-0.0 c.in_ok-game.ensures.same_bytes first c.in_ok-game.ensures.loads c.in_err-games-in-Transitions.ensures.why)
