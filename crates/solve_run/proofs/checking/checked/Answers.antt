use Rattle.std.proofs.Common.{inr}
use Rattle.game_files.specs.Loads.{Counts, counts_of}
use Rattle.solve_run.proofs.Second.{corr_before, second_fault}
use Rattle.solve_run.proofs.checking.checked.Goals as goal

pub returns-in-Ok-clause-found : goal.returns-in-Ok-clause-found
returns-in-Ok-clause-found g c =
    let game = c.in_ok-game.game in
    record {
      game = game;
      is_game = c.in_ok-game.ensures.game;
      set = c.in-Ok.set;
      is_set = corr_before (g.S.Shelf.bytes c.read_game.new.shelf) (g.S.Shelf.bytes c.args.shelf.now) c.args.corr.now game c.in-Ok.set c.in_ok-game.ensures.same_bytes c.in-Ok.ensures.read;
      verdict = c.fault_of.ensures;
    }

pub returns-clause-why : goal.returns-clause-why
returns-clause-why g c =
    let game = c.in_ok-game.game in
    let before : Counts = counts_of g.S.Shelf.faults g.S.Shelf.overlong g.S.Shelf.loads c.args.shelf.now in
    let mid : Counts = counts_of g.S.Shelf.faults g.S.Shelf.overlong g.S.Shelf.loads c.read_game.new.shelf in
    let after : Counts = counts_of g.S.Shelf.faults g.S.Shelf.overlong g.S.Shelf.loads c.read_set.new.shelf in
    inr (
      game,
      c.in_ok-game.ensures.game,
      second_fault (g.S.Shelf.bytes c.read_game.new.shelf) (g.S.Shelf.bytes c.args.shelf.now) c.args.file.now c.args.corr.now game before mid after c.in-Err.fault
          c.in_ok-game.ensures.same_bytes c.in_ok-game.ensures.loads c.read_set.ensures.loads c.in-Err.ensures.why,
    )
