use Rattle.game_files.specs.Loads.{counts_of}
use Rattle.solve_run.proofs.Second.{told_schedule, told_schedule_fault}
use Rattle.solve_run.proofs.replaying.read_moves.Goals as goal

pub returns-in-Ok-clause-read : goal.returns-in-Ok-clause-read
returns-in-Ok-clause-read g c =
    told_schedule (g.S.Shelf.bytes c.args.shelf.now) c.args.name.now c.in_ok-bytes.bytes.items c.deref.result.now c.args.rows c.in-Ok.schedule c.in_ok-bytes.ensures.stands c.deref.ensures.value c.in-Ok.ensures.value

pub returns-clause-why : goal.returns-clause-why
returns-clause-why g c =
    told_schedule_fault (g.S.Shelf.bytes c.args.shelf.now) c.args.name.now c.in_ok-bytes.bytes.items c.deref.result.now c.args.rows
    (counts_of g.S.Shelf.faults g.S.Shelf.overlong g.S.Shelf.loads c.args.shelf.now) (counts_of g.S.Shelf.faults g.S.Shelf.overlong g.S.Shelf.loads c.load.new.shelf)
    c.in-Err.fault c.text_fault.result c.in_ok-bytes.ensures.stands c.deref.ensures.value c.in-Err.ensures.value c.text_fault.ensures
