use Rattle.game_files.specs.Loads.{counts_of}
use Rattle.game_files.proofs.Texts.{stage_fault}
use Rattle.game_files.proofs.reading.read_stage.Goals as goal

pub returns-clause-why : goal.returns-clause-why
returns-clause-why g c =
    stage_fault (g.S.Shelf.bytes c.args.shelf.now) c.args.s c.args.name.now c.in_ok-bytes.bytes.items c.deref.result.now
    (counts_of g.S.Shelf.faults g.S.Shelf.overlong g.S.Shelf.loads c.args.shelf.now) (counts_of g.S.Shelf.faults g.S.Shelf.overlong g.S.Shelf.loads c.load.new.shelf)
    c.in-Err.fault c.text_fault.result c.in_ok-bytes.ensures.stands c.deref.ensures.value c.in-Err.ensures c.text_fault.ensures
