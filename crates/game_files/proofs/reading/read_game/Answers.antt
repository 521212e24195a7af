use Rattle.game_files.specs.Loads.{Counts, counts_of}
use Rattle.game_files.proofs.Built.{no_game}
use Rattle.game_files.proofs.RightTexts.{TextLaws, texts}
use Rattle.game_files.proofs.reading.read_game.Goals as goal

pub assemble-requires-clause-texts : goal.assemble-requires-clause-texts
assemble-requires-clause-texts g c =
    let laws : TextLaws = record { game = c.read_games_keep_their_form.ensures; states = c.files_have_states.ensures; alone = λ n h. (c.single_fits.ensures n h).0 } in
    let files = c.in_ok-files.files in
    texts (g.S.Shelf.bytes c.args.shelf.now) c.args.name.now files.dynamic files.games.items c.deref.result.now laws c.in_ok-files.ensures.files c.deref.ensures.value

pub returns-clause-why : goal.returns-clause-why
returns-clause-why g c =
    let before : Counts = counts_of g.S.Shelf.faults g.S.Shelf.overlong g.S.Shelf.loads c.args.shelf.now in
    let after : Counts = counts_of g.S.Shelf.faults g.S.Shelf.overlong g.S.Shelf.loads c.read_files.new.shelf in
    let files = c.in_ok-files.files in
    no_game (g.S.Shelf.bytes c.args.shelf.now) c.args.name.now c.args.discount.now before after files.dynamic files.games.items c.deref.result.now c.in-Err.fault c.refused.result
    c.in_ok-files.ensures.files c.deref.ensures.value c.in-Err.ensures.fault c.refused.ensures
