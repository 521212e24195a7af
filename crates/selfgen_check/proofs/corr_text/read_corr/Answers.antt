use Rattle.selfgen_check.proofs.Keeps.{answer_keeps, gives_read, fails_read}
use Rattle.selfgen_check.proofs.Shaped.{text_written}
use Rattle.selfgen_check.proofs.corr_text.read_corr.Goals as goal

pub measured-requires : goal.measured-requires
measured-requires c = text_written c.args.game.now c.args.bytes.now c.in-Ok.entries c.in-Ok.ensures

pub returns-in-Ok-clause-value : goal.returns-in-Ok-clause-value
returns-in-Ok-clause-value c = gives_read c.args.game.now c.args.bytes.now c.in-Ok.entries c.measured.result c.in-Ok.ensures c.measured.ensures.value

pub returns-in-Ok-clause-limits : goal.returns-in-Ok-clause-limits
returns-in-Ok-clause-limits c =
    let read = gives_read c.args.game.now c.args.bytes.now c.in-Ok.entries c.measured.result c.in-Ok.ensures c.measured.ensures.value in
    answer_keeps c.args.game.now c.args.bytes.now c.measured.result c.players-players.ensures.is_game read c.measured.ensures.positive

pub returns-in-Err-clause-value : goal.returns-in-Err-clause-value
returns-in-Err-clause-value c = fails_read c.args.game.now c.args.bytes.now c.in-Err.fault c.told.result c.told.ensures c.in-Err.ensures
