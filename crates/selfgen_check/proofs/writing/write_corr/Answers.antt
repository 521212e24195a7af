use Rattle.selfgen_check.proofs.Again.{text_again}
use Rattle.selfgen_check.proofs.writing.write_corr.Goals as goal

pub returns-clause-again : goal.returns-clause-again
returns-clause-again c = text_again c.canonical_text.result c.args.game.now c.args.corr.now c.canonical_text.ensures
