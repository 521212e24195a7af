use Rattle.nfg_text.proofs.Round.{written_again}
use Rattle.nfg_text.proofs.writing.write_nfg.Goals as goal

pub returns-clause-again : goal.returns-clause-again
returns-clause-again c = written_again c.canonical_text.result c.args.nfg.now c.canonical_text.ensures
