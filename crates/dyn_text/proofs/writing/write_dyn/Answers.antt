use Rattle.dyn_text.proofs.Round.{written_again}
use Rattle.dyn_text.proofs.writing.write_dyn.Goals as goal

pub returns-clause-again : goal.returns-clause-again
returns-clause-again c = written_again c.canonical_text.result c.args.dynamic.now c.canonical_text.ensures
