use Rattle.set_operator.proofs.PreparedLemmas.{prepared_kept}
use Rattle.set_operator.proofs.prepared.stays_prepared.Goals as goal

pub returns : goal.returns
returns c = λ p t u q ok keeps ready. prepared_kept p t u q ok keeps ready
