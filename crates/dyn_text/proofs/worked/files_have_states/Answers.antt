use Rattle.dyn_text.proofs.Kept.{kept_states}
use Rattle.dyn_text.proofs.worked.files_have_states.Goals as goal

pub returns : goal.returns
returns c bytes d h = kept_states bytes d h
