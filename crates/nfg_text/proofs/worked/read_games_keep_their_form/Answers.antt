use Rattle.nfg_text.proofs.Kept.{read_game}
use Rattle.nfg_text.proofs.worked.read_games_keep_their_form.Goals as goal

pub returns : goal.returns
returns c = read_game
