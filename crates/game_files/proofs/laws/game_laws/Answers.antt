use Rattle.game_files.proofs.RightFiles.{right_files}
use Rattle.game_files.proofs.laws.game_laws.Goals as goal

pub returns : goal.returns
returns c = right_files
