use Rattle.dyn_text.proofs.repeated.single_fits.Goals as goal
use Rattle.dyn_text.proofs.OneState as fits

pub returns : goal.returns
returns c = fits.single_fits
