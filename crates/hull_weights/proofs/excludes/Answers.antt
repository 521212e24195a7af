use Rattle.hull_weights.proofs.Averages.{separates-excludes}
use Rattle.hull_weights.proofs.excludes.Goals as goal

pub returns : goal.returns
returns c = separates-excludes c.args.points.now c.args.target c.args.normal
