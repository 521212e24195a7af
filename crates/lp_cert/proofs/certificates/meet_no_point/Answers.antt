use Rattle.lp_cert.proofs.Duality.{none_meets}
use Rattle.lp_cert.proofs.certificates.meet_no_point.Goals as goal

pub returns : goal.returns
returns g c = none_meets g.at.program g.at.items g.at.point
