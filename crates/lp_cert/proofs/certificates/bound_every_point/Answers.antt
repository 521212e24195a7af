use Rattle.lp_cert.proofs.Duality.{bound_holds}
use Rattle.lp_cert.proofs.certificates.bound_every_point.Goals as goal

pub returns : goal.returns
returns g c = λ q l b m. bound_holds g.at.program g.at.objective g.at.items g.at.num g.at.den g.at.point l q b m
