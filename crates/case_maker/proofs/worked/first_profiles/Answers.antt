use Rattle.std.proofs.Common.{refl}
use Rattle.case_maker.specs.Generated.{listed, number_after}
use Rattle.case_maker.proofs.worked.first_profiles.Goals as goal

pub returns-clause-profile_0 : goal.returns-clause-profile_0
unfolding listed number_after
returns-clause-profile_0 c = (refl, refl, refl)

pub returns-clause-profile_1 : goal.returns-clause-profile_1
unfolding listed number_after
returns-clause-profile_1 c = (refl, refl, refl)

pub returns-clause-profile_2 : goal.returns-clause-profile_2
unfolding listed number_after
returns-clause-profile_2 c = (refl, refl, refl)
