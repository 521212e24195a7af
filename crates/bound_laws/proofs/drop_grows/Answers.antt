use Rattle.bound_laws.proofs.Falls as lemmas
use Rattle.bound_laws.proofs.drop_grows.Goals as goal

pub returns-clause-start : goal.returns-clause-start
returns-clause-start c = lemmas.no_drop_at_start

pub returns-clause-grows : goal.returns-clause-grows
returns-clause-grows c = lemmas.drop_grows

pub returns-clause-rises : goal.returns-clause-rises
returns-clause-rises c = lemmas.drop_rises

pub returns-clause-at_most : goal.returns-clause-at_most
returns-clause-at_most c = lemmas.drop_at_most

pub returns-clause-from_opening : goal.returns-clause-from_opening
returns-clause-from_opening c = lemmas.range_is_floor
