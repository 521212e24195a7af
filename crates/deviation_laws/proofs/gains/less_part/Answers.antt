use Rattle.std.proofs.Common.{◌^◌, refl}
use Rattle.exact_algebra.proofs.Order.{abs_neg}
use Rattle.game_model.specs.SelfGeneration.{entry_at, part}
use Rattle.selfgen_check.specs.Promises.{correspondence_of}
use Rattle.deviation_laws.proofs.Outcomes.{neg_read}
use Rattle.deviation_laws.proofs.gains.less_part.Goals as goal

pub in_units-requires : goal.in_units-requires
in_units-requires c = rw (neg_read c.part_of.result c.part_of.result refl c.part_of.ensures.small) (abs_neg c.part_of.result (2 ^ 30) c.part_of.ensures.small)

pub returns-clause-equal : goal.returns-clause-equal
returns-clause-equal c = rw (neg_read c.part_of.result (part (entry_at (correspondence_of c.args.set.now.game c.args.set.now.corr) c.args.state c.args.entry).point c.args.player) c.part_of.ensures.part c.part_of.ensures.small) at c.in_units.ensures.equal
