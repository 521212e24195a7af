use Rattle.selfgen_check.specs.Promises.{correspondence_of}
use Rattle.deviation_laws.specs.Gains.{all_formed, gain_of}
use Rattle.deviation_laws.proofs.Values.{answers_small, answers_equal, answers_lowest, answers_beyond}
use Rattle.deviation_laws.proofs.gains.gain.Goals as goal

pub returns : goal.returns
returns c = record {
  small = answers_small (all_formed c.args.set.now.game (correspondence_of c.args.set.now.game c.args.set.now.corr) c.args.player c.args.state c.args.entry c.args.plan.now) (gain_of c.args.set.now.game (correspondence_of c.args.set.now.game c.args.set.now.corr) c.args.player c.args.state c.args.entry c.args.plan.now) c.gained.result c.gained.ensures.answers;
  equal = answers_equal (all_formed c.args.set.now.game (correspondence_of c.args.set.now.game c.args.set.now.corr) c.args.player c.args.state c.args.entry c.args.plan.now) (gain_of c.args.set.now.game (correspondence_of c.args.set.now.game c.args.set.now.corr) c.args.player c.args.state c.args.entry c.args.plan.now) c.gained.result c.gained.ensures.answers;
  positive = c.gained.ensures.positive;
  lowest = answers_lowest (all_formed c.args.set.now.game (correspondence_of c.args.set.now.game c.args.set.now.corr) c.args.player c.args.state c.args.entry c.args.plan.now) (gain_of c.args.set.now.game (correspondence_of c.args.set.now.game c.args.set.now.corr) c.args.player c.args.state c.args.entry c.args.plan.now) c.gained.result c.gained.ensures.answers;
  beyond = answers_beyond (all_formed c.args.set.now.game (correspondence_of c.args.set.now.game c.args.set.now.corr) c.args.player c.args.state c.args.entry c.args.plan.now) (gain_of c.args.set.now.game (correspondence_of c.args.set.now.game c.args.set.now.corr) c.args.player c.args.state c.args.entry c.args.plan.now) c.gained.result c.gained.ensures.answers;
}
