use Rattle.level_table.specs.Levels.{levels_in}
use Rattle.set_operator.proofs.LineLemmas.{next_by_line}
use Rattle.set_operator.proofs.lines.asks_at.Goals as goal

pub returns-in-None-term : goal.returns-in-None-term
returns-in-None-term c = λ h. c.in-None-term.ensures.none (next_by_line c.args.p.now (levels_in c.args.levels.now) c.args.by.now.state c.args.profile c.args.by.now.player c.rules.ensures c.requires.state c.requires.profile c.requires.player h)
