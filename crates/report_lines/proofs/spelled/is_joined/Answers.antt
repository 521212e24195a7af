use Rattle.std.proofs.Common.{◌++◌, ◌∷◌}
use Rattle.report_lines.proofs.Joined.{decided}
use Rattle.report_lines.proofs.spelled.is_joined.Goals as goal

pub returns : goal.returns
returns c = decided c.has_parts.result c.args.word.now (c.args.first.now ++ 47 ∷ c.args.second.now) c.has_parts.ensures
