use Rattle.std.proofs.Common.{◌+◌, ◌*◌, subst, ap, ◌∙◌}
use Rattle.level_table.specs.Tables.{IsWhole}
use Rattle.level_table.proofs.TableLemmas.{put_is}
use Rattle.level_table.proofs.table.LevelTable.put.Goals as goal

pub returns : goal.returns
returns c = put_is c.args.self.now c.set-2.new.self c.args.state c.args.dir _ c.args.level (subst IsWhole c.set.view_is c.set.invariant) c.requires.state c.requires.dir (ap (λ n. c.args.state * n + c.args.dir) (ap (λ t. t.directions) c.set.view_is)) c.set-2.ensures
