use Rattle.std.proofs.Common.{◌≡◌, ◌+◌, ◌/◌, ◌%◌, ◌<◌, ◌++◌, length, get_or, set, take, drop, subst, sym, ap, ◌∙◌, arith, length-set}
use Rattle.std.specs.Prelude.{All, decimal}
use Rattle.std.proofs.lemmas.List.Elements.{All-get_or, All-set}
use Rattle.level_table.specs.declared.level.Level.TheVariants.{Empty}
use Rattle.level_table.specs.Levels.{IsSmall, Table}
use Rattle.report_text.specs.Reading.{levels_words}
use Rattle.report_text.proofs.Loops.{levels_next, levels_more}
use Rattle.report_text.proofs.nearest.levels.Goals as goal

pub loop-row-preserved : goal.loop-row-preserved
loop-row-preserved c =
    let k = c.args.sizes.directions in
    let row = c.loop-row.row in
    let old = c.loop-row.levels.levels in
    let new : c.set.new.self.levels ≡ set old row c.level.result = ap (λ (t : Table). t.levels) c.set.ensures in
    record {
      states = ap (λ (t : Table). t.states) c.set.ensures ∙ c.loop-row.invariant.states;
      directions = ap (λ (t : Table). t.directions) c.set.ensures ∙ c.loop-row.invariant.directions;
      one_each = ap length new ∙ length-set old row c.level.result ∙ c.loop-row.invariant.one_each;
      small = subst (All IsSmall) (sym new) (All-set IsSmall old row c.level.result c.level.ensures.keeps c.loop-row.invariant.small);
      read = λ ls rest n all e.
          let h = c.loop-row.invariant.read ls rest n all e in
          let l : row < length ls = omega (arith, n) in
          let r = c.level.ensures.read (decimal (row / k)) (decimal (row % k)) (get_or ls row Empty) (levels_words k (row + 1) (drop (row + 1) ls) ++ rest) (All-get_or IsSmall ls row Empty l all) (levels_next k row ls c.loop-row.words rest l h.1) in
          (ap (take (row + 1)) new ∙ levels_more row ls old c.level.result l (c.loop-row.invariant.one_each ∙ sym n) h.0 r.0, r.1);
    }
