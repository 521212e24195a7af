use Rattle.std.proofs.Common.{◌≡◌, ℕ, below_more, ◌∙◌}
use Rattle.level_table.specs.Levels.{level_at}
use Rattle.level_board.proofs.Moments.{fallen_trans}
use Rattle.worker_pass.proofs.clearing.load_rows.Goals as goal

pub loop-row-preserved : goal.loop-row-preserved
loop-row-preserved c =
    let inv = c.loop-row.invariant in
    let now = c.load_one.ensures in
    record {
      owner = now.owner;
      scratch = now.scratch;
      loaded = λ r. below_more (λ (k : ℕ). level_at c.load_one.new.scratch.levels k ≡ level_at c.load_one.new.owner.seen k) c.loop-row.row (λ k before. now.held k (inv.loaded k before)) now.here r;
      fell = fallen_trans c.args.owner.now.seen c.loop-row.owner.seen c.load_one.new.owner.seen inv.fell now.fell;
      notes = now.notes ∙ inv.notes;
    }
