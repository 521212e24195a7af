use Rattle.std.proofs.Common.{◌≡◌, ℕ, ◌+◌, ◌*◌, ◌<◌, below_more, ap, subst, ◌∙◌, arith}
use Rattle.level_table.specs.declared.level.Level.TheVariants.{Empty}
use Rattle.level_table.specs.Levels.{level_at}
use Rattle.level_board.proofs.Moments.{fallen_trans}
use Rattle.worker_pass.proofs.Falling.{scratch_directions}
use Rattle.worker_pass.proofs.States.{empty_fallen}
use Rattle.worker_pass.proofs.clearing.clear_state.Goals as goal

pub loop-k-preserved : goal.loop-k-preserved
loop-k-preserved c =
    let d = c.args.board.now.frame.start.directions in
    let inv = c.loop-k.invariant in
    let old = c.loop-k.owner.seen in
    let new = c.clear_row.new.owner.seen in
    let count : c.directions-count.result ≡ d = c.directions-count.ensures ∙ scratch_directions c.args.board.now.frame c.args.scratch.now.levels c.rules.ensures c.requires.scratch.table in
    let within : c.loop-k.k < d = omega (arith, count) in
    record {
      owner = c.clear_row.ensures.owner;
      scratch = c.clear_row.ensures.scratch;
      same = c.clear_row.ensures.same;
      fell = fallen_trans c.args.owner.now.seen old new inv.fell c.clear_row.ensures.fell;
      here = λ k. below_more (λ (j : ℕ). level_at new (c.args.s * d + j) ≡ Empty) c.loop-k.k (λ j before. empty_fallen old new (c.args.s * d + j) c.clear_row.ensures.fell (inv.here j before))
          (subst (λ (n : ℕ). level_at new (c.args.s * n + c.loop-k.k) ≡ Empty) count c.clear_row.ensures.here) k;
      others = λ r none. c.clear_row.ensures.others r (λ e. none c.loop-k.k within (e ∙ ap (λ (n : ℕ). c.args.s * n + c.loop-k.k) count)) ∙ inv.others r none;
      notes = c.clear_row.ensures.notes ∙ inv.notes;
    }
