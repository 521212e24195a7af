use Rattle.std.proofs.Common.{◌≡◌, ℕ, ◌+◌, ◌*◌, below_more, subst, ◌∙◌}
use Rattle.level_table.specs.Levels.{level_at}
use Rattle.worker_pass.proofs.Falling.{scratch_directions}
use Rattle.worker_pass.proofs.Loads.{loaded_then}
use Rattle.worker_pass.proofs.loading.load_state.Goals as goal

pub loop-k-preserved : goal.loop-k-preserved
loop-k-preserved c =
    let d = c.args.board.now.frame.start.directions in
    let inv = c.loop-k.invariant in
    let now = c.load_other.ensures in
    let t = c.load_other.new.scratch.levels in
    let v = c.load_other.new.pass.seen in
    let count : c.directions-count.result ≡ d = c.directions-count.ensures ∙ scratch_directions c.args.board.now.frame c.args.scratch.now.levels c.rules.ensures c.requires.scratch.table in
    record {
      board = now.board;
      scratch = now.scratch;
      loaded = loaded_then c.args.pass.now.seen c.loop-k.pass.seen v c.args.scratch.now.levels c.loop-k.scratch.levels t inv.loaded now.loaded;
      here = λ k. below_more (λ (j : ℕ). level_at t (c.args.s * d + j) ≡ level_at v (c.args.s * d + j)) c.loop-k.k (λ j before. now.loaded.held (c.args.s * d + j) (inv.here j before))
          (subst (λ (n : ℕ). level_at t (c.args.s * n + c.loop-k.k) ≡ level_at v (c.args.s * n + c.loop-k.k)) count now.here) k;
      first = now.first ∙ inv.first;
    }
