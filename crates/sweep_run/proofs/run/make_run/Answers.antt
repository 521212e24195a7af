use Rattle.std.proofs.Common.{◌≡◌, ◌≤◌, ◌+◌, ℕ, None, Some, refl, sym, ap, subst, ◌∙◌, arith}
use Rattle.level_table.specs.Levels.{levels_in}
use Rattle.level_table.specs.Problem.{Problem}
use Rattle.level_board.specs.Board.{BoardId}
use Rattle.settle_test.specs.Verdicts.{IsVerdict}
use Rattle.worker_pass.specs.Clearings.{AreNamed}
use Rattle.sweep_run.specs.Runs.{IsRunning}
use Rattle.sweep_run.specs.Sweeper.{IsSettling, problem_in}
use Rattle.sweep_run.proofs.Ends.{last_sweep, run_made, running_next, running_same, settled_sweep}
use Rattle.sweep_run.proofs.run.make_run.Goals as goal

pub loop-sweeps-preserved : goal.loop-sweeps-preserved
loop-sweeps-preserved g c =
    let w = c.loop-sweeps.w in
    let v = c.settling.new.self in
    let u = c.sweep.new.self in
    let told = c.in_ok-verdict.ensures in
    let p : Problem = problem_in c.args.start in
    let slack = c.args.slack in
    let same : problem_in v ≡ p = ap (λ (b : BoardId). b.frame.problem) (told.board ∙ c.loop-sweeps.invariant.board) in
    let mine : problem_in w ≡ problem_in v = ap (λ (b : BoardId). b.frame.problem) (sym told.board) in
    let settling : IsSettling (problem_in v) v.scratch.levels slack None = subst (λ (X : Type 0). X) (λ i. IsSettling (mine i) (sym told.levels i) slack (c.in_default.is i)) told.settling in
    record {
      sweeper = c.sweep.ensures.sweeper;
      board = c.sweep.ensures.board ∙ told.board ∙ c.loop-sweeps.invariant.board;
      running = λ start given began.
          running_same start given slack (c.loop-sweeps.sweeps + 1) (problem_in v) p u.scratch.levels u.scratch.levels u.owner.notes u.owner.notes (sym same) refl refl
          (running_next (problem_in v) start given slack c.loop-sweeps.sweeps v.scratch.levels u.scratch.levels v.owner.notes u.owner.notes told.sweeper.frame.problem c.requires.slack
          (running_same start given slack c.loop-sweeps.sweeps p (problem_in v) w.scratch.levels v.scratch.levels w.owner.notes v.owner.notes same told.levels told.notes (c.loop-sweeps.invariant.running start given began))
          settling c.sweep.ensures.swept c.sweep.ensures.noted
          (subst (λ (b : BoardId). AreNamed b.frame.problem (levels_in u.scratch.levels) u.owner.notes) c.sweep.ensures.board c.sweep.ensures.sweeper.named));
    }

pub returns-in-Some : goal.returns-in-Some
returns-in-Some g c =
    let w = c.loop-sweeps.w in
    let v = c.settling.new.self in
    let told = c.in_ok-verdict.ensures in
    let slack = c.args.slack in
    let sweeps = c.loop-sweeps.sweeps in
    let p : Problem = problem_in c.args.start in
    let same : problem_in v ≡ p = ap (λ (b : BoardId). b.frame.problem) (told.board ∙ c.loop-sweeps.invariant.board) in
    let mine : problem_in w ≡ p = ap (λ (b : BoardId). b.frame.problem) c.loop-sweeps.invariant.board in
    let settled : IsSettling p v.scratch.levels slack (Some c.in-Some.verdict) = subst (λ (X : Type 0). X) (λ i. IsSettling (mine i) (sym told.levels i) slack (c.in-Some.is i)) told.settling in
    let within : sweeps ≤ c.args.most = omega arith in
    run_made c.args.start v slack c.args.most sweeps c.in-Some.verdict c.ended.result same
    (λ start given began. running_same start given slack sweeps p p w.scratch.levels v.scratch.levels w.owner.notes v.owner.notes refl told.levels told.notes (c.loop-sweeps.invariant.running start given began))
    settled.0 (settled_sweep c.args.most sweeps c.in-Some.verdict settled.1 within) c.ended.ensures.levels c.ended.ensures.notes c.ended.ensures.sweeps c.ended.ensures.verdict

pub returns : goal.returns
returns g c =
    let w = c.loop-sweeps.w in
    let v = c.verdict.new.self in
    let told = c.in_ok-verdict-2.ensures in
    let slack = c.args.slack in
    let most = c.args.most in
    let verdict = c.in_ok-verdict-2.verdict in
    let all : c.loop-sweeps.sweeps ≡ most = omega arith in
    let p : Problem = problem_in c.args.start in
    let same : problem_in v ≡ p = ap (λ (b : BoardId). b.frame.problem) (told.board ∙ c.loop-sweeps.invariant.board) in
    let mine : problem_in w ≡ p = ap (λ (b : BoardId). b.frame.problem) c.loop-sweeps.invariant.board in
    run_made c.args.start v slack most most verdict c.ended-2.result same
    (λ start given began. subst (λ (n : ℕ). IsRunning p start given slack n v.scratch.levels v.owner.notes) all
    (running_same start given slack c.loop-sweeps.sweeps p p w.scratch.levels v.scratch.levels w.owner.notes v.owner.notes refl told.levels told.notes (c.loop-sweeps.invariant.running start given began)))
    (subst (λ (X : Type 0). X) (λ i. IsVerdict (mine i) (sym told.levels i) slack verdict) told.verdict)
    (last_sweep most most verdict refl) c.ended-2.ensures.levels c.ended-2.ensures.notes c.ended-2.ensures.sweeps c.ended-2.ensures.verdict
