use Rattle.std.proofs.Common.{◌≡◌, ℕ, ◌<◌, refl, sym, subst}
use Rattle.game_model.specs.Game.{states}
use Rattle.level_table.specs.declared.level.Level.TheVariants.{Empty}
use Rattle.level_table.specs.declared.reason.Note.{Note}
use Rattle.level_table.specs.Levels.{Table, levels_in}
use Rattle.level_table.specs.Problem.{Problem}
use Rattle.level_table.specs.Reasons.{AreReasonsOver}
use Rattle.worker_pass.proofs.Naming.{note_from}
use Rattle.worker_pass.proofs.States.{AreMarkedOff, is_even, marked_off, names_empty}
use Rattle.worker_pass.proofs.clearing.name_state.Goals as goal

pub keep-requires-clause-note : goal.keep-requires-clause-note
keep-requires-clause-note c =
    let f = c.args.board.now.frame in
    let o = c.args.owner.now in
    let note : Note = record { state = c.args.s; reasons = c.explain.new.reasons } in
    let marked : AreMarkedOff f o.notes o.seen = marked_off c.args.board.now o c.rules.ensures c.requires.owner c.rules-2.ensures.seen c.rules-2.ensures.named c.requires.cleared in
    let state : c.args.s < states f.problem.game = subst (λ (i : ℕ). i < states f.problem.game) c.requires.state c.requires.ready.state in
    note_from f.problem (levels_in o.seen) o.notes c.args.s note c.rules.ensures.problem (is_even f o.notes o.seen marked) (names_empty f o.notes o.seen marked) state
    (λ e. c.requires.number (subst (λ (t : Table). levels_in t c.args.s 0 ≡ Empty) (sym c.requires.same) e))
    (record {
      state = refl;
      reasons = subst (λ (t : Table). AreReasonsOver f.problem (levels_in t) c.args.s c.explain.new.reasons.list) c.requires.same
          (subst (λ (q : Problem). AreReasonsOver q (levels_in c.args.scratch.now.levels) c.args.s c.explain.new.reasons.list) c.problem.ensures
          (subst (λ (i : ℕ). AreReasonsOver c.problem.result.now (levels_in c.args.scratch.now.levels) i c.explain.new.reasons.list) c.requires.state c.explain.ensures.reasons));
    })
