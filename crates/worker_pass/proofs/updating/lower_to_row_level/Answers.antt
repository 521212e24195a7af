use Rattle.std.proofs.Common.{◌/◌, ◌%◌, refl, sym, subst, ◌∙◌, w64}
use Rattle.std.specs.Prelude.{ℤ}
use mir.Val.{to_z, of_z}
use Rattle.level_table.specs.declared.level.Level.TheVariants.{At}
use Rattle.level_table.specs.Levels.{levels_in}
use Rattle.level_table.specs.Problem.{Problem}
use Rattle.level_table.proofs.Numbers.{fits_level}
use Rattle.schedule_core.specs.Frame.{IsRowLevelOf, IsSeen}
use Rattle.set_operator.specs.Answers.{IsRowAnswer}
use Rattle.set_operator.specs.declared.row.RowAnswer.TheVariants as answers
use Rattle.worker_pass.specs.Scratches.{IsScratch}
use Rattle.worker_pass.proofs.Falling.{scratch_directions, seen_on}
use Rattle.worker_pass.proofs.Rows.{answer_here, lowers_seen, row_level_seen}
use Rattle.worker_pass.proofs.updating.lower_to_row_level.Goals as goal

pub lower-requires-clause-level : goal.lower-requires-clause-level
lower-requires-clause-level c =
    let f = c.args.board.now.frame in
    let t = c.args.scratch.now.levels in
    let v = c.args.pass.now.seen in
    let d = f.start.directions in
    let row = c.args.row in
    let seen : IsSeen f v = seen_on _ _ _ c.requires.board c.rules-2.ensures.seen in
    let level = c.in-Level.level in
    let a : IsRowAnswer f.problem (levels_in t) (row / d) (row % d) (answers.Level level c.in-Level.profile c.in-Level.point c.in-Level.reached) =
    answer_here f.problem c.problem-p.result.now t c.make_ready.new.self.levels (row / d) c.make_ready.new.self.prepared.state (row % d) c.place_of-place.result.dir (answers.Level level c.in-Level.profile c.in-Level.point c.in-Level.reached)
    c.problem-p.ensures c.make_ready.ensures.levels (c.make_ready.ensures.state ∙ c.place_of-place.ensures.state) c.place_of-place.ensures.dir c.in-Level.ensures in
    row_level_seen f t v row (At (to_z w64 (of_z w64 level))) c.rules.ensures c.requires.row (scratch_directions f t c.rules.ensures c.requires.scratch.table) seen.directions_agree c.requires.after
    (subst (λ (z : ℤ). IsRowLevelOf f t row (At z)) (sym (fits_level level a.level_small)) a.row_level)

pub returns-in-Level-clause-scratch : goal.returns-in-Level-clause-scratch
returns-in-Level-clause-scratch c = subst (λ (q : Problem). IsScratch q c.make_ready.new.self) c.problem-p.ensures c.make_ready.ensures.scratch

pub returns-in-Level-clause-lowering : goal.returns-in-Level-clause-lowering
returns-in-Level-clause-lowering c =
    let f = c.args.board.now.frame in
    let t = c.args.scratch.now.levels in
    let d = f.start.directions in
    let row = c.args.row in
    let level = c.in-Level.level in
    let a : IsRowAnswer f.problem (levels_in t) (row / d) (row % d) (answers.Level level c.in-Level.profile c.in-Level.point c.in-Level.reached) =
    answer_here f.problem c.problem-p.result.now t c.make_ready.new.self.levels (row / d) c.make_ready.new.self.prepared.state (row % d) c.place_of-place.result.dir (answers.Level level c.in-Level.profile c.in-Level.point c.in-Level.reached)
    c.problem-p.ensures c.make_ready.ensures.levels (c.make_ready.ensures.state ∙ c.place_of-place.ensures.state) c.place_of-place.ensures.dir c.in-Level.ensures in
    lowers_seen f t c.args.pass.now.seen c.lower.new.pass.seen row c.lower.result (to_z w64 (of_z w64 level))
    (subst (λ (z : ℤ). IsRowLevelOf f t row (At z)) (sym (fits_level level a.level_small)) a.row_level) c.lower.ensures.seen c.lower.ensures.back c.lower.ensures.fallen

pub returns-in-EmptyState-clause-lowering : goal.returns-in-EmptyState-clause-lowering
returns-in-EmptyState-clause-lowering c =
    let f = c.args.board.now.frame in
    let d = f.start.directions in
    let row = c.args.row in (
      answer_here f.problem c.problem-p.result.now c.args.scratch.now.levels c.make_ready.new.self.levels (row / d) c.make_ready.new.self.prepared.state (row % d) c.place_of-place.result.dir answers.EmptyState
          c.problem-p.ensures c.make_ready.ensures.levels (c.make_ready.ensures.state ∙ c.place_of-place.ensures.state) c.place_of-place.ensures.dir c.in-EmptyState.ensures,
      refl,
    )
