use Rattle.std.proofs.Common.{◌≡◌, ◌/◌, ◌%◌, Some, None, refl, sym, subst, ◌∙◌, w64}
use Rattle.std.specs.Prelude.{ℤ}
use Rattle.std.specs.Int.Signed.{lt_z_no, lt_z_yes}
use Rattle.std.proofs.lemmas.Float.{T_from_false, T_from_true}
use Rattle.std.proofs.lemmas.Int.{to_z-of_z}
use Rattle.std.proofs.lemmas.List.{length-set}
use mir.Val.{to_z, of_z}
use Rattle.level_table.specs.declared.level.Level.TheVariants.{At}
use Rattle.level_table.specs.Levels.{IsSmall, level_at, levels_in}
use Rattle.level_table.specs.Problem.{Problem}
use Rattle.schedule_core.specs.Frame.{IsRowLevelOf, IsSeen}
use Rattle.schedule_core.proofs.Levels.{row_known}
use Rattle.set_operator.specs.Prepared.{IsLesser}
use Rattle.worker_pass.specs.Scratches.{IsScratch}
use Rattle.worker_pass.specs.declared.updating.UpdateNote.TheVariants as notes
use Rattle.worker_pass.proofs.Falling.{scratch_directions, seen_on}
use Rattle.worker_pass.proofs.Rows.{less, less_is_row_level, lesser_fits, lesser_here, lowers_seen, not_less, row_level_above, row_level_seen, stays_seen}
use Rattle.worker_pass.proofs.updating.lower_to_less.Goals as goal

pub lower-requires-clause-level : goal.lower-requires-clause-level
lower-requires-clause-level c =
    let f = c.args.board.now.frame in
    let t = c.args.scratch.now.levels in
    let v = c.args.pass.now.seen in
    let d = f.start.directions in
    let row = c.args.row in
    let ok = c.rules.ensures in
    let found = c.in-Some.found in
    let back : to_z w64 (of_z w64 c.args.level) ≡ c.args.level = to_z-of_z w64 c.args.level c.ranges.level in
    let seen : IsSeen f v = seen_on _ _ _ c.requires.board c.rules-2.ensures.seen in
    let h : IsLesser f.problem (levels_in t) (row / d) (row % d) c.args.level (Some found) =
    lesser_here f.problem c.problem-p.result.now t c.make_ready.new.self.levels (row / d) c.make_ready.new.self.prepared.state (row % d) c.place_of-place.result.dir c.args.level _ (Some found)
    c.problem-p.ensures c.make_ready.ensures.levels (c.make_ready.ensures.state ∙ c.place_of-place.ensures.state) c.place_of-place.ensures.dir back c.in-Some.ensures in
    let small : IsSmall (At c.args.level) = subst IsSmall (sym c.requires.here ∙ c.requires.level) (seen.sound row c.requires.row).small in
    let fits = lesser_fits f t v row c.args.level found ok c.requires.row (scratch_directions f t ok c.requires.scratch.table) seen c.requires.after small h in
    row_level_seen f t v row (At (to_z w64 (of_z w64 found.level))) ok c.requires.row (scratch_directions f t ok c.requires.scratch.table) seen.directions_agree c.requires.after
    (subst (λ (z : ℤ). IsRowLevelOf f t row (At z)) (sym fits)
    (less_is_row_level f.problem (levels_in t) (row / d) (row % d) c.args.level found.level found (ok.problem, row_known f row ok c.requires.row) h refl (less c.args.level found.level _ _ back fits (lt_z_yes (T_from_true _ c.if-found-level.true)))))

pub returns-then-found-level-clause-scratch : goal.returns-then-found-level-clause-scratch
returns-then-found-level-clause-scratch c =
    let w = c.make_ready.new.self in
    let h = subst (λ (q : Problem). IsScratch q w) c.problem-p.ensures c.make_ready.ensures.scratch in
    record { table = h.table; room = h.room; note = h.note; hints = length-set w.hints.items _ _ ∙ h.hints; ready = h.ready }

pub returns-then-found-level-clause-lowering : goal.returns-then-found-level-clause-lowering
returns-then-found-level-clause-lowering c =
    let f = c.args.board.now.frame in
    let t = c.args.scratch.now.levels in
    let v = c.args.pass.now.seen in
    let d = f.start.directions in
    let row = c.args.row in
    let ok = c.rules.ensures in
    let found = c.in-Some.found in
    let back : to_z w64 (of_z w64 c.args.level) ≡ c.args.level = to_z-of_z w64 c.args.level c.ranges.level in
    let seen : IsSeen f v = seen_on _ _ _ c.requires.board c.rules-2.ensures.seen in
    let h : IsLesser f.problem (levels_in t) (row / d) (row % d) c.args.level (Some found) =
    lesser_here f.problem c.problem-p.result.now t c.make_ready.new.self.levels (row / d) c.make_ready.new.self.prepared.state (row % d) c.place_of-place.result.dir c.args.level _ (Some found)
    c.problem-p.ensures c.make_ready.ensures.levels (c.make_ready.ensures.state ∙ c.place_of-place.ensures.state) c.place_of-place.ensures.dir back c.in-Some.ensures in
    let small : IsSmall (At c.args.level) = subst IsSmall (sym c.requires.here ∙ c.requires.level) (seen.sound row c.requires.row).small in
    let fits = lesser_fits f t v row c.args.level found ok c.requires.row (scratch_directions f t ok c.requires.scratch.table) seen c.requires.after small h in (
      notes.Lowered (to_z w64 (of_z w64 found.level)),
      lowers_seen f t v c.lower.new.pass.seen row c.lower.result (to_z w64 (of_z w64 found.level))
          (subst (λ (z : ℤ). IsRowLevelOf f t row (At z)) (sym fits)
          (less_is_row_level f.problem (levels_in t) (row / d) (row % d) c.args.level found.level found (ok.problem, row_known f row ok c.requires.row) h refl (less c.args.level found.level _ _ back fits (lt_z_yes (T_from_true _ c.if-found-level.true)))))
          c.lower.ensures.seen c.lower.ensures.back c.lower.ensures.fallen,
    )

pub returns-else-found-level-clause-scratch : goal.returns-else-found-level-clause-scratch
returns-else-found-level-clause-scratch c =
    let w = c.make_ready.new.self in
    let h = subst (λ (q : Problem). IsScratch q w) c.problem-p.ensures c.make_ready.ensures.scratch in
    record { table = h.table; room = h.room; note = h.note; hints = length-set w.hints.items _ _ ∙ h.hints; ready = h.ready }

pub returns-else-found-level-clause-lowering : goal.returns-else-found-level-clause-lowering
returns-else-found-level-clause-lowering c =
    let f = c.args.board.now.frame in
    let t = c.args.scratch.now.levels in
    let v = c.args.pass.now.seen in
    let d = f.start.directions in
    let row = c.args.row in
    let ok = c.rules.ensures in
    let found = c.in-Some.found in
    let back : to_z w64 (of_z w64 c.args.level) ≡ c.args.level = to_z-of_z w64 c.args.level c.ranges.level in
    let seen : IsSeen f v = seen_on _ _ _ c.requires.board c.rules-2.ensures.seen in
    let h : IsLesser f.problem (levels_in t) (row / d) (row % d) c.args.level (Some found) =
    lesser_here f.problem c.problem-p.result.now t c.make_ready.new.self.levels (row / d) c.make_ready.new.self.prepared.state (row % d) c.place_of-place.result.dir c.args.level _ (Some found)
    c.problem-p.ensures c.make_ready.ensures.levels (c.make_ready.ensures.state ∙ c.place_of-place.ensures.state) c.place_of-place.ensures.dir back c.in-Some.ensures in
    let here : level_at v row ≡ At c.args.level = sym c.requires.here ∙ c.requires.level in
    let fits = lesser_fits f t v row c.args.level found ok c.requires.row (scratch_directions f t ok c.requires.scratch.table) seen c.requires.after (subst IsSmall here (seen.sound row c.requires.row).small) h in
    let above = row_level_above f.problem (levels_in t) (row / d) (row % d) c.args.level found (ok.problem, row_known f row ok c.requires.row) h (not_less c.args.level found.level _ _ back fits (lt_z_no (T_from_false _ c.if-found-level.false))) in
    (notes.Lowered above.0, stays_seen f t v row c.args.level above.0 above.1 here above.2)

pub returns-in-None-clause-lowering : goal.returns-in-None-clause-lowering
returns-in-None-clause-lowering c =
    let f = c.args.board.now.frame in
    let d = f.start.directions in
    let row = c.args.row in
    let back : to_z w64 (of_z w64 c.args.level) ≡ c.args.level = to_z-of_z w64 c.args.level c.ranges.level in (
      notes.NothingAdmissible,
      (
        lesser_here f.problem c.problem-p.result.now c.args.scratch.now.levels c.make_ready.new.self.levels (row / d) c.make_ready.new.self.prepared.state (row % d) c.place_of-place.result.dir c.args.level _ None
            c.problem-p.ensures c.make_ready.ensures.levels (c.make_ready.ensures.state ∙ c.place_of-place.ensures.state) c.place_of-place.ensures.dir back c.in-None.ensures,
        refl,
      ),
    )
