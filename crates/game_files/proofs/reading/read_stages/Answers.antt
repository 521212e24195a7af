use Rattle.std.proofs.Common.{◌≡◌, ◌↔◌, inr, ℕ, ◌+◌, ◌<◌, List, [], ◌∷◌, ◌++◌, length, Err, IfErr, sym, subst, ap, ◌∙◌, arith}
use Rattle.std.proofs.lemmas.List.{get_or_read, length-append}
use Rattle.std.proofs.lemmas.Result.{err_from_is_err_and}
use Rattle.dyn_text.specs.declared.transitions.DynState.{DynState}
use Rattle.game_files.specs.declared.fault.FileId.TheVariants.{State}
use Rattle.game_files.specs.Loads.{AreLoads, Counts, counts_of}
use Rattle.game_files.specs.Files.{AreStages, IsStage, file_of, no_state}
use Rattle.game_files.specs.Causes.{IsOneFault, IsStagesFault}
use Rattle.game_files.proofs.Moved.{more, one_fault, stage}
use Rattle.game_files.proofs.Stages.{more_stages, stages_before}
use Rattle.game_files.proofs.reading.read_stages.Goals as goal

pub returns-in_err-game-clause-why : goal.returns-in_err-game-clause-why
returns-in_err-game-clause-why g c =
    let told = g.S.Shelf.bytes c.args.shelf.now in
    let d = c.args.dynamic.now in
    let s = c.loop-s.s in
    let before : Counts = counts_of g.S.Shelf.faults g.S.Shelf.overlong g.S.Shelf.loads c.args.shelf.now in
    let mid : Counts = counts_of g.S.Shelf.faults g.S.Shelf.overlong g.S.Shelf.loads c.loop-s.shelf in
    let after : Counts = counts_of g.S.Shelf.faults g.S.Shelf.overlong g.S.Shelf.loads c.read_stage.new.shelf in
    let there : s < length d.states = omega (arith, c.loop-s-test.true, c.len-s-end.ensures) in
    let p = err_from_is_err_and c.from_residual.result c.from_residual.ensures.1 in
    let named : c.as_str.result.now ≡ file_of d s = c.as_str.ensures ∙ ap (λ (x : DynState). x.file) (get_or_read d.states s c.get.result.now there c.get.ensures no_state) in
    let loads : AreLoads s before mid = c.loop-s.invariant.2 in
    let fault = c.in_err-game.field-0.0 in
    let moved : IsOneFault told (State s) c.as_str.result.now before after fault =
    one_fault (g.S.Shelf.bytes c.loop-s.shelf) told (State s) c.as_str.result.now before mid after fault c.loop-s.invariant.3 loads.faults loads.overlong c.in_err-game.ensures.why in
    subst (λ r. IfErr r (IsStagesFault told d before after)) (sym (p.1 ∙ ap Err p.2)) (inr (record {
      s = s;
      there = there;
      read_before = stages_before told d c.loop-s.games.items s c.loop-s.invariant.1 c.loop-s.invariant.0;
      loads = more s 1 before mid after loads c.in_err-game.ensures.loads;
      fault = subst (λ a. IsOneFault told (State s) a before after fault) named moved;
    }))

pub loop-s-preserved : goal.loop-s-preserved
loop-s-preserved g c =
    let told = g.S.Shelf.bytes c.args.shelf.now in
    let d = c.args.dynamic.now in
    let s = c.loop-s.s in
    let before : Counts = counts_of g.S.Shelf.faults g.S.Shelf.overlong g.S.Shelf.loads c.args.shelf.now in
    let mid : Counts = counts_of g.S.Shelf.faults g.S.Shelf.overlong g.S.Shelf.loads c.loop-s.shelf in
    let after : Counts = counts_of g.S.Shelf.faults g.S.Shelf.overlong g.S.Shelf.loads c.read_stage.new.shelf in
    let there : s < length d.states = omega (arith, c.loop-s-test.true, c.len-s-end.ensures) in
    let named : c.as_str.result.now ≡ file_of d s = c.as_str.ensures ∙ ap (λ (x : DynState). x.file) (get_or_read d.states s c.get.result.now there c.get.ensures no_state) in
    let games = c.loop-s.games.items in
    let n = c.in_ok-game.game in
    let read : IsStage told (file_of d s) n = subst (λ a. IsStage told a n) named (stage (g.S.Shelf.bytes c.loop-s.shelf) told c.as_str.result.now n c.loop-s.invariant.3 c.in_ok-game.ensures.read) in
    let here : IsStage told (file_of d (length games)) n = subst (λ t. IsStage told (file_of d t) n) (sym c.loop-s.invariant.0) read in
    let kept = c.in_ok-put.ensures in (
      ap length kept ∙ omega (arith, length-append games (n ∷ []), c.loop-s.invariant.0),
      subst (AreStages told d) (sym kept) (more_stages told d games n c.loop-s.invariant.1 here),
      more s 1 before mid after c.loop-s.invariant.2 c.in_ok-game.ensures.loads,
      λ m. c.in_ok-game.ensures.same_bytes m ∙ c.loop-s.invariant.3 m,
      λ m. (
        λ k. (c.loop-s.invariant.4 m).0 ((c.in_ok-game.ensures.same_names m).0 k),
        λ k. (c.in_ok-game.ensures.same_names m).1 ((c.loop-s.invariant.4 m).1 k),
      ),
    )
