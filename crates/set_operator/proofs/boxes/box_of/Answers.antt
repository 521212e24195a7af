-- one player more
use Rattle.std.proofs.Common.{◌≡◌, ◌∙◌, inl, inr, ℕ, ◌^◌, ◌<◌, ◌≤◌, length, sym, subst, arith, lit<, below_more, slice_index_or, slice_set, pos, ◌*ℤ◌}
use Rattle.std.specs.Int.RustNames.{unsigned_abs}
use Rattle.std.proofs.lemmas.Bool.{cases_eq}
use Rattle.std.proofs.lemmas.List.{get_or-set_same, get_or-set_other, length-set}
use Rattle.game_model.specs.Game.{payoff_at}
use Rattle.level_table.specs.Levels.{levels_in}
use Rattle.set_operator.specs.Boxes.{IsSide, no_side, stage_scale}
use Rattle.set_operator.proofs.Scales.{W, kept}
use Rattle.set_operator.proofs.boxes.box_of.Goals as goal

pub loop-i-preserved : goal.loop-i-preserved
loop-i-preserved c =
    let p = c.args.p.now in
    let t = levels_in c.args.levels.now in
    let i : ℕ = c.loop-i.i in
    let w : W c.stage_of.result ≡ c.stage_of.result = kept c.stage_of.result (2 ^ 60) c.stage_of.ensures.small (lit< tt) in
    let few : i < 3 = omega (arith, c.players-i-end.ensures, c.loop-i-test.true, c.game.ensures.is_problem.game.three_players) in
    let in_sides : i < length c.loop-i.sides = omega (arith, few, c.loop-i.invariant.three_sides) in
    let in_stages : i < length c.loop-i.stage = omega (arith, few, c.loop-i.invariant.three_stages) in
    record {
      three_sides = length-set c.loop-i.sides i c.in_ok-sides.field-0 ∙ c.loop-i.invariant.three_sides;
      three_stages = length-set c.loop-i.stage i (W c.stage_of.result) ∙ c.loop-i.invariant.three_stages;
      sides = λ j below. elim (cases_eq j i) [
        | inl same ↦ subst (λ m. IsSide p t c.args.state c.args.profile m (slice_index_or (slice_set c.loop-i.sides i c.in_ok-sides.field-0) m no_side)) (sym same)
            (rw (get_or-set_same c.loop-i.sides i c.in_ok-sides.field-0 no_side in_sides) c.in_ok-sides.ensures.some)
        | inr other ↦ rw (get_or-set_other c.loop-i.sides i j c.in_ok-sides.field-0 no_side other) (c.loop-i.invariant.sides j (omega (arith, below)))
      ];
      known = below_more _ _ c.loop-i.invariant.known c.in_ok-sides.ensures.reached;
      stage = λ j below. elim (cases_eq j i) [
        | inl same ↦ subst (λ m. slice_index_or (slice_set c.loop-i.stage i (W c.stage_of.result)) m (pos 0) ≡ pos (stage_scale p m) *ℤ payoff_at p.game c.args.state c.args.profile m) (sym same)
            (get_or-set_same c.loop-i.stage i (W c.stage_of.result) (pos 0) in_stages ∙ w ∙ c.stage_of.ensures.stage)
        | inr other ↦ get_or-set_other c.loop-i.stage i j (W c.stage_of.result) (pos 0) other ∙ c.loop-i.invariant.stage j (omega (arith, below))
      ];
      small = λ j. elim (cases_eq j i) [
        | inl same ↦ subst (λ m. unsigned_abs (slice_index_or (slice_set c.loop-i.stage i (W c.stage_of.result)) m (pos 0)) ≤ 2 ^ 60) (sym same)
            (rw (get_or-set_same c.loop-i.stage i (W c.stage_of.result) (pos 0) in_stages, w) c.stage_of.ensures.small)
        | inr other ↦ rw (get_or-set_other c.loop-i.stage i j (W c.stage_of.result) (pos 0) other) (c.loop-i.invariant.small j)
      ];
    }
