-- one strategy more
use Rattle.std.proofs.Common.{◌≡◌, ◌+◌, ◌^◌, ◌≤◌, ◌∙◌, ap, subst, sym, arith, lit<, below_more, ℤ}
use Rattle.std.specs.Prelude.{slice_index}
use Rattle.std.specs.Int.RustNames.{unsigned_abs}
use Rattle.game_model.specs.Game.{counts, reached, strategy_at, IsDeviation}
use Rattle.level_table.specs.Levels.{levels_in}
use Rattle.level_table.specs.Reasons.{IsKnown}
use Rattle.set_operator.specs.Asked.{IsAsked, IsSideBelow}
use Rattle.set_operator.proofs.Scales.{W, kept}
use Rattle.set_operator.proofs.Sources.{side_more, side_skip, side_all}
use Rattle.set_operator.proofs.boxes.side_of.Goals as goal
use Rattle.set_operator.proofs.boxes.side_of.Goals.{then-b-by+in_ok-asked, else-b-by}

pub loop-b-preserved : goal.loop-b-preserved
loop-b-preserved c =
    let p = c.args.p.now in
    let t = levels_in c.args.levels.now in
    let own : c.deviations_of-by.result.own ≡ strategy_at p.game c.args.state c.args.profile c.args.i = c.deviations_of-by.ensures.own in
    let end : c.strategies-b-end.result ≡ slice_index (counts c.args.p.now.game c.args.state) c.args.i = c.strategies-b-end.ensures ∙ ap (λ g. slice_index (counts g c.args.state) c.args.i) c.game-2.ensures.game in
    elim c.if-b-by.branch [
      | then-b-by+in_ok-asked w ↦
          let low : ℤ = w.in_ok-asked.field-0 in
          let is : W low ≡ low = kept low (2 ^ 62) w.in_ok-asked.ensures.small (lit< tt) in
          let deviation : IsDeviation p.game c.args.state c.args.profile c.args.i c.loop-b.b = record {
            player = c.requires.player;
            strategy = omega (arith, end, c.loop-b-test.true);
            other = λ e. w.if-b-by.true (e ∙ sym own);
          } in
          let asks : IsAsked p t c.args.state c.args.profile c.args.i c.loop-b.b low =
          subst (λ j. IsAsked p t c.args.state c.args.profile j c.loop-b.b low) c.deviations_of-by.ensures.player
          (subst (λ m. IsAsked p t m c.args.profile c.deviations_of-by.result.player c.loop-b.b low) c.deviations_of-by.ensures.state w.in_ok-asked.ensures.some) in
          let reach : IsKnown p t (reached p.game c.args.state c.args.profile c.args.i c.loop-b.b) =
          subst (λ j. IsKnown p t (reached p.game c.args.state c.args.profile j c.loop-b.b)) c.deviations_of-by.ensures.player
          (subst (λ m. IsKnown p t (reached p.game m c.args.profile c.deviations_of-by.result.player c.loop-b.b)) c.deviations_of-by.ensures.state w.in_ok-asked.ensures.known) in
          record {
            side = subst (IsSideBelow p t c.args.state c.args.profile c.args.i (c.loop-b.b + 1)) (sym w.side-is)
                (side_more p t c.args.state c.args.profile c.args.i c.loop-b.b c.loop-b.side w.lowered-side.result (W low) c.loop-b.invariant.side deviation
                (subst (IsAsked p t c.args.state c.args.profile c.args.i c.loop-b.b) (sym is) asks) (subst (λ z. unsigned_abs z ≤ 2 ^ 62) (sym is) w.in_ok-asked.ensures.small)
                w.lowered-side.ensures.less w.lowered-side.ensures.no_less);
            known = below_more _ _ c.loop-b.invariant.known (λ dev. reach);
          }
      | else-b-by w ↦
          let none : IsDeviation p.game c.args.state c.args.profile c.args.i c.loop-b.b → ⊥ = λ dev. dev.other (w.if-b-by.false ∙ own) in
          record {
            side = subst (IsSideBelow p t c.args.state c.args.profile c.args.i (c.loop-b.b + 1)) (sym w.side-is) (side_skip p t c.args.state c.args.profile c.args.i c.loop-b.b c.loop-b.side c.loop-b.invariant.side none);
            known = below_more _ _ c.loop-b.invariant.known (λ dev. absurd (none dev));
          }
    ]

pub returns-clause-some : goal.returns-clause-some
returns-clause-some c =
    let end : c.strategies-b-end.result ≡ slice_index (counts c.args.p.now.game c.args.state) c.args.i = c.strategies-b-end.ensures ∙ ap (λ g. slice_index (counts g c.args.state) c.args.i) c.game-2.ensures.game in
    let all : c.loop-b.b ≡ slice_index (counts c.args.p.now.game c.args.state) c.args.i = omega (arith, end, c.loop-b.auto.b-end, c.loop-b-test.false) in
    side_all c.args.p.now (levels_in c.args.levels.now) c.args.state c.args.profile c.args.i c.loop-b.side
    (subst (λ n. IsSideBelow c.args.p.now (levels_in c.args.levels.now) c.args.state c.args.profile c.args.i n c.loop-b.side) all c.loop-b.invariant.side)
