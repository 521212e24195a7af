use Rattle.std.proofs.Common.{◌≡◌, ℕ, ◌+◌, ◌<◌, sym, subst, arith, to_z}
use mir.Syntax.{w64}
use Rattle.std.proofs.lemmas.Int.{ints}
use Rattle.game_model.specs.SelfGeneration.{part}
use Rattle.hull_weights.specs.Hull.{point_at}
use Rattle.inner_sets.specs.Choice.{IsFirstLeastBelow}
use Rattle.inner_sets.specs.Rows.{points_in}
use Rattle.inner_sets.proofs.Leasts.{least_start, least_takes, least_keeps}
use Rattle.inner_sets.proofs.row.Row.first_least.Goals.{then-k-eq0, then-k-eq0-via-then-k-eq0, then-k-eq0-via-else-k-eq0+then-part-least, else-k-eq0+else-part-least}
use Rattle.inner_sets.proofs.row.Row.first_least.Goals as goal

pub loop-k-preserved : goal.loop-k-preserved
loop-k-preserved c =
    elim c.if-k-eq0.branch [
      | then-k-eq0 w ↦
          let value : to_z w64 c.if-k-eq0.least-bits ≡ part (point_at (points_in c.args.self.now) c.loop-k.k) c.args.i = omega (arith, ints, w.least-is, c.if-k-eq0.least-is, c.part-part.ensures.part, c.part-part.ensures.small) in
          record {
            least = λ some. subst (λ (p : ℕ). IsFirstLeastBelow c.args.i (points_in c.args.self.now) (c.loop-k.k + 1) p) (sym w.place-is)
                (elim w.then-k-eq0.branch [
                  | then-k-eq0-via-then-k-eq0 w' ↦ least_start c.args.i (points_in c.args.self.now) c.loop-k.k (omega (arith, w'.if-k-eq0.true))
                  | then-k-eq0-via-else-k-eq0+then-part-least w' ↦
                      let positive : 0 < c.loop-k.k = omega (arith, w'.if-k-eq0.false) in
                      least_takes c.args.i (points_in c.args.self.now) c.loop-k.k c.loop-k.place (c.loop-k.invariant.least positive)
                      (omega (arith, ints, w'.if-part-least.true, c.part-part.ensures.part, c.part-part.ensures.small, c.loop-k.invariant.value positive, c.loop-k.least-is))
                ]);
            value = λ some. subst (λ (p : ℕ). to_z w64 c.if-k-eq0.least-bits ≡ part (point_at (points_in c.args.self.now) p) c.args.i) (sym w.place-is) value;
            small = omega (arith, ints, w.least-is, c.if-k-eq0.least-is, c.part-part.ensures.small);
          }
      | else-k-eq0+else-part-least w ↦
          let positive : 0 < c.loop-k.k = omega (arith, w.if-k-eq0.false) in
          let value : to_z w64 c.if-k-eq0.least-bits ≡ part (point_at (points_in c.args.self.now) c.loop-k.place) c.args.i = omega (arith, ints, w.least-is, c.if-k-eq0.least-is, c.loop-k.least-is, c.loop-k.invariant.value positive) in
          record {
            least = λ some. subst (λ (p : ℕ). IsFirstLeastBelow c.args.i (points_in c.args.self.now) (c.loop-k.k + 1) p) (sym w.place-is)
                (least_keeps c.args.i (points_in c.args.self.now) c.loop-k.k c.loop-k.place (c.loop-k.invariant.least positive)
                (omega (arith, ints, w.if-part-least.false, c.part-part.ensures.part, c.part-part.ensures.small, c.loop-k.invariant.value positive, c.loop-k.least-is)));
            value = λ some. subst (λ (p : ℕ). to_z w64 c.if-k-eq0.least-bits ≡ part (point_at (points_in c.args.self.now) p) c.args.i) (sym w.place-is) value;
            small = omega (arith, ints, w.least-is, c.if-k-eq0.least-is, c.loop-k.least-is, c.loop-k.invariant.small);
          }
    ]
