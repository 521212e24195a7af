use Rattle.std.proofs.Common.{◌≡◌, ◌<◌, List, [], ◌∷◌, length, refl, subst, arith, to_z, of_z}
use mir.Syntax.{w64}
use Rattle.std.specs.Prelude.{ℤ, ◌↔◌, slice_index}
use Rattle.std.proofs.lemmas.Int.{ints}
use Rattle.std.proofs.lemmas.List.{length-map}
use Rattle.game_model.specs.SelfGeneration.{part}
use Rattle.game_model.proofs.Cases.{below_two}
use Rattle.hull_weights.specs.Hull.{IsInHull, point_at}
use Rattle.inner_sets.specs.declared.item.Item.{Item}
use Rattle.inner_sets.specs.Choice.{IsFirstLeast}
use Rattle.inner_sets.specs.Rows.{points_in}
use Rattle.inner_sets.proofs.summary.Summary.of.Goals as goal

pub invariant_of-result : goal.invariant_of-result
invariant_of-result c = record {
  summary = record {
    few = (c.in_ok-points.ensures).few;
    points_small = (c.in_ok-points.ensures).small;
    first_each = refl;
    least_each = refl;
    least_small = below_two _ (omega (arith, ints, c.first_least-first.ensures.small)) (omega (arith, ints, c.first_least-first_second.ensures.small));
  };
  same_hull = subst (λ (xs : List (List ℤ)). (t : List ℤ) → IsInHull c.in_ok-corners.corners.items t ↔ IsInHull xs t) c.deref.ensures.value c.in_ok-corners.ensures.hull;
  few_corners = c.in_ok-corners.ensures.few;
  corners_small = c.in_ok-corners.ensures.small;
}

pub returns : goal.returns
returns c =
    let row : List Item = c.args.row.now in
    let some : 0 < length (points_in row) → 0 < length row = λ h. omega (arith, h, length-map row (λ (x : Item). x.point)) in
    record {
      same = (c.in_ok-points.ensures).points;
      first = λ i h k. below_two (λ i. IsFirstLeast i (points_in row) (slice_index (c.first_least-first.result.0 ∷ c.first_least-first_second.result.0 ∷ []) i)) (c.first_least-first.ensures.first (some k)) (c.first_least-first_second.ensures.first (some k)) i h;
      least = λ i h k. below_two (λ i. part (to_z w64 (of_z w64 c.first_least-first.result.1) ∷ to_z w64 (of_z w64 c.first_least-first_second.result.1) ∷ []) i ≡ part (point_at (points_in row) (slice_index (c.first_least-first.result.0 ∷ c.first_least-first_second.result.0 ∷ []) i)) i)
          (let e = c.first_least-first.ensures.least (some k) in omega (arith, ints, e, c.first_least-first.ensures.small))
          (let e = c.first_least-first_second.ensures.least (some k) in omega (arith, ints, e, c.first_least-first_second.ensures.small))
          i h;
    }
