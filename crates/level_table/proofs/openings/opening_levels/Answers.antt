-- each level so far is the opening level and is within its limit
use Rattle.std.proofs.Common.{◌≡◌, ◌≢◌, ◌^◌, ◌<◌, ◌≤◌, ◌∙◌, subst, arith, rules, length, ℤ, to_z, of_z, FitsSigned, below_more}
use Rattle.std.specs.Int.{w64, w128}
use Rattle.std.specs.Int.RustNames.{unsigned_abs}
use Rattle.std.proofs.lemmas.Int.{to_z-of_z, fits_signed_from_abs}
use Rattle.std.proofs.lemmas.List.{get_or-set_other, get_or-set_same, length-set}
use Rattle.level_table.proofs.openings.opening_levels.Goals as goal

pub loop-k-preserved : goal.loop-k-preserved
loop-k-preserved c =
    let level : ℤ = c.level_in-level.result in
    let level_fits : FitsSigned w128 level = search rules in
    let wide : to_z w128 (of_z w128 level) ≡ level = to_z-of_z w128 level level_fits in
    let small : unsigned_abs (to_z w128 (of_z w128 level)) ≤ 2 ^ 50 = omega (arith, c.unsigned_abs.ensures.value, c.if-unsigned_abs-gt-LIMIT.false) in
    let low : unsigned_abs level ≤ 2 ^ 50 = rw wide at small in
    let fits : FitsSigned w64 level = fits_signed_from_abs w64 level (omega arith) in
    let kept : to_z w64 (of_z w64 (to_z w128 (of_z w128 level))) ≡ level = rw wide (to_z-of_z w64 level fits) in
    let inside : c.loop-k.k < length c.loop-k.levels = omega (arith, c.loop-k.invariant.count, c.rules.ensures.rules.count_small, c.count-k-end.ensures, c.loop-k-test.true) in
    record {
      count = length-set c.loop-k.levels c.loop-k.k (to_z w64 (of_z w64 (to_z w128 (of_z w128 level)))) ∙ c.loop-k.invariant.count;
      levels = below_more _ _
          (λ j h. let other : j ≢ c.loop-k.k = omega arith in rw get_or-set_other (c.loop-k.invariant.levels j h))
          (rw get_or-set_same (kept ∙ c.level_in-level.ensures.level));
      small = below_more _ _ c.loop-k.invariant.small (subst (λ (x : ℤ). unsigned_abs x ≤ 2 ^ 50) c.level_in-level.ensures.level low);
    }
