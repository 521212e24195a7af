use Rattle.std.proofs.Common.{◌≡◌, refl, ap, arith, rules, inl, inr}
use Rattle.std.specs.Int.{w64}
use Rattle.std.specs.Int.RustNames.{FitsSigned}
use Rattle.std.proofs.lemmas.Int.{ints}
use Rattle.lp_core.specs.declared.reduced.Line.{Line}
use Rattle.lp_core.specs.Corner.{upper_side, lower_side}
use Rattle.lp_core.specs.Planar.{lines_of}
use Rattle.lp_core.proofs.planar.box_end.Goals as goal

pub returns-then-times-lt0-clause-best : goal.returns-then-times-lt0-clause-best
returns-then-times-lt0-clause-best c =
    let k = c.args.k in
    let lines = lines_of c.args.rows.now in
    let f1 : FitsSigned w64 c.in_ok-upper.field-0.side = search rules in
    let f2 : FitsSigned w64 c.in_ok-lower.field-0.side = search rules in
    let s1 = c.in_ok-upper.field-0.small_side in
    let s2 = c.in_ok-lower.field-0.small_side in
    let upper : c.in_ok-upper.field-0.side ≡ upper_side lines k = ap (λ (x : Line). x.h) c.in_ok-upper.ensures.row in
    let lower : c.in_ok-lower.field-0.side ≡ lower_side lines k = ap (λ (x : Line). x.h) c.in_ok-lower.ensures.row in
    record {
      some = omega (arith, ints, upper, lower);
      which = inr (record { row = refl; at = omega (arith, ints, lower); times = omega (arith, ints); sign = omega (arith, ints) });
    }

pub returns-clause-best : goal.returns-clause-best
returns-clause-best c =
    let k = c.args.k in
    let lines = lines_of c.args.rows.now in
    let f1 : FitsSigned w64 c.in_ok-upper.field-0.side = search rules in
    let f2 : FitsSigned w64 c.in_ok-lower.field-0.side = search rules in
    let s1 = c.in_ok-upper.field-0.small_side in
    let s2 = c.in_ok-lower.field-0.small_side in
    let upper : c.in_ok-upper.field-0.side ≡ upper_side lines k = ap (λ (x : Line). x.h) c.in_ok-upper.ensures.row in
    let lower : c.in_ok-lower.field-0.side ≡ lower_side lines k = ap (λ (x : Line). x.h) c.in_ok-lower.ensures.row in
    record {
      some = omega (arith, ints, upper, lower);
      which = inl (record { row = refl; at = omega (arith, ints, upper); times = omega (arith, ints); sign = omega (arith, ints) });
    }
