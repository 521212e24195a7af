use Rattle.std.proofs.Common.{rules, ◌≡◌, ◌<◌, ℕ, ℤ, ◌+◌, [], ◌∷◌, ◌++◌, FitsSigned, to_z, of_z, Ok, Err, take, length, refl, ap, ◌∙◌, arith}
use Rattle.std.proofs.lemmas.Result.{err_from_is_err_and}
use mir.Syntax.{w64}
use Rattle.std.proofs.lemmas.Int.{to_z-of_z, fits_signed_from_abs}
use Rattle.std.proofs.lemmas.Grind.{common_steps}
use Rattle.std.proofs.lemmas.List.{take_more_set}
use Rattle.std.proofs.Math.ListN.{set, length-set}
use Rattle.selfgen_check.specs.Measures.{scaled}
use Rattle.selfgen_check.specs.TextFaults.{each}
use Rattle.selfgen_check.proofs.Keeps.{scaled_small}
use Rattle.selfgen_check.proofs.Measuring.{each_start, each_more, each_fails, each_end, shows_err}
use Rattle.selfgen_check.proofs.measures.point_of.Goals as goal

pub loop-i-init : goal.loop-i-init
loop-i-init c = record { same = each_start (scaled c.args.common) c.args.parts.now [] refl; three = first_of (search rules, grind (arith, common_steps)) }

pub loop-i-preserved : goal.loop-i-preserved
loop-i-preserved c =
    let point = c.loop-i.point in
    let v = c.in_ok-point.field-0 in
    let room : c.loop-i.i < length point = omega (arith, c.loop-i.invariant.three, c.requires) in
    let fits : FitsSigned w64 v = fits_signed_from_abs w64 v (omega (arith, scaled_small c.args.common c.get.result.now v c.in_ok-point.ensures)) in
    let stored : ℤ = to_z w64 (of_z w64 v) in
    let kept : take (c.loop-i.i + 1) (set point c.loop-i.i stored) ≡ take c.loop-i.i point ++ v ∷ [] =
    take_more_set point c.loop-i.i stored room ∙ ap (λ (z : ℤ). take c.loop-i.i point ++ z ∷ []) (to_z-of_z w64 v fits) in
    record {
      same = each_more (scaled c.args.common) (each (scaled c.args.common) c.args.parts.now) c.args.parts.now (take c.loop-i.i point) _ c.loop-i.i c.get.result.now c.get.result.now v (omega arith) c.get.ensures
          c.loop-i.invariant.same c.in_ok-point.ensures kept;
      three = first_of (omega (arith, length-set point c.loop-i.i stored, c.loop-i.invariant.three), grind (arith, common_steps, c.loop-i.invariant.three), search rules);
    }

pub returns-in_err-point : goal.returns-in_err-point
returns-in_err-point c =
    let p = err_from_is_err_and c.from_residual.result c.from_residual.ensures.1 in
    let fault = c.in_err-point.field-0.0 in
    let all = each (scaled c.args.common) c.args.parts.now in
    shows_err _ c.from_residual.result fault all (p.1 ∙ ap Err p.2)
    (each_fails (scaled c.args.common) all c.args.parts.now (take c.loop-i.i c.loop-i.point) c.loop-i.i c.get.result.now c.get.result.now fault (omega arith) c.get.ensures c.loop-i.invariant.same c.in_err-point.ensures)

pub returns : goal.returns
returns c =
    let parts = c.args.parts.now in
    let end : c.loop-i.i ≡ length parts = omega arith in
    each_end (scaled c.args.common) (each (scaled c.args.common) parts) parts (take c.loop-i.i c.loop-i.point) c.loop-i.i (omega arith) c.loop-i.invariant.same ∙ ap (λ (n : ℕ). Ok (take n c.loop-i.point)) end
