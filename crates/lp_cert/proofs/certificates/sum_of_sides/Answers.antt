use Rattle.std.proofs.Common.{◌≡◌, ℕ, ◌+◌, ◌*◌, ◌<◌, ◌≤◌, ◌^◌, length, ℤ, ◌+ℤ◌, ◌*ℤ◌, subst, arith, to_z}
use Rattle.std.specs.Int.{w128}
use Rattle.std.specs.Int.RustNames.{FitsSigned, unsigned_abs}
use Rattle.std.proofs.lemmas.Int.{to_z-of_z}
use Rattle.lp_cert.specs.Program.{IsRow}
use Rattle.lp_cert.proofs.Steps.{bound_more, got, right_row, times_small, side_step, fits_times, fits_side, fits_sides}
use Rattle.lp_cert.proofs.certificates.sum_of_sides.Goals as goal

pub loop-i-preserved : goal.loop-i-preserved
loop-i-preserved c =
    let p = c.args.rows.now in
    let items = c.args.items.now in
    let i = c.loop-i.i in
    let item = c.get.result.now in
    let row = c.row.result in
    let s = to_z w128 c.loop-i.sum-bits in
    let t = c.weighed_side-sum.result in
    let l : i < length items = omega (arith, c.len-i-end.ensures.value, c.loop-i-test.true) in
    let few : i < 4 = omega (arith, c.len-i-end.ensures.room) in
    let exists : item.0 < length p.rows = subst (λ (x : ℕ × ℤ). x.0 < length p.rows) (got items i item c.get.ensures item) (c.requires.weights.rows i item l) in
    let right : IsRow p.dimension row = right_row p item.0 row c.row.ensures.program exists c.row.ensures.value in
    let times : unsigned_abs item.1 ≤ 2 ^ 20 = times_small items i item c.requires.small l c.get.ensures in
    let fits_item : FitsSigned w128 item.1 = fits_times item.1 times in
    let small : unsigned_abs (c.row.result.h) ≤ 2 ^ 64 = right.side in
    let fits_value : FitsSigned w128 (c.row.result.h) = fits_side c.row.result.h small in
    let value : t ≡ item.1 *ℤ c.row.result.h = simp to_z-of_z at c.weighed_side-sum.ensures.value in
    let bound : unsigned_abs (s +ℤ t) ≤ (i + 1) * (2 ^ 84) = bound_more s t i (2 ^ 84) c.loop-i.invariant.1 c.weighed_side-sum.ensures.bound in
    let fits_t : FitsSigned w128 t = record { sfits = c.weighed_side-sum.type_inv } in
    let fits : FitsSigned w128 (s +ℤ t) = fits_sides (s +ℤ t) i few bound in
    let equal = side_step p items i item row s t l c.get.ensures c.row.ensures.value c.loop-i.invariant.0 value in
    simp to_z-of_z (equal, bound)
