use Rattle.std.proofs.Common.{sym}
use Rattle.std.proofs.lemmas.Int.{to_z-of_z}
use Rattle.lp_core.proofs.Along.{along_is}
use Rattle.lp_core.proofs.Fits.{ProductFits, product_fits}
use Rattle.lp_core.proofs.reduced.product.Goals as goal

pub overflow_mul-result : goal.overflow_mul-result
overflow_mul-result c =
    let f : ProductFits c.args.c c.args.y = product_fits c.args.c c.args.y c.requires.left c.requires.right in
    let c0 = f.c0 in
    let c1 = f.c1 in
    let c2 = f.c2 in
    let y0 = f.y0 in
    let y1 = f.y1 in
    let y2 = f.y2 in
    let p0 = f.p0 in
    let p1 = f.p1 in
    let p2 = f.p2 in
    let s = f.s in
    let t = f.t in
    simp to_z-of_z f.p0

pub overflow_mul-result-2 : goal.overflow_mul-result-2
overflow_mul-result-2 c =
    let f : ProductFits c.args.c c.args.y = product_fits c.args.c c.args.y c.requires.left c.requires.right in
    let c0 = f.c0 in
    let c1 = f.c1 in
    let c2 = f.c2 in
    let y0 = f.y0 in
    let y1 = f.y1 in
    let y2 = f.y2 in
    let p0 = f.p0 in
    let p1 = f.p1 in
    let p2 = f.p2 in
    let s = f.s in
    let t = f.t in
    simp to_z-of_z f.p1

pub overflow_mul-result-3 : goal.overflow_mul-result-3
overflow_mul-result-3 c =
    let f : ProductFits c.args.c c.args.y = product_fits c.args.c c.args.y c.requires.left c.requires.right in
    let c0 = f.c0 in
    let c1 = f.c1 in
    let c2 = f.c2 in
    let y0 = f.y0 in
    let y1 = f.y1 in
    let y2 = f.y2 in
    let p0 = f.p0 in
    let p1 = f.p1 in
    let p2 = f.p2 in
    let s = f.s in
    let t = f.t in
    simp to_z-of_z f.p2

pub overflow_add-result : goal.overflow_add-result
overflow_add-result c =
    let f : ProductFits c.args.c c.args.y = product_fits c.args.c c.args.y c.requires.left c.requires.right in
    let c0 = f.c0 in
    let c1 = f.c1 in
    let c2 = f.c2 in
    let y0 = f.y0 in
    let y1 = f.y1 in
    let y2 = f.y2 in
    let p0 = f.p0 in
    let p1 = f.p1 in
    let p2 = f.p2 in
    let s = f.s in
    let t = f.t in
    simp to_z-of_z f.s

pub overflow_add-result-2 : goal.overflow_add-result-2
overflow_add-result-2 c =
    let f : ProductFits c.args.c c.args.y = product_fits c.args.c c.args.y c.requires.left c.requires.right in
    let c0 = f.c0 in
    let c1 = f.c1 in
    let c2 = f.c2 in
    let y0 = f.y0 in
    let y1 = f.y1 in
    let y2 = f.y2 in
    let p0 = f.p0 in
    let p1 = f.p1 in
    let p2 = f.p2 in
    let s = f.s in
    let t = f.t in
    simp to_z-of_z f.t

pub returns : goal.returns
returns c =
    let f : ProductFits c.args.c c.args.y = product_fits c.args.c c.args.y c.requires.left c.requires.right in
    let c0 = f.c0 in
    let c1 = f.c1 in
    let c2 = f.c2 in
    let y0 = f.y0 in
    let y1 = f.y1 in
    let y2 = f.y2 in
    let p0 = f.p0 in
    let p1 = f.p1 in
    let p2 = f.p2 in
    let s = f.s in
    let t = f.t in
    simp to_z-of_z (sym (along_is c.args.c c.args.y))
