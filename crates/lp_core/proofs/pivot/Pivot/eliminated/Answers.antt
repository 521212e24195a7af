use Rattle.std.proofs.Common.{◌^◌, lit<, arith}
use Rattle.std.specs.Prelude.{◌*ℤ◌}
use Rattle.std.specs.Int.{w128}
use Rattle.std.specs.Int.RustNames.{FitsSigned}
use Rattle.std.proofs.lemmas.Int.{ints, to_z-of_z}
use Rattle.lp_cert.specs.Program.{entry}
use Rattle.lp_core.proofs.Steps.{eliminated_same, eliminated_other}
use Rattle.lp_core.proofs.Fits.{fits, at_place, pivot_small, sign_times, sign_fits}
use Rattle.lp_core.proofs.pivot.Pivot.eliminated.Goals as goal

pub returns-then-line-self-eq0 : goal.returns-then-line-self-eq0
returns-then-line-self-eq0 c =
    let p = c.args.self.now in
    let cx = entry c.args.line.c p.place in
    let small = at_place (2 ^ 10) p.place c.args.line.c p.inside c.requires.small.entries in
    let product = sign_times p cx (2 ^ 10) small in
    let f1 : FitsSigned w128 c.args.self.now.sign = sign_fits p in
    let f2 : FitsSigned w128 (entry c.args.line.c c.args.self.now.place) = fits _ _ small (lit< tt) in
    let f3 : FitsSigned w128 (c.args.self.now.sign *ℤ entry c.args.line.c c.args.self.now.place) = fits _ _ product (lit< tt) in
    let size = pivot_small p (2 ^ 10) (2 ^ 80) c.requires.own in
    let f4 : FitsSigned w128 c.args.self.now.size = fits _ _ size (lit< tt) in
    let f5 : FitsSigned w128 c.args.line.h = fits _ _ c.requires.small.side (lit< tt) in
    let f6 : FitsSigned w128 c.args.self.now.line.h = fits _ _ c.requires.own.side (lit< tt) in
    eliminated_same p c.args.line (omega (arith, ints, c.if-line-self-eq0.true))

pub overflow_mul-times : goal.overflow_mul-times
overflow_mul-times c =
    let p = c.args.self.now in
    let cx = entry c.args.line.c p.place in
    let small = at_place (2 ^ 10) p.place c.args.line.c p.inside c.requires.small.entries in
    let product = sign_times p cx (2 ^ 10) small in
    let f1 : FitsSigned w128 c.args.self.now.sign = sign_fits p in
    let f2 : FitsSigned w128 (entry c.args.line.c c.args.self.now.place) = fits _ _ small (lit< tt) in
    let f3 : FitsSigned w128 (c.args.self.now.sign *ℤ entry c.args.line.c c.args.self.now.place) = fits _ _ product (lit< tt) in
    let size = pivot_small p (2 ^ 10) (2 ^ 80) c.requires.own in
    let f4 : FitsSigned w128 c.args.self.now.size = fits _ _ size (lit< tt) in
    let f5 : FitsSigned w128 c.args.line.h = fits _ _ c.requires.small.side (lit< tt) in
    let f6 : FitsSigned w128 c.args.self.now.line.h = fits _ _ c.requires.own.side (lit< tt) in
    simp to_z-of_z f3

pub combined-requires-clause-times : goal.combined-requires-clause-times
combined-requires-clause-times c =
    let p = c.args.self.now in
    let cx = entry c.args.line.c p.place in
    let small = at_place (2 ^ 10) p.place c.args.line.c p.inside c.requires.small.entries in
    let product = sign_times p cx (2 ^ 10) small in
    let f1 : FitsSigned w128 c.args.self.now.sign = sign_fits p in
    let f2 : FitsSigned w128 (entry c.args.line.c c.args.self.now.place) = fits _ _ small (lit< tt) in
    let f3 : FitsSigned w128 (c.args.self.now.sign *ℤ entry c.args.line.c c.args.self.now.place) = fits _ _ product (lit< tt) in
    let size = pivot_small p (2 ^ 10) (2 ^ 80) c.requires.own in
    let f4 : FitsSigned w128 c.args.self.now.size = fits _ _ size (lit< tt) in
    let f5 : FitsSigned w128 c.args.line.h = fits _ _ c.requires.small.side (lit< tt) in
    let f6 : FitsSigned w128 c.args.self.now.line.h = fits _ _ c.requires.own.side (lit< tt) in
    simp to_z-of_z (omega (arith, product))

pub difference-requires-clause-times : goal.difference-requires-clause-times
difference-requires-clause-times c =
    let p = c.args.self.now in
    let cx = entry c.args.line.c p.place in
    let small = at_place (2 ^ 10) p.place c.args.line.c p.inside c.requires.small.entries in
    let product = sign_times p cx (2 ^ 10) small in
    let f1 : FitsSigned w128 c.args.self.now.sign = sign_fits p in
    let f2 : FitsSigned w128 (entry c.args.line.c c.args.self.now.place) = fits _ _ small (lit< tt) in
    let f3 : FitsSigned w128 (c.args.self.now.sign *ℤ entry c.args.line.c c.args.self.now.place) = fits _ _ product (lit< tt) in
    let size = pivot_small p (2 ^ 10) (2 ^ 80) c.requires.own in
    let f4 : FitsSigned w128 c.args.self.now.size = fits _ _ size (lit< tt) in
    let f5 : FitsSigned w128 c.args.line.h = fits _ _ c.requires.small.side (lit< tt) in
    let f6 : FitsSigned w128 c.args.self.now.line.h = fits _ _ c.requires.own.side (lit< tt) in
    simp to_z-of_z (omega (arith, product))

pub returns : goal.returns
returns c =
    let p = c.args.self.now in
    let cx = entry c.args.line.c p.place in
    let small = at_place (2 ^ 10) p.place c.args.line.c p.inside c.requires.small.entries in
    let product = sign_times p cx (2 ^ 10) small in
    let f1 : FitsSigned w128 c.args.self.now.sign = sign_fits p in
    let f2 : FitsSigned w128 (entry c.args.line.c c.args.self.now.place) = fits _ _ small (lit< tt) in
    let f3 : FitsSigned w128 (c.args.self.now.sign *ℤ entry c.args.line.c c.args.self.now.place) = fits _ _ product (lit< tt) in
    let size = pivot_small p (2 ^ 10) (2 ^ 80) c.requires.own in
    let f4 : FitsSigned w128 c.args.self.now.size = fits _ _ size (lit< tt) in
    let f5 : FitsSigned w128 c.args.line.h = fits _ _ c.requires.small.side (lit< tt) in
    let f6 : FitsSigned w128 c.args.self.now.line.h = fits _ _ c.requires.own.side (lit< tt) in
    let f7 : FitsSigned w128 c.difference.result = record { sfits = c.difference.type_inv } in
    let m = simp to_z-of_z at c.combined.ensures in
    let n = simp to_z-of_z at c.difference.ensures in
    eliminated_other p c.args.line _ (λ e. omega (arith, ints, c.if-line-self-eq0.false, e)) m (simp to_z-of_z n)
