use Rattle.std.proofs.Common.{◌≤◌, ◌<◌, ◌^◌, ◌*◌, arith, sym, subst, lit<}
use Rattle.std.specs.Int.{w64, w128}
use Rattle.std.specs.Int.RustNames.{FitsSigned, unsigned_abs}
use Rattle.std.proofs.lemmas.Int.{to_z-of_z}
use Rattle.level_table.specs.Levels.{levels_in}
use Rattle.level_table.specs.Problem.{IsProblem, direction_count}
use Rattle.lp_cert.specs.Program.{IsRow}
use Rattle.exact_algebra.proofs.Fits.{fits64, fits128}
use Rattle.set_operator.specs.Program.{IsProgramTo}
use Rattle.set_operator.proofs.Programs.{program_more, direction_row, level_small}
use Rattle.set_operator.proofs.program.fill_rows.Goals as goal

pub loop-dir-init : goal.loop-dir-init
loop-dir-init c = subst (λ n. IsProgramTo c.args.p.now (levels_in c.args.levels.now) c.args.found.now (2 * n) c.boxed.new.rows) (sym c.players-dir.ensures) (c.boxed.ensures (levels_in c.args.levels.now))

pub add-requires-clause-right : goal.add-requires-clause-right
add-requires-clause-right c =
    let ok : IsProblem c.args.p.now = c.rules.ensures in
    let within : c.loop-dir.dir < direction_count c.args.p.now = omega (arith, c.loop-dir-test.true, c.directions-dir-end.ensures) in
    let small : unsigned_abs c.number_at-h.result ≤ 2 ^ 50 = level_small c.args.p.now c.args.levels.now c.args.found.now c.loop-dir.dir c.number_at-h.result ok c.requires.table c.requires.sides within c.number_at-h.ensures in
    let f1 : FitsSigned w64 c.number_at-h.result = fits64 _ _ small (lit< tt) in
    let f2 : FitsSigned w128 c.number_at-h.result = fits128 _ _ small (lit< tt) in
    let right = direction_row c.args.p.now c.loop-dir.dir c.number_at-h.result ok within (omega arith) in
    simp to_z-of_z (subst (λ n. IsRow n (record { c = c.vector.result; h = c.number_at-h.result })) (sym c.loop-dir.invariant.dimension)
    (subst (λ v. IsRow c.args.p.now.game.players (record { c = v; h = c.number_at-h.result })) (sym c.vector.ensures) right))

pub loop-dir-preserved : goal.loop-dir-preserved
loop-dir-preserved c =
    let ok : IsProblem c.args.p.now = c.rules.ensures in
    let within : c.loop-dir.dir < direction_count c.args.p.now = omega (arith, c.loop-dir-test.true, c.directions-dir-end.ensures) in
    let past : 2 * c.args.p.now.game.players ≤ c.loop-dir.dir = omega (arith, c.loop-dir.auto.dir, c.players-dir.ensures) in
    let small : unsigned_abs c.number_at-h.result ≤ 2 ^ 50 = level_small c.args.p.now c.args.levels.now c.args.found.now c.loop-dir.dir c.number_at-h.result ok c.requires.table c.requires.sides within c.number_at-h.ensures in
    let f1 : FitsSigned w64 c.number_at-h.result = fits64 _ _ small (lit< tt) in
    let f2 : FitsSigned w128 c.number_at-h.result = fits128 _ _ small (lit< tt) in
    let rows_are = simp to_z-of_z at c.add.ensures.rows in
    program_more c.args.p.now (levels_in c.args.levels.now) c.args.found.now c.loop-dir.dir c.loop-dir.rows c.add.new.self (record { c = c.vector.result; h = c.number_at-h.result }) past
    c.loop-dir.invariant c.dimension-dimension.ensures.program c.add.ensures.dimension rows_are c.vector.ensures c.number_at-h.ensures
