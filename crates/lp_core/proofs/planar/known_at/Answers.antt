use Rattle.std.proofs.Common.{◌≤◌, ◌^◌, ap, sym, subst, ◌∙◌, lit<, rules}
use Rattle.std.specs.Int.{w32, w64, w128}
use Rattle.std.specs.Int.RustNames.{FitsSigned, unsigned_abs}
use Rattle.std.proofs.lemmas.Int.{to_z-of_z}
use Rattle.lp_cert.specs.Program.{entry}
use Rattle.lp_core.specs.declared.reduced.Line.{Line}
use Rattle.lp_core.proofs.Halves.{IsRead, read}
use Rattle.lp_core.proofs.Narrow.{narrow}
use Rattle.lp_core.proofs.planar.known_at.Goals as goal

pub invariant_of-result : goal.invariant_of-result
invariant_of-result c =
    let row = c.row-row.result in
    let r : IsRead c.args.rows.now c.args.l c.row-row.result = read c.args.rows.now c.args.l row c.row-row.ensures.program c.requires.dimension c.requires.within c.row-row.ensures.value in
    let side : unsigned_abs c.row-row.result.h ≤ 2 ^ 51 = subst (λ (x : Line). unsigned_abs x.h ≤ 2 ^ 51) (sym r.is) c.requires.narrow in
    let f1 : FitsSigned w32 (entry c.row-row.result.c 0) = search rules in
    let f2 : FitsSigned w32 (entry c.row-row.result.c 1) = search rules in
    let f3 : FitsSigned w128 c.row-row.result.h = search rules in
    let f4 : FitsSigned w64 (entry c.row-row.result.c 0) = narrow _ _ r.first (lit< tt) in
    let f5 : FitsSigned w64 (entry c.row-row.result.c 1) = narrow _ _ r.second (lit< tt) in
    let f6 : FitsSigned w64 c.row-row.result.h = narrow _ _ side (lit< tt) in
    simp to_z-of_z (record { small_first = r.first; small_second = r.second; small_side = side })

pub returns : goal.returns
returns c =
    let row = c.row-row.result in
    let r : IsRead c.args.rows.now c.args.l c.row-row.result = read c.args.rows.now c.args.l row c.row-row.ensures.program c.requires.dimension c.requires.within c.row-row.ensures.value in
    let side : unsigned_abs c.row-row.result.h ≤ 2 ^ 51 = subst (λ (x : Line). unsigned_abs x.h ≤ 2 ^ 51) (sym r.is) c.requires.narrow in
    let f1 : FitsSigned w32 (entry c.row-row.result.c 0) = search rules in
    let f2 : FitsSigned w32 (entry c.row-row.result.c 1) = search rules in
    let f3 : FitsSigned w128 c.row-row.result.h = search rules in
    let f4 : FitsSigned w64 (entry c.row-row.result.c 0) = narrow _ _ r.first (lit< tt) in
    let f5 : FitsSigned w64 (entry c.row-row.result.c 1) = narrow _ _ r.second (lit< tt) in
    let f6 : FitsSigned w64 c.row-row.result.h = narrow _ _ side (lit< tt) in
    simp to_z-of_z (ap (λ xs. let z : Line = record { c = xs; h = row.h } in z) r.parts ∙ r.is)

pub overflow_cast-result-3 : goal.overflow_cast-result-3
overflow_cast-result-3 c =
    let row = c.row-row.result in
    let r : IsRead c.args.rows.now c.args.l c.row-row.result = read c.args.rows.now c.args.l row c.row-row.ensures.program c.requires.dimension c.requires.within c.row-row.ensures.value in
    let side : unsigned_abs c.row-row.result.h ≤ 2 ^ 51 = subst (λ (x : Line). unsigned_abs x.h ≤ 2 ^ 51) (sym r.is) c.requires.narrow in
    let f1 : FitsSigned w32 (entry c.row-row.result.c 0) = search rules in
    let f2 : FitsSigned w32 (entry c.row-row.result.c 1) = search rules in
    let f3 : FitsSigned w128 c.row-row.result.h = search rules in
    let f4 : FitsSigned w64 (entry c.row-row.result.c 0) = narrow _ _ r.first (lit< tt) in
    let f5 : FitsSigned w64 (entry c.row-row.result.c 1) = narrow _ _ r.second (lit< tt) in
    let f6 : FitsSigned w64 c.row-row.result.h = narrow _ _ side (lit< tt) in
    simp to_z-of_z f6
