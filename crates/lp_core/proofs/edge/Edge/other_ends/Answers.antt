use Rattle.std.proofs.Common.{◌≡◌, ◌≢◌, to_z, of_z, refl, ◌+◌, ◌-◌, ◌*◌, ◌<◌, [], ap, sym, ◌∙◌, arith, lit≤, rules}
use Rattle.std.specs.Prelude.{pos, negsuc}
use Rattle.std.specs.Int.{w64}
use Rattle.std.specs.Int.RustNames.{FitsSigned}
use Rattle.std.proofs.lemmas.Int.{ints, to_z-of_z}
use Rattle.lp_core.specs.declared.reduced.Line.{Line}
use Rattle.lp_core.specs.Lines.{line_at}
use Rattle.lp_core.specs.Planar.{half_line, lines_of, pivot_of}
use Rattle.lp_core.specs.Bounds.{Reach, left_side}
use Rattle.lp_core.proofs.Ends.{own_ends}
use Rattle.lp_core.proofs.Edges.{box_left, box_line}
use Rattle.lp_core.proofs.edge.Edge.other_ends.Goals as goal

pub invariant_of-result : goal.invariant_of-result
invariant_of-result c =
    let f1 : FitsSigned w64 c.known_at-upper.result.side = search rules in
    let s = c.known_at-upper.result.small_side in
    simp to_z-of_z (record { positive = omega (arith, ints); small_entry = lit≤ tt; small_side = omega (arith, s) })

pub returns : goal.returns
returns c =
    let p = c.args.rows.now in
    let e = c.args.self.now in
    let v = pivot_of e in
    let k = 1 - e.place in
    let lines = lines_of p in
    let f1 : FitsSigned w64 c.known_at-upper.result.side = search rules in
    let f2 : FitsSigned w64 c.known_at-lower.result.side = search rules in
    let planar = e.planar in
    let few : k < 2 = omega arith in
    let apart : e.place ≢ k = λ f. absurd (omega (arith, planar, f)) in
    let b = box_line p [] c.requires.program c.requires.dimension k few in
    let upper : half_line c.known_at-upper.result ≡ line_at lines (2 * k) = c.known_at-upper.ensures in
    let lower : half_line c.known_at-lower.result ≡ line_at lines (2 * k + 1) = c.known_at-lower.ensures in
    let u = box_left v (line_at lines (2 * k)) k (pos 1) b.0 (omega (arith, few)) apart in
    let l = box_left v (line_at lines (2 * k + 1)) k (negsuc 0) b.1 (omega (arith, few)) apart in
    let us : to_z w64 (of_z w64 c.known_at-upper.result.side) ≡ left_side v (line_at lines (2 * k)) = to_z-of_z w64 c.known_at-upper.result.side f1 ∙ ap (λ (x : Line). x.h) upper ∙ sym u.1 in
    let ls : to_z w64 (of_z w64 c.known_at-lower.result.side) ≡ left_side v (line_at lines (2 * k + 1)) = to_z-of_z w64 c.known_at-lower.result.side f2 ∙ ap (λ (x : Line). x.h) lower ∙ sym l.1 in
    let e : Reach = record { upper = record { row = 2 * k; entry = pos 1; side = to_z w64 (of_z w64 c.known_at-upper.result.side) }; lower = record { row = 2 * k + 1; entry = pos 1; side = to_z w64 (of_z w64 c.known_at-lower.result.side) } } in
    own_ends lines v k (λ i. i < 4) e (omega (arith, few)) (omega (arith, few)) refl refl refl refl u.0 l.0 us ls

pub known_at-upper-requires-clause-narrow : goal.known_at-upper-requires-clause-narrow
known_at-upper-requires-clause-narrow c = let m = c.args.self.now.planar in c.requires.narrow _ (omega (arith, m))

pub known_at-lower-requires-clause-narrow : goal.known_at-lower-requires-clause-narrow
known_at-lower-requires-clause-narrow c = let m = c.args.self.now.planar in c.requires.narrow _ (omega (arith, m))
