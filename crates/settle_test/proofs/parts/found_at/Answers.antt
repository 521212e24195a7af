use Rattle.std.proofs.Common.{◌≡◌, ◌/◌, ◌%◌, ◌<◌, ℕ, length, get_or, sym, ap, subst, ◌∙◌, arith}
use Rattle.std.proofs.lemmas.List.{get_or_default}
use Rattle.level_table.specs.Problem.{direction_count}
use Rattle.settle_test.specs.declared.parts.Part.{Part}
use Rattle.settle_test.specs.Parts.{IsTested, nothing_found}
use Rattle.settle_test.specs.Verdicts.{IsRowVerdict, direction_of, state_of}
use Rattle.settle_test.proofs.Places.{row_known}
use Rattle.settle_test.proofs.Tested.{verdict_found}
use Rattle.settle_test.proofs.parts.found_at.Goals as goal

pub returns : goal.returns
returns c =
    let p = c.args.p.now in
    let t = c.args.levels.now in
    let row = c.args.row in
    let parts = c.args.parts.now.items in
    let n = c.directions-count.result in
    let part : Part = c.index-part.result.now in
    let known = row_known p t row c.requires.table c.requires.row in
    let count : n ≡ direction_count p = c.directions-count.ensures in
    let here : part ≡ get_or parts (state_of p row) part = c.index-part.ensures ∙ ap (λ (m : ℕ). get_or parts (row / m) part) count in
    let tested : IsTested p t c.args.slack (state_of p row) (get_or parts (state_of p row) part) = c.requires.tested (state_of p row) part (omega (arith, known.state, c.requires.one_each)) in
    let within : direction_of p row < length part.rows = omega (arith, subst (λ (x : Part). length x.rows ≡ 32) (sym here) tested.places, known.direction, c.states.ensures.whole.few_directions, c.requires.table.sizes.directions_agree) in
    let found : get_or part.rows (row % n) c.index-part-row.result ≡ get_or (get_or parts (state_of p row) part).rows (direction_of p row) nothing_found =
    ap (λ (m : ℕ). get_or part.rows (row % m) c.index-part-row.result) count ∙ get_or_default part.rows (direction_of p row) c.index-part-row.result nothing_found within ∙ ap (λ (x : Part). get_or x.rows (direction_of p row) nothing_found) here in
    subst (IsRowVerdict p t c.args.slack row) (sym found) (verdict_found p t c.args.slack row parts part c.requires.table c.requires.row (omega (arith, c.requires.one_each)) c.requires.tested)
