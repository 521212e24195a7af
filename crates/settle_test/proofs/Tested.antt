-- Rows of a state that was tested.
use Rattle.std.proofs.Common.{◌≡◌, ℕ, ◌+◌, ◌*◌, ◌%◌, ◌<◌, List, length, get_or, subst, arith}
use Rattle.std.proofs.lemmas.Nat.{div-add-mod', mod-mul-add}
use Rattle.game_model.specs.Game.{states}
use Rattle.level_table.specs.Levels.{Table, IsRow}
use Rattle.level_table.specs.Problem.{Problem, direction_count}
use Rattle.level_table.specs.Tables.{IsSmallTable}
use Rattle.settle_test.specs.declared.parts.Part.{Part}
use Rattle.settle_test.specs.Parts.{AreTested, nothing_found}
use Rattle.settle_test.specs.Verdicts.{IsRowVerdict, direction_of, state_of}
use Rattle.settle_test.proofs.Places.{place_below, row_known}

pub first_place : (s n : ℕ) → 0 < n → (s * n + 0) % n ≡ 0
first_place s n some = mod-mul-add s n 0 some

pub place_in : (p : Problem) (t : Table) (s k : ℕ) → IsSmallTable p t → s < states p.game → k < direction_count p → s * direction_count p + k < length t.levels
place_in p t s k small state dir =
    subst (λ (d : ℕ). s * d + k < length t.levels) small.sizes.directions_agree (place_below p t s k small (record { state = state; direction = dir }))

-- what was found of a row, at its place
pub verdict_found : (p : Problem) (t : Table) (slack row : ℕ) (parts : List Part) (d : Part) → IsSmallTable p t → row < length t.levels → length parts ≡ states p.game → AreTested p t slack parts
    → IsRowVerdict p t slack row (get_or (get_or parts (state_of p row) d).rows (direction_of p row) nothing_found)
verdict_found p t slack row parts d small below each tested =
    let known : IsRow p (state_of p row) (direction_of p row) = row_known p t row small below in
    subst (λ (r : ℕ). IsRowVerdict p t slack r (get_or (get_or parts (state_of p row) d).rows (direction_of p row) nothing_found)) (div-add-mod' row (direction_count p))
    ((tested (state_of p row) d (omega (arith, known.state, each))).rows (direction_of p row) known.direction)
