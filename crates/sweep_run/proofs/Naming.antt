-- The notes of a run: which states they name.
use Rattle.std.proofs.Common.{◌≡◌, ⊎_elim, ℕ, ◌<◌, List}
use Rattle.std.specs.Prelude.{◌↔◌}
use Rattle.level_table.specs.declared.level.Level.TheVariants.{Empty}
use Rattle.level_table.specs.declared.reason.Note.{Note}
use Rattle.level_table.specs.Problem.{Problem, direction_count, IsProblem}
use Rattle.level_table.specs.Levels.{Levels, IsNumber, IsRow}
use Rattle.level_table.specs.Supported.{IsEven}
use Rattle.level_table.specs.Notes.{Named}
use Rattle.level_table.specs.Start.{IsStart}
use Rattle.worker_pass.specs.Clearings.{AreNamed}
use Rattle.worker_pass.proofs.Naming.{all_empty, number_is}
use Rattle.bound_laws.proofs.Notes.{first_direction}

-- the notes of a start
pub named_start : (p : Problem) (start : Levels) (notes : List Note) → IsProblem p → IsStart p start notes → AreNamed p start notes
named_start p start notes ok h s known =
    let row : IsRow p s 0 = record { state = known; direction = first_direction p ok } in
    (λ n. h.emptied s 0 row n, λ e. h.named s 0 row e)

-- a row is Empty exactly where its state has a note
pub named_rows : (p : Problem) (t : Levels) (notes : List Note) → IsProblem p → IsEven p t → AreNamed p t notes → (s k : ℕ) → IsRow p s k → (t s k ≡ Empty) ↔ Named notes s
named_rows p t notes ok even h s k row = (to, λ n. all_empty p t s k ok even row.state ((h s row.state).0 n) row.direction)
  where
    to : t s k ≡ Empty → Named notes s
    to e =
        ⊎_elim
        (λ (empty : (j : ℕ) → j < direction_count p → t s j ≡ Empty). (h s row.state).1 (empty 0 (first_direction p ok)))
        (λ (numbers : (j : ℕ) → j < direction_count p → IsNumber (t s j)). absurd (number_is (t s k) (numbers k row.direction) e))
        (even s row.state)
