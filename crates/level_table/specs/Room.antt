-- Reasons and notes as they are kept, with room for more.
use Rattle.std.specs.Prelude.{◌≡◌, ℕ, List, [], All}
use Rattle.level_table.specs.declared.reason.Reason.{Reason}

-- a list of reasons, and how many more can be added without memory
pub record Reasons : Type 0 where
  pub list : List Reason
  pub spare : ℕ

-- empty lists with room for so many reasons
abbrev pub AreSpare : ℕ → List Reasons → Type 0
AreSpare each lists = All (λ r. r ≡ record { list = []; spare = each }) lists
