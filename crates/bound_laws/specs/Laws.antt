-- What the laws are stated over.
use Rattle.std.specs.Prelude.{ℕ, List}
use Rattle.level_table.specs.declared.level.Level.TheVariants.{At}
use Rattle.level_table.specs.Problem.{Problem}
use Rattle.level_table.specs.Levels.{Levels, Bounds, IsRow}
use Rattle.level_table.specs.declared.reason.Note.{Note}
use Rattle.level_table.specs.Notes.{AreNotes}
use Rattle.level_table.specs.Start.{IsAboveSupported, IsBetween}

-- each level of the table bounds
abbrev pub HasBounds : Problem → Levels → Type 0
HasBounds p t = (s k : ℕ) → IsRow p s k → Bounds p s k (t s k)

-- each level of the table is Empty or between the negative of the opposite opening level and its own
abbrev pub HasRange : Problem → Levels → Type 0
HasRange p t = (s k : ℕ) → IsRow p s k → IsBetween p k (t s k)

-- Each note is right, and each level that it keeps is at least that of every supported table at most the start.
abbrev pub HasKeptAbove : Problem → Levels → List Note → Type 0
HasKeptAbove p start notes = AreNotes p (λ s k x. IsAboveSupported p start s k (At x)) notes

-- Each level of the table is at least that of every supported table at most the start.
abbrev pub KeepsSupported : Problem → Levels → Levels → Type 0
KeepsSupported p start t = (s k : ℕ) → IsRow p s k → IsAboveSupported p start s k (t s k)
