-- Loads from a shelf, as their caller sees them.
use Rattle.std.specs.Prelude.{◌≡◌, ℕ, ◌+◌, ◌≤◌, List, length, Option, Some, IfSome}

-- the counts of a shelf
pub record Counts : Type 0 where
  pub faults : ℕ
  pub overlong : ℕ
  -- the number of loads, where the shelf tells it
  pub loads : Option ℕ

abbrev pub counts_of : {S : Type 0} → (S → ℕ) → (S → ℕ) → (S → Option ℕ) → S → Counts
counts_of faults overlong loads shelf = record { faults = faults shelf; overlong = overlong shelf; loads = loads shelf }

-- so many loads were made
pub record AreLoads (n : ℕ) (before after : Counts) : Type 0 where
  pub faults : before.faults ≤ after.faults
  pub overlong : before.overlong ≤ after.overlong
  pub loads : IfSome after.loads (λ k. (m : ℕ) × (before.loads ≡ Some m) × (k ≡ m + n))

-- Some bytes, at most so many, stand under the name: these, where the shelf tells them.
pub record Stands (told : List ℕ → Option (List ℕ)) (most : ℕ) (name bytes : List ℕ) : Type 0 where
  pub short : length bytes ≤ most
  pub same : IfSome (told name) (λ b. bytes ≡ b)
