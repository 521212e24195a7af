use Rattle.std.proofs.Common.{◌≡◌, ℕ, ◌+◌, ◌-◌, ◌^◌, inl, inr, refl, IfSome, Some, arith}
use Rattle.std.proofs.lemmas.Bool.{cases_lt, lt-ltb, le-ltb}
use Rattle.pay_outside.specs.Counts.{counted_up}
use Rattle.pay_outside.specs.Memory.{told_loads}
use Rattle.pay_outside.proofs.mem.MemShelfShelf.load.Goals as goal

-- a count that is told after one more was told before it
told_loads-counted_up : (before after : ℕ) → after ≡ counted_up before → IfSome (told_loads after) (λ n. (m : ℕ) × (told_loads before ≡ Some m) × (n ≡ m + 1))
told_loads-counted_up before after counted =
    elim (cases_lt (before + 1) (2 ^ 64 - 1)) [
      | inl below ↦ rw (lt-ltb after (2 ^ 64 - 1) (omega arith), lt-ltb before (2 ^ 64 - 1) (omega arith)) (before, refl, omega arith)
      | inr above ↦ rw (le-ltb after (2 ^ 64 - 1) (omega arith)) tt
    ]

pub returns-clause-counted : goal.returns-clause-counted
returns-clause-counted c =
    rw (← c.self.view_is) (told_loads-counted_up _ _ c.saturating_add-self-inside.ensures)
