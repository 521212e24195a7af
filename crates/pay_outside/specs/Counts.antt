-- The counts of shelves and sinks.
use Rattle.std.specs.Prelude.{◌≡◌, ℕ, ◌+◌, ◌-◌, ◌^◌, ◌<◌, ◌⊎◌, min, Result, Ok, Err}
use Rattle.pay_outside.specs.declared.shelf.ShelfFault.{ShelfFault}
use Rattle.pay_outside.specs.declared.shelf.ShelfFault.TheVariants.{Failed, TooLong, NoMemory}
use Rattle.pay_outside.specs.declared.sink.SinkFault.{SinkFault}

-- the count rose in a call: it is greater after it, or stands at the end of its type
abbrev pub Rose : ℕ → ℕ → Type 0
Rose before after = (before < after) ⊎ (after ≡ 2 ^ 64 - 1)

-- the count after one more, which stands still at the end of its type
abbrev pub counted_up : ℕ → ℕ
counted_up n = min (n + 1) (2 ^ 64 - 1)

-- the count of faults after a load with this answer
abbrev pub faults_after : {T : Type 0} → Result T ShelfFault → ℕ → ℕ
faults_after (Ok _) n = n
faults_after (Err Failed) n = counted_up n
faults_after (Err TooLong) n = n
faults_after (Err NoMemory) n = n

-- the count of overlong loads after a load with this answer
abbrev pub overlong_after : {T : Type 0} → Result T ShelfFault → ℕ → ℕ
overlong_after (Ok _) n = n
overlong_after (Err Failed) n = n
overlong_after (Err TooLong) n = counted_up n
overlong_after (Err NoMemory) n = n

-- the count of faults after a put with this answer
abbrev pub put_faults_after : Result ℕ SinkFault → ℕ → ℕ
put_faults_after (Ok _) n = n
put_faults_after (Err _) n = counted_up n
