-- What the words ask for, told without the names of files.
use Rattle.std.specs.Prelude.{ℕ, List, [], slice_index_or}
use Rattle.pay_words.specs.declared.command.Command.{Command}
use Rattle.pay_words.specs.declared.command.Command.TheVariants as commands
use Rattle.pay_words.specs.Command.{Request, solving, checking, replaying, making}
use Rattle.pay_words.specs.Options.{AreWithinLimits, IsMakeable, IsProper}
use Rattle.solve_run.specs.declared.task.Task.{Task}
use Rattle.solve_run.specs.declared.task.Task.TheVariants.{Solve, Check, Replay, Make}

abbrev pub word_at : List (List ℕ) → ℕ → List ℕ
word_at words i = slice_index_or words i []

-- what is asked for, with the names of files among the words
abbrev pub request_in : List (List ℕ) → Task → Request
request_in words (Solve set) = solving (word_at words 1) set
request_in words (Check discount) = checking (word_at words 1) (word_at words 2) discount
request_in words (Replay set) = replaying (word_at words 1) (word_at words 2) set
request_in words (Make seed states workers) = making seed states workers

-- the place of the last of those names, or of the command where it has none
abbrev pub last_name : Task → ℕ
last_name (Solve set) = 1
last_name (Check discount) = 2
last_name (Replay set) = 2
last_name (Make seed states workers) = 0

abbrev pub HasLimits : Task → Type 0
HasLimits (Solve set) = AreWithinLimits set
HasLimits (Check discount) = IsProper discount
HasLimits (Replay set) = AreWithinLimits set
HasLimits (Make seed states workers) = IsMakeable seed states workers

abbrev pub task_in : Command → Task
task_in (commands.Solve file set) = Solve set
task_in (commands.Check file corr discount) = Check discount
task_in (commands.Replay file schedule set) = Replay set
task_in (commands.Make seed states workers) = Make seed states workers
