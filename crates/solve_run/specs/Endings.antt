-- How the program tells a status: a line on standard error, and an exit.
use Rattle.std.specs.Prelude.{ℕ, List, ◌++◌, codes, decimal, Option, Some, None}
use Rattle.std.specs.Fmt.{signed_decimal}
use Rattle.nfg_text.specs.declared.what.What.{What}
use Rattle.nfg_text.specs.declared.what.What.TheVariants as whats
use Rattle.game_model.specs.declared.parts.ShapeWhat.{ShapeWhat}
use Rattle.game_model.specs.declared.parts.ShapeWhat.TheVariants.{Players, Payoffs, Successors, Successor}
use Rattle.game_files.specs.declared.fault.FileId.{FileId}
use Rattle.game_files.specs.declared.fault.FileId.TheVariants.{First, State, Second}
use Rattle.solve_run.specs.declared.outcome.Status.{Status}
use Rattle.solve_run.specs.declared.outcome.Status.TheVariants.{Settled, Holds, Replayed, Made, Fails, Usage, Spent, BadInput, Shape, TooLong, ReadFault, Beyond, WriteFault, NoMemory}

abbrev pub file_text : FileId → List ℕ
file_text First = codes "first file"
file_text (State s) = codes "file of state " ++ decimal s
file_text Second = codes "second file"

abbrev pub shape_text : ShapeWhat → List ℕ
shape_text Players = codes "players"
shape_text Payoffs = codes "payoffs"
shape_text Successors = codes "successors"
shape_text Successor = codes "successor"

-- a quantity in small letters
abbrev pub what_text : What → List ℕ
what_text whats.Digits = codes "digits"
what_text whats.Players = codes "players"
what_text whats.Strategies = codes "strategies"
what_text whats.States = codes "states"
what_text whats.Whole = codes "whole"
what_text whats.Discount = codes "discount"
what_text whats.Denominator = codes "denominator"
what_text whats.Payoff = codes "payoff"
what_text whats.Opening = codes "opening"
what_text whats.Outcomes = codes "outcomes"
what_text whats.Weight = codes "weight"
what_text whats.Entries = codes "entries"
what_text whats.Common = codes "common"
what_text whats.Point = codes "point"
what_text whats.Directions = codes "directions"
what_text whats.Inner = codes "inner"
what_text whats.Start = codes "start"
what_text whats.Solid = codes "solid"
what_text whats.Candidates = codes "candidates"
what_text whats.Log = codes "log"

abbrev pub told : List ℕ → Option (List ℕ)
told text = Some (codes "payoff: " ++ text)

-- the line of a state whose list has a wrong length or a wrong successor
abbrev pub misfit_text : ℕ → ShapeWhat → ℕ → ℕ → Option (List ℕ)
misfit_text state what found wanted =
    told (codes "state " ++ (decimal state ++ (codes ": " ++ (shape_text what ++ (codes " found " ++ (decimal found ++ (codes " wanted " ++ decimal wanted)))))))

-- The line of a status, without its line feed. A run that came to its end has none.
abbrev pub line_text : Status → Option (List ℕ)
line_text Settled = None
line_text (Spent sweeps row) = None
line_text Holds = None
line_text Replayed = None
line_text Made = None
line_text (Fails fault) = None
line_text (Usage index) = told (codes "word " ++ decimal index ++ codes " is not understood")
line_text (BadInput file at) = told (file_text file ++ (codes " is not valid at byte " ++ decimal at))
line_text (Shape fault) = misfit_text fault.state fault.what fault.found fault.wanted
line_text (TooLong file) = told (file_text file ++ codes " is too long")
line_text (ReadFault file) = told (file_text file ++ codes " cannot be read")
line_text (Beyond what number) = told (what_text what ++ codes " is beyond its limit: " ++ signed_decimal number)
line_text (WriteFault written) = told (codes "output failed after " ++ decimal written ++ codes " bytes")
line_text NoMemory = told (codes "out of memory")

abbrev pub exit_code : Status → ℕ
exit_code Settled = 0
exit_code Holds = 0
exit_code Replayed = 0
exit_code Made = 0
exit_code (Fails fault) = 1
exit_code (Usage index) = 2
exit_code (Spent sweeps row) = 3
exit_code (BadInput file at) = 4
exit_code (Shape fault) = 4
exit_code (TooLong file) = 5
exit_code (Beyond what number) = 5
exit_code (ReadFault file) = 6
exit_code (WriteFault written) = 7
exit_code NoMemory = 8
