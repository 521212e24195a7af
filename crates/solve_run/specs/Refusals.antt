-- Why there is no report: files, limits and memory.
use Rattle.std.specs.Prelude.{◌≡◌, ◌⊎◌, ℕ, List, Option}
use Rattle.game_model.specs.Game.{DynamicGame}
use Rattle.level_table.specs.Problem.{Problem}
use Rattle.level_table.specs.Tables.{IsFirstBeyond}
use Rattle.nfg_text.specs.declared.what.What.TheVariants.{Opening}
use Rattle.pay_words.specs.declared.options.Settings.{Settings}
use Rattle.pay_words.specs.Command.{Request, solving, checking, replaying, making}
use Rattle.game_files.specs.declared.fault.GameFault.{GameFault}
use Rattle.game_files.specs.declared.fault.GameFault.TheVariants.{BadInput, TooLong, ReadFault, Shape, Beyond, NoMemory}
use Rattle.game_files.specs.Loads.{Counts}
use Rattle.game_files.specs.Files.{MayAskStates}
use Rattle.game_files.specs.Causes.{IsGameOf, IsNoGame}
use Rattle.solve_run.specs.Problems.{problem_in}

-- why there is no opening: a level passes its limit, or want of memory
abbrev pub IsOpeningFault : Problem → GameFault → Type 0
IsOpeningFault p (Beyond what number) = (what ≡ Opening) × IsFirstBeyond p number
IsOpeningFault p (BadInput file at) = ⊥
IsOpeningFault p (TooLong file) = ⊥
IsOpeningFault p (ReadFault file) = ⊥
IsOpeningFault p (Shape fault) = ⊥
IsOpeningFault p NoMemory = Unit {0}

-- why a file gives no report
abbrev pub IsSolveFault : (List ℕ → Option (List ℕ)) → List ℕ → Settings → Counts → Counts → GameFault → Type 0
IsSolveFault told file set before after r =
    IsNoGame told file set.discount before after r
    ⊎ ((game : DynamicGame) × IsGameOf told file set.discount game × IsOpeningFault (problem_in game set) r)

-- the files of a command may be asked for
abbrev pub MayAskFor : (List ℕ → Option (List ℕ)) → (List ℕ → Type 0) → Request → Type 0
MayAskFor told may (solving file set) = may file × MayAskStates told may file
MayAskFor told may (checking file corr discount) = may file × MayAskStates told may file × may corr
MayAskFor told may (replaying file schedule set) = may file × MayAskStates told may file × may schedule
MayAskFor told may (making seed states workers) = Unit {0}
