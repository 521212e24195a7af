-- What a check answers of the correspondence in a file, and why it answers nothing.
use Rattle.std.specs.Prelude.{◌≡◌, ◌⊎◌, ℕ, ◌+◌, List, ◌++◌, ◌∷◌, codes, decimal, Option, Some, None, Ok, Err}
use Rattle.pay_frac.specs.Ratio.{Ratio}
use Rattle.game_model.specs.Game.{DynamicGame}
use Rattle.game_model.specs.SelfGeneration.{IsSelfGenerating}
use Rattle.game_files.specs.declared.fault.FileId.TheVariants.{Second}
use Rattle.game_files.specs.declared.fault.GameFault.{GameFault}
use Rattle.game_files.specs.declared.fault.GameFault.TheVariants.{BadInput, TooLong, ReadFault, Shape, Beyond, NoMemory}
use Rattle.game_files.specs.declared.first.First.{First}
use Rattle.game_files.specs.Loads.{Counts, AreLoads, Stands}
use Rattle.game_files.specs.Files.{IsFirst, file_count}
use Rattle.game_files.specs.Causes.{IsGameOf, IsLoadFault, IsNoGame}
use Rattle.selfgen_check.specs.declared.fault.CorrFault.{CorrFault}
use Rattle.selfgen_check.specs.declared.fault.Why.{Why}
use Rattle.selfgen_check.specs.declared.fault.Why.TheVariants.{Profile, Lottery, Weights, Punish, Point, Gain}
use Rattle.selfgen_check.specs.declared.text_fault.CorrTextFault.{CorrTextFault}
use Rattle.selfgen_check.specs.declared.text_fault.CorrTextFault.TheVariants.{Bad, Limit, Wide, NoMemory as OutOfMemory}
use Rattle.selfgen_check.specs.Faults.{IsFirstFault}
use Rattle.selfgen_check.specs.Measures.{corr_of}
use Rattle.selfgen_check.specs.Promises.{Promises, correspondence_of}

-- how many bytes a file other than a game's may have
abbrev pub longest_second : ℕ
longest_second = 16777216

-- the text under the name is this correspondence of the game
pub record IsCorrOf (told : List ℕ → Option (List ℕ)) (name : List ℕ) (g : DynamicGame) (c : Promises) : Type 0 where
  pub bytes : List ℕ
  pub stands : Stands told longest_second name bytes
  pub says : corr_of g bytes ≡ Ok c

-- the text under the name has this first fault
pub record IsNoCorr (told : List ℕ → Option (List ℕ)) (name : List ℕ) (g : DynamicGame) (e : CorrTextFault) : Type 0 where
  pub bytes : List ℕ
  pub stands : Stands told longest_second name bytes
  pub says : corr_of g bytes ≡ Err e

-- why the text gives no correspondence
abbrev pub IsCorrTextFault : (List ℕ → Option (List ℕ)) → List ℕ → DynamicGame → GameFault → Type 0
IsCorrTextFault told name g (BadInput file at) = (file ≡ Second) × IsNoCorr told name g (Bad at)
IsCorrTextFault told name g (Beyond what number) = ((at : ℕ) × IsNoCorr told name g (Limit what number at)) ⊎ IsNoCorr told name g (Wide what number)
IsCorrTextFault told name g (TooLong file) = ⊥
IsCorrTextFault told name g (ReadFault file) = ⊥
IsCorrTextFault told name g (Shape fault) = ⊥
IsCorrTextFault told name g NoMemory = Unit {0}

-- why the file gives none
abbrev pub IsCorrFault : (List ℕ → Option (List ℕ)) → List ℕ → DynamicGame → Counts → Counts → GameFault → Type 0
IsCorrFault told name g before after r = IsLoadFault told longest_second Second name before after r ⊎ IsCorrTextFault told name g r

-- such a fault of the file that is loaded behind those of the game
pub record IsSecondFault (told : List ℕ → Option (List ℕ)) (file : List ℕ) (before after : Counts) (IsFault : Type 0) : Type 0 where
  pub first : First
  pub is_first : IsFirst told file first
  pub loads : AreLoads (file_count first + 1) before after
  pub fault : IsFault

-- why a check answers nothing: there is no game, or no correspondence
abbrev pub IsCheckFault : (List ℕ → Option (List ℕ)) → List ℕ → List ℕ → Ratio → Counts → Counts → GameFault → Type 0
IsCheckFault told file corr discount before after r =
    IsNoGame told file discount before after r
    ⊎ ((g : DynamicGame) × IsGameOf told file discount g × IsSecondFault told file before after (IsCorrFault told corr g before after r))

-- the correspondence is self-generating, or this is the first entry that isn't generated, and its first broken part
abbrev pub IsVerdictOn : DynamicGame → Promises → Option CorrFault → Type 0
IsVerdictOn g c None = IsSelfGenerating g (correspondence_of g c)
IsVerdictOn g c (Some fault) = IsFirstFault g (correspondence_of g c) fault

-- the answer to the correspondence in a file, for the game that the files make
pub record IsChecked (told : List ℕ → Option (List ℕ)) (file corr : List ℕ) (discount : Ratio) (answer : Option CorrFault) : Type 0 where
  pub game : DynamicGame
  pub is_game : IsGameOf told file discount game
  pub set : Promises
  pub is_set : IsCorrOf told corr game set
  pub verdict : IsVerdictOn game set answer

abbrev pub why_text : Why → List ℕ
why_text Profile = codes "profile"
why_text Lottery = codes "lottery"
why_text Weights = codes "weights"
why_text Punish = codes "punish"
why_text (Point player) = codes "point " ++ decimal player
why_text (Gain player strategy) = codes "gain " ++ decimal player ++ 32 ∷ decimal strategy

-- the line of an answer
abbrev pub check_text : Option CorrFault → List ℕ
check_text None = codes "holds\n"
check_text (Some fault) = codes "fails " ++ (decimal fault.state ++ (codes " " ++ (decimal fault.entry ++ (codes " " ++ (why_text fault.why ++ codes "\n")))))

-- how the first fault of a text is told
abbrev pub corr_refused : CorrTextFault → GameFault
corr_refused (Bad at) = BadInput Second at
corr_refused (Limit what number at) = Beyond what number
corr_refused (Wide what number) = Beyond what number
corr_refused OutOfMemory = NoMemory
