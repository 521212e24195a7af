-- Why files make no game.
use Rattle.std.specs.Prelude.{◌≡◌, ◌⊎◌, ℕ, ◌+◌, ◌<◌, List, length, Option, None, IfSome, Err}
use Rattle.pay_outside.specs.Counts.{Rose}
use Rattle.pay_frac.specs.Ratio.{Ratio}
use Rattle.nfg_text.specs.declared.nfg.Nfg.{Nfg}
use Rattle.nfg_text.specs.declared.fault.NfgFault.{NfgFault}
use Rattle.nfg_text.specs.declared.fault.NfgFault.TheVariants.{Bad, Limit, NoMemory as OutOfMemory}
use Rattle.nfg_text.specs.Grammar.{nfg_of}
use Rattle.game_model.specs.Game.{DynamicGame}
use Rattle.dyn_text.specs.declared.transitions.Dyn.{Dyn}
use Rattle.dyn_text.specs.declared.fault.BuildFault.{BuildFault}
use Rattle.dyn_text.specs.declared.fault.BuildFault.TheVariants.{Shape as BuildShape, Wide, NoMemory as NoGame}
use Rattle.dyn_text.specs.Assembled.{game_of_texts}
use Rattle.dyn_text.specs.BuildFaults.{IsBuildFault, IsUnit}
use Rattle.game_files.specs.declared.fault.FileId.{FileId}
use Rattle.game_files.specs.declared.fault.FileId.TheVariants.{First as FirstFile, State, Second}
use Rattle.game_files.specs.declared.fault.GameFault.{GameFault}
use Rattle.game_files.specs.declared.fault.GameFault.TheVariants.{BadInput, TooLong, ReadFault, Shape, Beyond, NoMemory}
use Rattle.game_files.specs.declared.first.First.{First}
use Rattle.game_files.specs.declared.first.First.TheVariants.{Stage, Transitions}
use Rattle.game_files.specs.Loads.{Counts, AreLoads, Stands}
use Rattle.game_files.specs.Files.{longest_file, first_of, file_of, IsFirst, IsStage, AreFiles}

-- The file of state s has this name, and it is loaded: the first file and those of all states before it are read.
pub record IsAskedState (told : List ℕ → Option (List ℕ)) (name : List ℕ) (s : ℕ) (asked : List ℕ) : Type 0 where
  pub d : Dyn
  pub is_first : IsFirst told name (Transitions d)
  pub there : s < length d.states
  pub before : (t : ℕ) → t < s → (n : Nfg) × IsStage told (file_of d t) n
  pub named : asked ≡ file_of d s

-- the file is loaded, and by this name
abbrev pub IsAsked : (List ℕ → Option (List ℕ)) → List ℕ → FileId → List ℕ → Type 0
IsAsked told name FirstFile asked = asked ≡ name
IsAsked told name (State s) asked = IsAskedState told name s asked
IsAsked told name Second asked = ⊥

-- its place in the order of loads
abbrev pub place_of : FileId → ℕ
place_of FirstFile = 1
place_of (State s) = s + 2
place_of Second = 0

-- the first fault of a file's text
abbrev pub HasFault : FileId → List ℕ → NfgFault → Type 0
HasFault FirstFile bytes f = first_of bytes ≡ Err f
HasFault (State s) bytes f = nfg_of bytes ≡ Err f
HasFault Second bytes f = ⊥

-- the text that stands under the name has this first fault
pub record IsTextFault (told : List ℕ → Option (List ℕ)) (id : FileId) (asked : List ℕ) (f : NfgFault) : Type 0 where
  pub bytes : List ℕ
  pub stands : Stands told longest_file asked bytes
  pub has : HasFault id bytes f

-- why the load of a file gives no bytes
abbrev pub IsLoadFault : (List ℕ → Option (List ℕ)) → ℕ → FileId → List ℕ → Counts → Counts → GameFault → Type 0
IsLoadFault told most id asked before after (ReadFault file) = (file ≡ id) × Rose before.faults after.faults
IsLoadFault told most id asked before after (TooLong file) = (file ≡ id) × Rose before.overlong after.overlong × IfSome (told asked) (λ bytes. most < length bytes)
IsLoadFault told most id asked before after (BadInput file at) = ⊥
IsLoadFault told most id asked before after (Shape fault) = ⊥
IsLoadFault told most id asked before after (Beyond what number) = ⊥
IsLoadFault told most id asked before after NoMemory = Unit {0}

-- why its text gives no value
abbrev pub IsReadFault : (List ℕ → Option (List ℕ)) → FileId → List ℕ → GameFault → Type 0
IsReadFault told id asked (BadInput file at) = (file ≡ id) × IsTextFault told id asked (Bad at)
IsReadFault told id asked (Beyond what number) = (at : ℕ) × IsTextFault told id asked (Limit what number at)
IsReadFault told id asked (ReadFault file) = ⊥
IsReadFault told id asked (TooLong file) = ⊥
IsReadFault told id asked (Shape fault) = ⊥
IsReadFault told id asked NoMemory = Unit {0}

-- why the file gives no value
abbrev pub IsOneFault : (List ℕ → Option (List ℕ)) → FileId → List ℕ → Counts → Counts → GameFault → Type 0
IsOneFault told id asked before after r = IsLoadFault told longest_file id asked before after r ⊎ IsReadFault told id asked r

-- why one of the files gives no value
pub record IsFileFault (told : List ℕ → Option (List ℕ)) (name : List ℕ) (before after : Counts) (r : GameFault) : Type 0 where
  pub id : FileId
  pub asked : List ℕ
  pub is_asked : IsAsked told name id asked
  pub loads : AreLoads (place_of id) before after
  pub fault : IsOneFault told id asked before after r

-- why the file of a state gives none, or want of memory
pub record IsOneStageFault (told : List ℕ → Option (List ℕ)) (d : Dyn) (before after : Counts) (r : GameFault) : Type 0 where
  pub s : ℕ
  pub there : s < length d.states
  pub read_before : (t : ℕ) → t < s → (n : Nfg) × IsStage told (file_of d t) n
  pub loads : AreLoads (s + 1) before after
  pub fault : IsOneFault told (State s) (file_of d s) before after r

abbrev pub IsStagesFault : (List ℕ → Option (List ℕ)) → Dyn → Counts → Counts → GameFault → Type 0
IsStagesFault told d before after r = (r ≡ NoMemory) ⊎ IsOneStageFault told d before after r

-- why the files aren't read
abbrev pub IsFilesFault : (List ℕ → Option (List ℕ)) → List ℕ → Counts → Counts → GameFault → Type 0
IsFilesFault told name before after r = (r ≡ NoMemory) ⊎ IsFileFault told name before after r

-- how the first fault of a file's text is told
abbrev pub text_refused : FileId → NfgFault → GameFault
text_refused file (Bad at) = BadInput file at
text_refused file (Limit what number at) = Beyond what number
text_refused file OutOfMemory = NoMemory

-- why the stage games and the transitions make no game
abbrev pub IsBuildRefusal : Dyn → List Nfg → Ratio → GameFault → Type 0
IsBuildRefusal d ns discount (Shape fault) = IsBuildFault d ns discount (BuildShape fault)
IsBuildRefusal d ns discount (Beyond what number) = IsBuildFault d ns discount (Wide what number)
IsBuildRefusal d ns discount (BadInput file at) = ⊥
IsBuildRefusal d ns discount (TooLong file) = ⊥
IsBuildRefusal d ns discount (ReadFault file) = ⊥
IsBuildRefusal d ns discount NoMemory = ⊥

-- why the file under this name and those that it names make no game
abbrev pub IsNoGame : (List ℕ → Option (List ℕ)) → List ℕ → Ratio → Counts → Counts → GameFault → Type 0
IsNoGame told name discount before after r =
    IsFilesFault told name before after r
    ⊎ ((d : Dyn) × (ns : List Nfg) × AreFiles told name d ns × IsBuildRefusal d ns discount r)

-- the files make this game, with this discount factor of both players: no shape and no limit stands in the way
pub record IsGameOf (told : List ℕ → Option (List ℕ)) (name : List ℕ) (discount : Ratio) (g : DynamicGame) : Type 0 where
  pub d : Dyn
  pub ns : List Nfg
  pub unit : ℕ
  pub files : AreFiles told name d ns
  pub is_unit : IsUnit ns unit
  pub fits : (f : BuildFault) → IsBuildFault d ns discount f → ⊥
  pub made : g ≡ game_of_texts d ns discount unit

-- the shelf tells the files that a first file names
abbrev pub AreTold : (List ℕ → Option (List ℕ)) → First → Type 0
AreTold told (Stage n) = Unit {0}
AreTold told (Transitions d) = (s : ℕ) → s < length d.states → told (file_of d s) ≡ None → ⊥

-- the shelf tells the files, and they are short and make a game within the limits
pub record AreRight (told : List ℕ → Option (List ℕ)) (name : List ℕ) (discount : Ratio) : Type 0 where
  pub d : Dyn
  pub ns : List Nfg
  pub files : AreFiles told name d ns
  pub first_told : told name ≡ None → ⊥
  pub rest_told : AreTold told files.first
  pub fits : (f : BuildFault) → IsBuildFault d ns discount f → ⊥

-- how it is told that the texts make no game
abbrev pub build_refused : BuildFault → GameFault
build_refused (BuildShape fault) = Shape fault
build_refused (Wide what number) = Beyond what number
build_refused NoGame = NoMemory
