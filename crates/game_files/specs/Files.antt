-- The files that a game is read from.
use Rattle.std.specs.Prelude.{◌≡◌, ℕ, ◌+◌, ◌<◌, Bool, false, if◌then◌else◌, List, [], ◌∷◌, length, slice_index_or, codes, Option, Some, None, Result, Ok, Err}
use Rattle.std.specs.Str.{bytes_eq}
use Rattle.token_text.specs.Tokens.{next, stream_of}
use Rattle.nfg_text.specs.declared.nfg.Nfg.{Nfg}
use Rattle.nfg_text.specs.declared.nfg.Strategies.TheVariants.{Counts as CountsOnly}
use Rattle.nfg_text.specs.declared.fault.NfgFault.{NfgFault}
use Rattle.nfg_text.specs.Wanted.{◌>>=◌, word_in}
use Rattle.nfg_text.specs.Grammar.{nfg_of}
use Rattle.dyn_text.specs.declared.transitions.Dyn.{Dyn}
use Rattle.dyn_text.specs.declared.transitions.DynState.{DynState}
use Rattle.dyn_text.specs.Grammar.{dyn_of}
use Rattle.dyn_text.specs.Single.{single_of}
use Rattle.game_files.specs.declared.first.First.{First}
use Rattle.game_files.specs.declared.first.First.TheVariants.{Stage, Transitions}
use Rattle.game_files.specs.Loads.{AreLoads, Counts, Stands}

-- how many bytes a game's file may have
abbrev pub longest_file : ℕ
longest_file = 1048576

abbrev pub is_word : List ℕ → Option (List ℕ) → Bool
is_word wanted None = false
is_word wanted (Some w) = bytes_eq w wanted

-- a transition file begins with the word DYN
abbrev pub is_transitions : List ℕ → Bool
is_transitions bytes = is_word (codes "DYN") (word_in (next (stream_of bytes)).kind)

abbrev pub stage_from : Result Nfg NfgFault → Result First NfgFault
stage_from r = r >>= λ n. Ok (Stage n)

abbrev pub transitions_from : Result Dyn NfgFault → Result First NfgFault
transitions_from r = r >>= λ d. Ok (Transitions d)

-- What the text of a first file says, or its first fault. What doesn't begin as transitions is read as a stage game.
unfoldable pub first_of : List ℕ → Result First NfgFault
first_of bytes = if is_transitions bytes then transitions_from (dyn_of bytes) else stage_from (nfg_of bytes)

-- the file under this name says this
pub record IsFirst (told : List ℕ → Option (List ℕ)) (name : List ℕ) (first : First) : Type 0 where
  pub bytes : List ℕ
  pub stands : Stands told longest_file name bytes
  pub says : first_of bytes ≡ Ok first

-- the file under this name is that of this stage game
pub record IsStage (told : List ℕ → Option (List ℕ)) (name : List ℕ) (n : Nfg) : Type 0 where
  pub bytes : List ℕ
  pub stands : Stands told longest_file name bytes
  pub says : nfg_of bytes ≡ Ok n

abbrev pub no_state : DynState
no_state = record { name = []; file = []; next = [] }

abbrev pub no_game : Nfg
no_game = record { title = []; players = []; strategies = CountsOnly []; comment = None; payoffs = [] }

-- the name of the file of state s
abbrev pub file_of : Dyn → ℕ → List ℕ
file_of d s = (slice_index_or d.states s no_state).file

abbrev pub game_in : List Nfg → ℕ → Nfg
game_in ns s = slice_index_or ns s no_game

-- each game is that in the file of its state
abbrev pub AreStages : (List ℕ → Option (List ℕ)) → Dyn → List Nfg → Type 0
AreStages told d ns = (s : ℕ) → s < length ns → IsStage told (file_of d s) (game_in ns s)

-- the transitions and the stage games behind a first file: of a stage game the repeated game
abbrev pub AreGames : (List ℕ → Option (List ℕ)) → First → Dyn → List Nfg → Type 0
AreGames told (Stage n) d ns = (d ≡ single_of n) × (ns ≡ n ∷ [])
AreGames told (Transitions t) d ns = (d ≡ t) × (length ns ≡ length t.states) × AreStages told t ns

-- the file under this name and those that it names have these transitions and stage games
pub record AreFiles (told : List ℕ → Option (List ℕ)) (name : List ℕ) (d : Dyn) (ns : List Nfg) : Type 0 where
  pub first : First
  pub is_first : IsFirst told name first
  pub games : AreGames told first d ns

-- how many files those are
abbrev pub file_count : First → ℕ
file_count (Stage n) = 1
file_count (Transitions d) = 1 + length d.states

-- as many loads as there are such files
pub record AreLoadsOf (told : List ℕ → Option (List ℕ)) (name : List ℕ) (before after : Counts) : Type 0 where
  pub first : First
  pub is_first : IsFirst told name first
  pub loads : AreLoads (file_count first) before after

-- the files that the text under this name names may be asked for
abbrev pub MayAskStates : (List ℕ → Option (List ℕ)) → (List ℕ → Type 0) → List ℕ → Type 0
MayAskStates told may_ask name = (bytes : List ℕ) (d : Dyn) (s : ℕ) → told name ≡ Some bytes → first_of bytes ≡ Ok (Transitions d) → s < length d.states → may_ask (file_of d s)
