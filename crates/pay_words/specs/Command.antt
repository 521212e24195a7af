-- The words of the command line: a command, its files, and its settings.
use Rattle.std.specs.Prelude.{◌≡◌, ◌⊎◌, ℕ, ◌+◌, ◌<◌, ◌++◌, Option, Some, List, [], ◌∷◌, length, map, take, drop, codes, String, string_bytes}
use Rattle.std.specs.declared.alloc.Global.{Global}
use Rattle.pay_frac.specs.Ratio.{Ratio}
use Rattle.pay_words.specs.Options.{AreOptions, AreSettings, AreWithinLimits, IsMakeable, IsProper}
use Rattle.pay_words.specs.declared.command.Command.{Command}
use Rattle.pay_words.specs.declared.command.Command.TheVariants.{Solve as SolveCommand, Check as CheckCommand, Replay as ReplayCommand, Make as MakeCommand}
use Rattle.pay_words.specs.declared.options.Settings.{Settings}
use Rattle.pay_words.specs.declared.options.Verb.{Verb}
use Rattle.pay_words.specs.declared.options.Verb.TheVariants.{Solve, Check, Replay, Make}

-- the bytes of each word
abbrev pub words_in : List (String Global) → List (List ℕ)
words_in words = map string_bytes words

-- the word of a command
abbrev pub word_of : Verb → List ℕ
word_of Solve = codes "solve"
word_of Check = codes "check"
word_of Replay = codes "replay"
word_of Make = codes "make"

-- how many files a command names
abbrev pub file_count : Verb → ℕ
file_count Solve = 1
file_count Check = 2
file_count Replay = 2
file_count Make = 0

-- the files among a command's words
abbrev pub files_in : Verb → List (List ℕ) → List (List ℕ)
files_in verb words = take (file_count verb) (drop 1 words)

-- The words are a command, the names of these files, and settings of different names that the command takes. They
-- give these settings, and a seed and a number of states, which only `make` takes.
pub record IsCall (verb : Verb) (words files : List (List ℕ)) (set : Settings) : Type 0 where
  pub options : List (List ℕ)
  pub shape : words ≡ word_of verb ∷ files ++ options
  pub right : AreOptions verb options
  pub seed : Option ℕ
  pub states : ℕ
  pub settings : AreSettings options (record { set = set; seed = seed; states = states })

-- what a command asks for: the bytes of its files' names, and its settings; of `make` the seed, the number of states
-- and that of workers
pub data Request : Type 0 where
  solving : List ℕ → Settings → Request
  checking : List ℕ → List ℕ → Ratio → Request
  replaying : List ℕ → List ℕ → Settings → Request
  making : ℕ → ℕ → ℕ → Request

-- the words are a command that asks for this
abbrev pub IsCommand : List (List ℕ) → Request → Type 0
IsCommand words (solving file set) = IsCall Solve words (file ∷ []) set
IsCommand words (checking file corr discount) = (set : Settings) × IsCall Check words (file ∷ corr ∷ []) set × (set.discount ≡ discount)
IsCommand words (replaying file schedule set) = IsCall Replay words (file ∷ schedule ∷ []) set
IsCommand words (making seed states workers) = (set : Settings) × (call : IsCall Make words [] set) × (call.seed ≡ Some seed) × (call.states ≡ states) × (set.workers ≡ workers)

abbrev pub request_of : Command → Request
request_of (SolveCommand file set) = solving file.now set
request_of (CheckCommand file corr discount) = checking file.now corr.now discount
request_of (ReplayCommand file schedule set) = replaying file.now schedule.now set
request_of (MakeCommand seed states workers) = making seed states workers

-- the settings of a command lie within their limits
abbrev pub HasLimits : Command → Type 0
HasLimits (SolveCommand file set) = AreWithinLimits set
HasLimits (CheckCommand file corr discount) = IsProper discount
HasLimits (ReplayCommand file schedule set) = AreWithinLimits set
HasLimits (MakeCommand seed states workers) = IsMakeable seed states workers

-- with some words behind them, these are a command
pub record IsBeginning (words : List (List ℕ)) : Type 0 where
  pub rest : List (List ℕ)
  pub request : Request
  pub command : IsCommand (words ++ rest) request

-- The words before word i begin a command. With word i they don't, or they are all words and no command.
pub record IsMisfit (words : List (List ℕ)) (i : ℕ) : Type 0 where
  pub before : IsBeginning (take i words)
  pub here : ((i < length words) × (IsBeginning (take (i + 1) words) → ⊥))
      ⊎ ((i ≡ length words) × ((r : Request) → IsCommand words r → ⊥))
