-- what the words ask for
use Rattle.std.proofs.Common.{◌≡◌, ℕ, ◌<◌, List, [], ◌∷◌, length, sym, ap, subst, arith}
use Rattle.pay_words.specs.declared.options.Settings.{Settings}
use Rattle.pay_words.specs.declared.options.Verb.TheVariants.{Solve, Check, Replay, Make}
use Rattle.pay_words.specs.declared.command.Command.{Command}
use Rattle.pay_words.specs.declared.command.Command.TheVariants as commands
use Rattle.pay_words.specs.Command.{HasLimits as CommandHasLimits, IsCall, IsCommand, request_of, word_of}
use Rattle.solve_run.specs.Tasks.{HasLimits, last_name, request_in, task_in, word_at}

-- the files of a command are the words behind its name
asks_solve : (words : List (List ℕ)) (file : List ℕ) (set : Settings) → IsCall Solve words (file ∷ []) set → IsCall Solve words (word_at words 1 ∷ []) set × (1 < length words)
asks_solve words file set h =
    let name : file ≡ word_at words 1 = sym (ap (λ ws. word_at ws 1) h.shape) in
    let long : 1 < length (word_of Solve ∷ file ∷ h.options) = omega arith in
    (subst (λ f. IsCall Solve words (f ∷ []) set) name h, subst (λ ws. 1 < length ws) (sym h.shape) long)

asks_check : (words : List (List ℕ)) (file corr : List ℕ) (set : Settings) → IsCall Check words (file ∷ corr ∷ []) set → IsCall Check words (word_at words 1 ∷ word_at words 2 ∷ []) set × (2 < length words)
asks_check words file corr set h =
    let first : file ≡ word_at words 1 = sym (ap (λ ws. word_at ws 1) h.shape) in
    let long : 2 < length (word_of Check ∷ file ∷ corr ∷ h.options) = omega arith in
    let second : corr ≡ word_at words 2 = sym (ap (λ ws. word_at ws 2) h.shape) in
    (subst (λ f. IsCall Check words (f ∷ word_at words 2 ∷ []) set) first (subst (λ c. IsCall Check words (file ∷ c ∷ []) set) second h), subst (λ ws. 2 < length ws) (sym h.shape) long)

asks_replay : (words : List (List ℕ)) (file schedule : List ℕ) (set : Settings) → IsCall Replay words (file ∷ schedule ∷ []) set → IsCall Replay words (word_at words 1 ∷ word_at words 2 ∷ []) set × (2 < length words)
asks_replay words file schedule set h =
    let first : file ≡ word_at words 1 = sym (ap (λ ws. word_at ws 1) h.shape) in
    let long : 2 < length (word_of Replay ∷ file ∷ schedule ∷ h.options) = omega arith in
    let second : schedule ≡ word_at words 2 = sym (ap (λ ws. word_at ws 2) h.shape) in
    (subst (λ f. IsCall Replay words (f ∷ word_at words 2 ∷ []) set) first (subst (λ c. IsCall Replay words (file ∷ c ∷ []) set) second h), subst (λ ws. 2 < length ws) (sym h.shape) long)

asks_make : (words : List (List ℕ)) (set : Settings) → IsCall Make words [] set → 0 < length words
asks_make words set h =
    let long : 0 < length (word_of Make ∷ h.options) = omega arith in
    subst (λ ws. 0 < length ws) (sym h.shape) long

pub asks_of : (words : List (List ℕ)) (c : Command) → IsCommand words (request_of c) → IsCommand words (request_in words (task_in c)) × (last_name (task_in c) < length words)
asks_of words (commands.Solve file set) h = asks_solve words file.now set h
asks_of words (commands.Check file corr discount) h = let asks = asks_check words file.now corr.now h.0 h.1 in ((h.0, asks.0, h.2), asks.1)
asks_of words (commands.Replay file schedule set) h = asks_replay words file.now schedule.now set h
asks_of words (commands.Make seed states workers) h = (h, asks_make words h.0 h.1)

pub limits_of : (c : Command) → CommandHasLimits c → HasLimits (task_in c)
limits_of (commands.Solve file set) h = h
limits_of (commands.Check file corr discount) h = h
limits_of (commands.Replay file schedule set) h = h
limits_of (commands.Make seed states workers) h = h
