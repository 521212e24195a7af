-- The words `name=value`, and the settings that they give.
use Rattle.std.specs.Prelude.{◌≡◌, ◌≢◌, ◌⊎◌, ◌↔◌, ℕ, ◌+◌, ◌<◌, ◌≤◌, ◌++◌, ◌==◌, List, ◌∷◌, length, take, codes, pos, ◌<ℤ◌, Some, None, Bool, true, false, IfSome, IsTrue, All, AllPairs, Any}
use Rattle.std.specs.List.{before_first}
use Rattle.pay_frac.specs.Ratio.{Ratio, IsLowest, Equals}
use Rattle.pay_frac.specs.Spelling.{Spelling, Spells, SpellsWhole, digit_count, spelled_num, spelled_den}
use Rattle.pay_words.specs.declared.options.Setting.{Setting}
use Rattle.pay_words.specs.declared.options.Setting.TheVariants.{Discount, Directions, Workers, Budget, Grid, Slack, Inner, Seed, States}
use Rattle.pay_words.specs.declared.options.Settings.{Settings}
use Rattle.pay_words.specs.declared.options.Given.{Given}
use Rattle.pay_words.specs.declared.options.Verb.{Verb}
use Rattle.pay_words.specs.declared.options.Verb.TheVariants.{Solve, Check, Replay, Make}

-- the name of a setting
abbrev pub name_of : Setting → List ℕ
name_of (Discount d) = codes "discount"
name_of (Directions n) = codes "directions"
name_of (Workers n) = codes "workers"
name_of (Budget n) = codes "budget"
name_of (Grid n) = codes "grid"
name_of (Slack n) = codes "slack"
name_of (Inner n) = codes "inner"
name_of (Seed n) = codes "seed"
name_of (States n) = codes "states"

-- whether words of a command may have this setting
abbrev pub takes : Verb → Setting → Bool
takes Solve (Seed n) = false
takes Solve (States n) = false
takes Solve s = true
takes Check (Discount d) = true
takes Check s = false
takes Replay (Discount d) = true
takes Replay (Directions n) = true
takes Replay (Grid n) = true
takes Replay s = false
takes Make (Seed n) = true
takes Make (States n) = true
takes Make (Workers n) = true
takes Make s = false

-- a fraction in lowest terms, above 0 and below 1
pub record IsProper (d : Ratio) : Type 0 where
  pub lowest : IsLowest d
  pub above : pos 0 <ℤ d.num
  pub below : d.num <ℤ d.den

-- The text is a number of at most 36 digits, above 0 and below 1: this one, in lowest terms.
pub record IsDiscount (text : List ℕ) (d : Ratio) : Type 0 where
  pub spelling : Spelling
  pub spells : Spells text spelling
  pub few : digit_count text ≤ 36
  pub value : Equals d (spelled_num spelling) (spelled_den spelling)
  pub lowest : IsLowest d
  pub above : pos 0 <ℤ d.num
  pub below : d.num <ℤ d.den

-- 1 to 18 digits that write n, and it lies within these bounds
pub record IsWithin (least most : ℕ) (text : List ℕ) (n : ℕ) : Type 0 where
  pub spells : SpellsWhole text n
  pub from : least ≤ n
  pub upto : n ≤ most

-- 1 to 18 digits that write a number of directions
pub record IsDirections (text : List ℕ) (n : ℕ) : Type 0 where
  pub spells : SpellsWhole text n
  pub count : (n ≡ 4) ⊎ (n ≡ 8) ⊎ (n ≡ 16) ⊎ (n ≡ 32)

-- the text is the value of a setting
abbrev pub IsValue : Setting → List ℕ → Type 0
IsValue (Discount d) text = IsDiscount text d
IsValue (Directions n) text = IsDirections text n
IsValue (Workers n) text = IsWithin 1 16 text n
IsValue (Budget n) text = IsWithin 0 1000000000000000 text n
IsValue (Grid n) text = IsWithin 0 30 text n
IsValue (Slack n) text = IsWithin 1 1000000000 text n
IsValue (Inner n) text = IsWithin 0 16 text n
IsValue (Seed n) text = IsWithin 0 2147483647 text n
IsValue (States n) text = IsWithin 1 64 text n

-- the word is a setting's name, `=` (61), and its value
pub record IsSetting (word : List ℕ) (s : Setting) : Type 0 where
  pub text : List ℕ
  pub shape : word ≡ name_of s ++ 61 ∷ text
  pub value : IsValue s text

-- a word's name ends at the first `=`
abbrev pub name_in : List ℕ → List ℕ
name_in word = before_first (λ b. b == 61) word

-- Each word is a setting that the command takes, and no two have the same name.
pub record AreOptions (verb : Verb) (words : List (List ℕ)) : Type 0 where
  pub each : All (λ w. (s : Setting) × IsSetting w s × IsTrue (takes verb s)) words
  pub once : AllPairs (λ v w. name_in v ≢ name_in w) words

-- the settings where no word says otherwise
abbrev pub usual_settings : Settings
usual_settings = record {
  discount = record { num = pos 9; den = pos 10 };
  directions = None;
  workers = 2;
  budget = 1000000;
  grid = 16;
  slack = 1;
  inner = None;
}

-- what is given where no word says otherwise
abbrev pub usual_given : Given
usual_given = record { set = usual_settings; seed = None; states = 8 }

-- this setting is among those given
abbrev pub Holds : Given → Setting → Type 0
Holds given (Discount d) = given.set.discount ≡ d
Holds given (Directions n) = given.set.directions ≡ Some n
Holds given (Workers n) = given.set.workers ≡ n
Holds given (Budget n) = given.set.budget ≡ n
Holds given (Grid n) = given.set.grid ≡ n
Holds given (Slack n) = given.set.slack ≡ n
Holds given (Inner n) = given.set.inner ≡ Some n
Holds given (Seed n) = given.seed ≡ Some n
Holds given (States n) = given.states ≡ n

-- Each setting is that of the word with its name, and the usual one where no word has it.
pub record AreSettings (words : List (List ℕ)) (all : Given) : Type 0 where
  pub given : (s : Setting) → Any (λ w. IsSetting w s) words → Holds all s
  pub usual : (s : Setting) → All (λ w. name_in w ≢ name_of s) words → Holds all s ↔ Holds usual_given s

-- the numbers of settings lie within their limits
pub record AreWithinLimits (set : Settings) : Type 0 where
  pub lowest : IsLowest set.discount
  pub above_zero : pos 0 <ℤ set.discount.num
  pub below_one : set.discount.num <ℤ set.discount.den
  pub directions : IfSome set.directions (λ n. (n ≡ 4) ⊎ (n ≡ 8) ⊎ (n ≡ 16) ⊎ (n ≡ 32))
  pub some_worker : 1 ≤ set.workers
  pub grid : set.grid ≤ 30
  pub some_slack : 1 ≤ set.slack
  pub inner : IfSome set.inner (λ n. n ≤ 16)

-- a game is made from a number below 2^31, has 1 to 64 states, and is solved by 1 to 16 workers
pub record IsMakeable (seed states workers : ℕ) : Type 0 where
  pub seed_upto : seed ≤ 2147483647
  pub some_state : 1 ≤ states
  pub states_upto : states ≤ 64
  pub some_worker : 1 ≤ workers
  pub workers_upto : workers ≤ 16

-- the numbers that words give lie within their limits
pub record AreLimited (all : Given) : Type 0 where
  pub settings : AreWithinLimits all.set
  pub seed_upto : IfSome all.seed (λ n. n ≤ 2147483647)
  pub some_state : 1 ≤ all.states
  pub states_upto : all.states ≤ 64
  pub workers_upto : all.set.workers ≤ 16

-- the settings with one put in its place
abbrev pub with_setting : Settings → Setting → Settings
with_setting set (Discount d) = record set { discount = d }
with_setting set (Directions n) = record set { directions = Some n }
with_setting set (Workers n) = record set { workers = n }
with_setting set (Budget n) = record set { budget = n }
with_setting set (Grid n) = record set { grid = n }
with_setting set (Slack n) = record set { slack = n }
with_setting set (Inner n) = record set { inner = Some n }
with_setting set (Seed n) = set
with_setting set (States n) = set

-- what is given with a setting put in its place
abbrev pub put : Given → Setting → Given
put all (Seed n) = record all { seed = Some n }
put all (States n) = record all { states = n }
put all s = record all { set = with_setting all.set s }

-- Word i is the first that is no setting of the command or has the name of an earlier one.
pub record IsFirstWrong (verb : Verb) (words : List (List ℕ)) (i : ℕ) : Type 0 where
  pub there : i < length words
  pub before : AreOptions verb (take i words)
  pub settings : Given
  pub given : AreSettings (take i words) settings
  pub wrong : AreOptions verb (take (i + 1) words) → ⊥
