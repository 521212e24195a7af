-- The games whose canonical text is a file that has them: those that a file can have, with payoffs of few digits.
use Rattle.std.specs.Prelude.{◌≡◌, ◌<◌, ◌≤◌, ◌*◌, ℕ, List, [], ◌∷◌, length, IfSome, All}
use Rattle.pay_frac.specs.Ratio.{Ratio, IsLowest}
use Rattle.pay_frac.specs.Spelling.{digit_count}
use Rattle.token_text.specs.Quoted.{IsText}
use Rattle.nfg_text.specs.declared.nfg.Nfg.{Nfg}
use Rattle.nfg_text.specs.declared.nfg.Strategies.{Strategies}
use Rattle.nfg_text.specs.declared.nfg.Strategies.TheVariants.{Counts, Names}
use Rattle.nfg_text.specs.Canonical.{ratio_text}
use Rattle.nfg_text.specs.Grammar.{profiles_of}

-- two items, and both are right
abbrev pub AreTwo : {A : Type 0} → (A → Type 0) → List A → Type 0
AreTwo P (x ∷ y ∷ []) = P x × P y
AreTwo P _ = ⊥

abbrev pub IsCount : ℕ → Type 0
IsCount n = (0 < n) × (n ≤ 16)

abbrev pub AreNames : List (List ℕ) → Type 0
AreNames ns = IsCount (length ns) × All IsText ns

abbrev pub AreStrategies : Strategies → Type 0
AreStrategies (Counts ns) = AreTwo IsCount ns
AreStrategies (Names nss) = AreTwo AreNames nss

-- a fraction in lowest terms that is spelled with at most 36 digits
abbrev pub IsShort : Ratio → Type 0
IsShort r = IsLowest r × (digit_count (ratio_text r) ≤ 36)

pub record IsWritable (n : Nfg) : Type 0 where
  pub title : IsText n.title
  pub players : AreTwo IsText n.players
  pub strategies : AreStrategies n.strategies
  pub comment : IfSome n.comment IsText
  pub whole : length n.payoffs ≡ 2 * profiles_of n.strategies
  pub payoffs : All IsShort n.payoffs
