-- Why texts make no game: first a shape, then the discount, the common denominator, a payoff.
use Rattle.std.specs.Prelude.{◌≡◌, ℕ, ◌-◌, ◌^◌, ◌<◌, ◌≤◌, List, [], ◌∷◌, ◌++◌, min, ℤ, pos}
use Rattle.std.specs.List.{All}
use Rattle.std.specs.Int.RustNames.{unsigned_abs}
use Rattle.pay_frac.specs.Ratio.{Ratio}
use Rattle.nfg_text.specs.declared.nfg.Nfg.{Nfg}
use Rattle.nfg_text.specs.declared.what.What.{What}
use Rattle.nfg_text.specs.declared.what.What.TheVariants.{Discount, Denominator, Payoff}
use Rattle.game_model.specs.Game.{IsLeastCommonMultiple}
use Rattle.game_model.specs.Parts.{IsFirstFault, HasNoFault}
use Rattle.dyn_text.specs.declared.transitions.Dyn.{Dyn}
use Rattle.dyn_text.specs.declared.fault.BuildFault.{BuildFault}
use Rattle.dyn_text.specs.declared.fault.BuildFault.TheVariants.{Shape, Wide, NoMemory}
use Rattle.dyn_text.specs.Assembled.{payoffs_in, denominators_in, units, shape_of_texts}

-- the number that is shown for one that passes its limit
abbrev pub shown : ℕ → ℤ
shown n = pos (min n (2 ^ 127 - 1))

-- The first running least common multiple of the denominators that passes 2^40: with one denominator less it doesn't.
pub record IsWideDenominator (denominators : List ℕ) (number : ℤ) : Type 0 where
  pub front : List ℕ
  pub here : ℕ
  pub others : List ℕ
  pub split : denominators ≡ front ++ here ∷ others
  pub before : ℕ
  pub before_is : IsLeastCommonMultiple front before
  pub before_within : before ≤ 2 ^ 40
  pub multiple : ℕ
  pub multiple_is : IsLeastCommonMultiple (front ++ here ∷ []) multiple
  pub passes : 2 ^ 40 < multiple
  pub number_is : number ≡ shown multiple

abbrev pub IsSmallPayoff : ℕ → Ratio → Type 0
IsSmallPayoff unit r = unsigned_abs (units unit r) ≤ 2 ^ 26

-- the first payoff over 1/unit that passes 2^26 in absolute value
pub record IsWidePayoff (unit : ℕ) (payoffs : List Ratio) (number : ℤ) : Type 0 where
  pub front : List Ratio
  pub here : Ratio
  pub others : List Ratio
  pub split : payoffs ≡ front ++ here ∷ others
  pub before : All (IsSmallPayoff unit) front
  pub passes : 2 ^ 26 < unsigned_abs (units unit here)
  pub number_is : number ≡ shown (unsigned_abs (units unit here))

-- the least common denominator of all payoffs
pub record IsUnit (games : List Nfg) (unit : ℕ) : Type 0 where
  pub least : IsLeastCommonMultiple (denominators_in games) unit
  pub within : unit ≤ 2 ^ 40

-- which limit is passed, of those before it none
abbrev pub IsWide : List Nfg → Ratio → What → ℤ → Type 0
IsWide games discount Discount number = (1024 < unsigned_abs discount.den) × (number ≡ discount.den)
IsWide games discount Denominator number = (unsigned_abs discount.den ≤ 1024) × IsWideDenominator (denominators_in games) number
IsWide games discount Payoff number = (unsigned_abs discount.den ≤ 1024) × (unit : ℕ) × IsUnit games unit × IsWidePayoff unit (payoffs_in games) number
IsWide games discount _ number = ⊥

abbrev pub IsBuildFault : Dyn → List Nfg → Ratio → BuildFault → Type 0
IsBuildFault d games discount (Shape f) = IsFirstFault (shape_of_texts d games) f
IsBuildFault d games discount (Wide what number) = HasNoFault (shape_of_texts d games) × IsWide games discount what number
IsBuildFault d games discount NoMemory = ⊥
