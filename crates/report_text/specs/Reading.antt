-- The words of the pieces of a report, as they are read one after another.
use Rattle.std.specs.Prelude.{◌≡◌, ◌≢◌, ◌↔◌, ℕ, ◌+◌, ◌*◌, ◌/◌, ◌%◌, ◌^◌, ◌≤◌, ◌++◌, All, IsTrue, ◌≤ℤ◌, List, [], ◌∷◌, slice_index_or, codes, decimal, Option, ℤ, pos, ◌<ℤ◌}
use Rattle.std.specs.Fmt.{signed_decimal}
use Rattle.std.specs.Int.{◌∣◌}
use Rattle.std.specs.Int.RustNames.{unsigned_abs}
use Rattle.game_model.specs.SelfGeneration.{part}
use Rattle.pay_frac.specs.Ratio.{Ratio}
use Rattle.level_table.specs.declared.level.Level.{Level}
use Rattle.level_table.specs.declared.reason.Reason.{Reason}
use Rattle.level_table.specs.declared.reason.Note.{Note}
use Rattle.set_operator.specs.declared.row.Support.{Support}
use Rattle.set_operator.specs.declared.row.Verdict.{Verdict}
use Rattle.set_operator.specs.declared.row.Verdict.TheVariants.{Supported, Unsupported}
use Rattle.report_text.specs.declared.report.Report.{Report}
use Rattle.report_text.specs.declared.nearest.Head.{Head}
use Rattle.report_text.specs.declared.rules.Sizes.{Sizes}
use Rattle.report_text.specs.ReportText.{AreDiscountWords, AreFractionWords, IsFraction, level_word, reached_word, reason_words, rows_of, status_word}
use Rattle.report_text.specs.Rules.{AreDiscounts, AreSizes, sizes_of}

abbrev pub status_words : Verdict → List (List ℕ)
status_words v = codes "payoff" ∷ codes "1" ∷ codes "status" ∷ status_word v ∷ []

abbrev pub sizes_words : Sizes → List (List ℕ)
sizes_words z = codes "players" ∷ decimal z.players ∷ codes "states" ∷ decimal z.states ∷ codes "directions" ∷ decimal z.directions ∷ []

-- the unit, the slack, the sweeps and the solves
abbrev pub counts_words : ℤ → ℕ → ℕ → ℕ → List (List ℕ)
counts_words unit slack sweeps solves =
    codes "unit" ∷ signed_decimal unit ∷ codes "slack" ∷ decimal slack ∷ codes "sweeps" ∷ decimal sweeps ∷ codes "solves" ∷ decimal solves ∷ []

-- The words are those of the head of the report, and behind them these.
pub record BeginsWithHead (r : Report) (words rest : List (List ℕ)) : Type 0 where
  pub shown : List (List ℕ)
  pub are_shown : AreDiscountWords r.discounts shown
  pub words_are : words ≡
      status_words r.verdict
      ++ (sizes_words (sizes_of r)
      ++ (codes "discount" ∷ (shown ++ (counts_words r.unit r.slack r.sweeps (r.sweeps * rows_of r) ++ rest))))

-- what is read of the head of the report
pub record IsHeadOf (r : Report) (h : Head) : Type 0 where
  pub settled : IsTrue h.settled ↔ (status_word r.verdict ≡ codes "settled")
  pub sizes : h.sizes ≡ sizes_of r
  pub discounts : h.discounts ≡ r.discounts
  pub unit : h.unit ≡ r.unit
  pub slack : h.slack ≡ r.slack
  pub sweeps : h.sweeps ≡ r.sweeps

pub record KeepsHead (h : Head) : Type 0 where
  pub sizes : AreSizes h.sizes
  pub discounts : AreDiscounts h.sizes.players h.discounts
  pub unit : (pos 1 ≤ℤ h.unit) × (h.unit ≤ℤ pos (2 ^ 100))
  pub slack : (1 ≤ h.slack) × (h.slack ≤ 1000000000)

-- one level for each row from this one on
abbrev pub levels_words : ℕ → ℕ → List Level → List (List ℕ)
levels_words directions row [] = []
levels_words directions row (level ∷ levels) =
    codes "row" ∷ decimal (row / directions) ∷ decimal (row % directions) ∷ level_word level ∷ levels_words directions (row + 1) levels

-- a fraction as it is kept for a point: this number is a multiple of its denominator, and its size is at most 2^50
pub record IsPart (den : ℤ) (r : Ratio) : Type 0 where
  pub positive : pos 0 <ℤ r.den
  pub divides : unsigned_abs r.den ∣ unsigned_abs den
  pub small : unsigned_abs r.num ≤ 2 ^ 50 * unsigned_abs r.den

abbrev pub zero_ratio : Ratio
zero_ratio = record { num = pos 0; den = pos 1 }

abbrev pub ratio_at : List Ratio → ℕ → Ratio
ratio_at parts k = slice_index_or parts k zero_ratio

-- The words are those of a support, and behind them these.
pub record BeginsWithSupport (z : Sizes) (s : Support) (words rest : List (List ℕ)) : Type 0 where
  pub parts : List (List ℕ)
  pub are_parts : AreFractionWords z.players (part s.point.num) (λ i. s.point.den) parts
  pub words_are : words ≡ codes "point" ∷ decimal (s.row / z.directions) ∷ decimal (s.row % z.directions) ∷ decimal s.profile ∷ (parts ++ rest)

abbrev pub BeginWithSupports : Sizes → List Support → List (List ℕ) → List (List ℕ) → Type 0
BeginWithSupports z [] words rest = words ≡ rest
BeginWithSupports z (s ∷ ss) words rest = (between : List (List ℕ)) × BeginsWithSupport z s words between × BeginWithSupports z ss between rest

-- The points of the supports can be printed.
abbrev pub HasFractions : Verdict → Type 0
HasFractions (Supported supports) = All (λ s. IsFraction s.point.num s.point.den) supports
HasFractions (Unsupported row level reached) = Unit {0}

abbrev pub stop_words : Sizes → ℕ → ℤ → Option Ratio → List (List ℕ)
stop_words z row level reached =
    codes "stop" ∷ decimal (row / z.directions) ∷ decimal (row % z.directions) ∷ signed_decimal level ∷ reached_word reached ∷ []

abbrev pub BeginsWithVerdict : Sizes → Verdict → List (List ℕ) → List (List ℕ) → Type 0
BeginsWithVerdict z (Supported supports) words rest = BeginWithSupports z supports words rest
BeginsWithVerdict z (Unsupported row level reached) words rest = words ≡ stop_words z row level reached ++ rest

-- The words don't begin with an item.
pub record EndsItems (words : List (List ℕ)) : Type 0 where
  pub no_level : slice_index_or words 0 [] ≢ codes "level"
  pub no_gain : slice_index_or words 0 [] ≢ codes "gain"

-- The words don't go on with a reason.
pub record EndsReasons (words : List (List ℕ)) : Type 0 where
  pub no_why : slice_index_or words 0 [] ≢ codes "why"
  pub no_item : EndsItems words

-- one reason for each profile of state s from a on
abbrev pub whys_words : ℕ → ℕ → List Reason → List (List ℕ)
whys_words s a [] = []
whys_words s a (reason ∷ reasons) = codes "why" ∷ decimal s ∷ decimal a ∷ (reason_words reason ++ whys_words s (a + 1) reasons)

abbrev pub notes_words : List Note → List (List ℕ)
notes_words [] = []
notes_words (note ∷ notes) = codes "empty" ∷ decimal note.state ∷ (whys_words note.state 0 note.reasons.list ++ notes_words notes)

-- the words behind the last note: `end`, and what stands behind the last line feed
abbrev pub last_words : List (List ℕ)
last_words = codes "end" ∷ [] ∷ []
