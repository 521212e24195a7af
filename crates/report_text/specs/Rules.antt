-- What a report keeps that is read from its text, and when two reports tell the same.
use Rattle.std.specs.Prelude.{◌≡◌, ℕ, ◌+◌, ◌*◌, ◌^◌, ◌<◌, ◌≤◌, List, [], ◌∷◌, length, map, All, Option, Some, None, ℤ, pos, ◌*ℤ◌, ◌<ℤ◌, ◌≤ℤ◌}
use Rattle.std.specs.Int.{IsGcd, ◌∣◌}
use Rattle.std.specs.Int.RustNames.{unsigned_abs}
use Rattle.direction_set.specs.DirectionTable.{HasTable}
use Rattle.game_model.specs.SelfGeneration.{part}
use Rattle.pay_frac.specs.Ratio.{Ratio, IsLowest}
use Rattle.pay_frac.specs.Spelling.{digit_count}
use Rattle.lp_core.specs.declared.Point.{Point}
use Rattle.level_table.specs.declared.level.Level.{Level}
use Rattle.level_table.specs.declared.level.Level.TheVariants.{Empty, At}
use Rattle.level_table.specs.declared.reason.Item.{Item}
use Rattle.level_table.specs.declared.reason.Item.TheVariants as items
use Rattle.level_table.specs.declared.reason.Reason.{Reason}
use Rattle.level_table.specs.declared.reason.Reason.TheVariants as reasons
use Rattle.level_table.specs.declared.reason.Note.{Note}
use Rattle.level_table.specs.Levels.{Table, IsSmall, level_at, levels_in}
use Rattle.level_table.specs.Notes.{AreDistinct}
use Rattle.set_operator.specs.declared.row.Support.{Support}
use Rattle.set_operator.specs.declared.row.Verdict.{Verdict}
use Rattle.set_operator.specs.declared.row.Verdict.TheVariants.{Supported, Unsupported}
use Rattle.report_text.specs.declared.report.Report.{Report}
use Rattle.report_lines.specs.Forms.{place_of}
use Rattle.report_lines.specs.Spelled.{ratio_word}
use Rattle.report_text.specs.declared.read.ReportFault.{ReportFault}
use Rattle.report_text.specs.declared.read.ReportFault.TheVariants.{Bad, NoMemory}
use Rattle.report_text.specs.declared.rules.Sizes.{Sizes}
use Rattle.report_text.specs.ReportText.{IsReportText}

-- the most players of a report that is read
abbrev pub most_players : ℕ
most_players = 2

abbrev pub sizes_of : Report → Sizes
sizes_of r = record { players = r.players; states = r.states; directions = r.directions }

pub record AreSizes (z : Sizes) : Type 0 where
  pub some_players : 2 ≤ z.players
  pub few_players : z.players ≤ most_players
  pub some_state : 1 ≤ z.states
  pub few_states : z.states ≤ 64
  pub table : HasTable z.players z.directions

-- ---- discounts
pub record IsDiscount (d : ℕ × ℕ) : Type 0 where
  pub positive : 0 < d.0
  pub below_one : d.0 < d.1
  pub lowest : IsGcd d.0 d.1 1

-- a common denominator of the discounts, which is at most 1024
pub record IsCommon (ds : List (ℕ × ℕ)) (m : ℕ) : Type 0 where
  pub positive : 0 < m
  pub few : m ≤ 1024
  pub multiple : All (λ d. d.1 ∣ m) ds

pub record AreDiscounts (players : ℕ) (ds : List (ℕ × ℕ)) : Type 0 where
  pub one_each : length ds ≡ players
  pub each : All IsDiscount ds
  pub common : (m : ℕ) × IsCommon ds m

-- ---- levels
pub record AreLevels (z : Sizes) (t : Table) : Type 0 where
  pub states : t.states ≡ z.states
  pub directions : t.directions ≡ z.directions
  pub one_each : length t.levels ≡ z.states * z.directions
  pub small : All IsSmall t.levels

-- ---- the verdict
-- Some common denominator of the parts is at most 2^20, and each part is at most 2^50 in absolute value.
pub record IsShortPoint (players : ℕ) (y : Point) : Type 0 where
  pub positive : pos 0 <ℤ y.den
  pub denominator : ℕ
  pub some : 0 < denominator
  pub few : denominator ≤ 2 ^ 20
  pub whole : (i : ℕ) → i < players → (n : ℤ) × (part y.num i *ℤ pos denominator ≡ n *ℤ y.den)
  pub small : (i : ℕ) → i < players → unsigned_abs (part y.num i) ≤ 2 ^ 50 * unsigned_abs y.den

pub record IsShortSupport (players row : ℕ) (s : Support) : Type 0 where
  pub row_is : s.row ≡ row
  pub profile : s.profile < 4096
  pub point : IsShortPoint players s.point

-- one support for each row that has a number, in row order, where the levels are those from this row on
abbrev pub AreSupports : ℕ → ℕ → List Level → List Support → Type 0
AreSupports players row [] [] = Unit {0}
AreSupports players row [] (s ∷ ss) = ⊥
AreSupports players row (Empty ∷ ls) ss = AreSupports players (row + 1) ls ss
AreSupports players row (At x ∷ ls) [] = ⊥
AreSupports players row (At x ∷ ls) (s ∷ ss) = IsShortSupport players row s × AreSupports players (row + 1) ls ss

-- at most 36 digits, those of both parts
abbrev pub IsShortValue : Option Ratio → Type 0
IsShortValue None = Unit {0}
IsShortValue (Some q) = IsLowest q × (digit_count (ratio_word q) ≤ 36)

pub record IsStop (t : Table) (row : ℕ) (level : ℤ) (reached : Option Ratio) : Type 0 where
  pub known : row < t.states * t.directions
  pub kept : level_at t row ≡ At level
  pub short : IsShortValue reached

abbrev pub KeepsVerdict : Sizes → Table → Verdict → Type 0
KeepsVerdict z t (Supported supports) = AreSupports z.players 0 t.levels supports
KeepsVerdict z t (Unsupported row level reached) = IsStop t row level reached

-- ---- notes
abbrev pub IsMultiplier : ℤ → Type 0
IsMultiplier times = (pos 1 ≤ℤ times) × (times ≤ℤ pos (2 ^ 20))

abbrev pub KeepsItem : Sizes → Item → Type 0
KeepsItem z (items.Level k x times) = (k < z.directions) × IsSmall (At x) × IsMultiplier times
KeepsItem z (items.Gain i b x times) = (i < z.players) × (b < 16) × IsSmall (At x) × IsMultiplier times

abbrev pub KeepItems : Sizes → List Item → Type 0
KeepItems z [] = Unit {0}
KeepItems z (item ∷ rest) = KeepsItem z item × KeepItems z rest

abbrev pub KeepsReason : Sizes → Reason → Type 0
KeepsReason z (reasons.Successor t) = t < z.states
KeepsReason z (reasons.Deviation i b t) = (i < z.players) × (b < 16) × (t < z.states)
KeepsReason z (reasons.Farkas list) = (1 ≤ length list) × (length list ≤ 4) × KeepItems z list

abbrev pub KeepReasons : Sizes → List Reason → Type 0
KeepReasons z [] = Unit {0}
KeepReasons z (reason ∷ rest) = KeepsReason z reason × KeepReasons z rest

-- a state whose rows are all empty, with a reason for each profile from 0 on
pub record KeepsNote (z : Sizes) (t : Table) (note : Note) : Type 0 where
  pub known : note.state < z.states
  pub empty : (k : ℕ) → k < z.directions → levels_in t note.state k ≡ Empty
  pub few : length note.reasons.list ≤ 4096
  pub reasons : KeepReasons z note.reasons.list

abbrev pub KeepNotes : Sizes → Table → List Note → Type 0
KeepNotes z t [] = Unit {0}
KeepNotes z t (note ∷ rest) = KeepsNote z t note × KeepNotes z t rest

-- ---- the report
pub record KeepsRules (r : Report) : Type 0 where
  pub sizes : AreSizes (sizes_of r)
  pub discounts : AreDiscounts r.players r.discounts
  pub unit : (pos 1 ≤ℤ r.unit) × (r.unit ≤ℤ pos (2 ^ 100))
  pub slack : (1 ≤ r.slack) × (r.slack ≤ 1000000000)
  pub sweeps : r.sweeps < 2 ^ 64
  pub levels : AreLevels (sizes_of r) r.levels
  pub verdict : KeepsVerdict (sizes_of r) r.levels r.verdict
  pub distinct : AreDistinct r.notes.list
  pub notes : KeepNotes (sizes_of r) r.levels r.notes.list
  pub no_sets : (r.inner ≡ None) × (r.numbers ≡ [])

-- ---- what a text tells of a report
-- the same fractions, one for each player
abbrev pub IsSamePoint : ℕ → Point → Point → Type 0
IsSamePoint players x y = (i : ℕ) → i < players → part x.num i *ℤ y.den ≡ part y.num i *ℤ x.den

pub record IsSameSupport (players : ℕ) (s t : Support) : Type 0 where
  pub row : s.row ≡ t.row
  pub profile : s.profile ≡ t.profile
  pub point : IsSamePoint players s.point t.point

abbrev pub AreSameSupports : ℕ → List Support → List Support → Type 0
AreSameSupports players [] [] = Unit {0}
AreSameSupports players [] (t ∷ ts) = ⊥
AreSameSupports players (s ∷ ss) [] = ⊥
AreSameSupports players (s ∷ ss) (t ∷ ts) = IsSameSupport players s t × AreSameSupports players ss ts

abbrev pub IsSameVerdict : ℕ → Verdict → Verdict → Type 0
IsSameVerdict players (Supported ss) (Supported ts) = AreSameSupports players ss ts
IsSameVerdict players (Unsupported row level reached) (Unsupported row' level' reached') = (row ≡ row') × (level ≡ level') × (reached ≡ reached')
IsSameVerdict players v w = ⊥

-- a note without its room for more
abbrev pub told : Note → ℕ × List Reason
told note = (note.state, note.reasons.list)

-- The reports differ at most in the room of notes and in how points are written.
pub record Agrees (a b : Report) : Type 0 where
  pub sizes : sizes_of a ≡ sizes_of b
  pub discounts : a.discounts ≡ b.discounts
  pub unit : a.unit ≡ b.unit
  pub slack : a.slack ≡ b.slack
  pub sweeps : a.sweeps ≡ b.sweeps
  pub levels : a.levels ≡ b.levels
  pub verdict : IsSameVerdict a.players a.verdict b.verdict
  pub notes : map told a.notes.list ≡ map told b.notes.list
  pub inner : a.inner ≡ b.inner
  pub numbers : a.numbers ≡ b.numbers

-- no report that keeps the rules has this text, and the place is the start of the first line that has no form
abbrev pub IsFaultOf : List ℕ → ReportFault → Type 0
IsFaultOf bytes (Bad at) = ((r : Report) → KeepsRules r → IsReportText r bytes → ⊥) × (at ≡ place_of bytes)
IsFaultOf bytes NoMemory = Unit {0}
