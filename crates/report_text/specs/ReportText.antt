-- The text of a report: lines of words with one blank between them, each ended by a line feed.
use Rattle.std.specs.Prelude.{◌≡◌, ◌⊎◌, ℕ, zero, suc, ◌*◌, ◌/◌, ◌%◌, ◌^◌, ◌<◌, ◌≤◌, ◌++◌, List, [], ◌∷◌, length, map, slice_index, slice_index_or, All, codes, decimal, Option, Some, None, if◌then◌else◌, ℤ, pos, ◌<ℤ◌}
use Rattle.std.specs.Fmt.{signed_decimal}
use Rattle.std.specs.Ordering.{int_eq}
use Rattle.std.specs.Int.RustNames.{unsigned_abs}
use Rattle.pay_frac.specs.Ratio.{Ratio, IsLowest, Equals}
use Rattle.level_table.specs.declared.level.Level.{Level}
use Rattle.level_table.specs.declared.level.Level.TheVariants.{Empty, At}
use Rattle.level_table.specs.declared.reason.Item.{Item}
use Rattle.level_table.specs.declared.reason.Item.TheVariants as items
use Rattle.level_table.specs.declared.reason.Reason.{Reason}
use Rattle.level_table.specs.declared.reason.Reason.TheVariants as reasons
use Rattle.level_table.specs.declared.reason.Note.{Note}
use Rattle.level_table.specs.Levels.{level_at}
use Rattle.level_table.specs.Notes.{no_note}
use Rattle.game_model.specs.SelfGeneration.{Entry, no_entry, part}
use Rattle.selfgen_check.specs.Promises.{Promises}
use Rattle.level_table.specs.Reasons.{reason_at}
use Rattle.set_operator.specs.declared.row.Support.{Support}
use Rattle.set_operator.specs.declared.row.Verdict.{Verdict}
use Rattle.set_operator.specs.declared.row.Verdict.TheVariants.{Supported, Unsupported}
use Rattle.report_lines.specs.Spelled.{ratio_word}
use Rattle.report_text.specs.declared.report.Report.{Report}

-- a blank before each word
abbrev pub blanked : List (List ℕ) → List ℕ
blanked [] = []
blanked (w ∷ ws) = 32 ∷ (w ++ blanked ws)

-- a line: its name, and the words behind it
abbrev pub line : List ℕ → List (List ℕ) → List ℕ
line name words = name ++ blanked words ++ 10 ∷ []

-- the texts f 0, .., f (n - 1), one after another
abbrev pub texts_below : (ℕ → List ℕ) → ℕ → List ℕ
texts_below f zero = []
texts_below f (suc n) = texts_below f n ++ f n

-- one text for each number below n, one after another
abbrev pub AreTextsBelow : (ℕ → List ℕ → Type 0) → ℕ → List ℕ → Type 0
AreTextsBelow P zero text = text ≡ []
AreTextsBelow P (suc n) text = (before last : List ℕ) × AreTextsBelow P n before × P n last × (text ≡ before ++ last)

-- one text for each item, in the order of the items
abbrev pub AreTexts : {X : Type 0} → (X → List ℕ → Type 0) → List X → List ℕ → Type 0
AreTexts P [] text = text ≡ []
AreTexts P (x ∷ xs) text = (first rest : List ℕ) × P x first × AreTexts P xs rest × (text ≡ first ++ rest)

-- ---- fractions
-- the word of num/den, which is that of the equal fraction in lowest terms
pub record IsFractionWord (num den : ℤ) (w : List ℕ) : Type 0 where
  pub ratio : Ratio
  pub lowest : IsLowest ratio
  pub equal : Equals ratio num den
  pub spelled : w ≡ ratio_word ratio

abbrev pub word_at : List (List ℕ) → ℕ → List ℕ
word_at words i = slice_index_or words i []

-- words of fractions, one for each number below the count
pub record AreFractionWords (count : ℕ) (num den : ℕ → ℤ) (words : List (List ℕ)) : Type 0 where
  pub one_each : length words ≡ count
  pub each : (i : ℕ) → i < count → IsFractionWord (num i) (den i) (word_at words i)

-- ---- the head
abbrev pub discount_at : List (ℕ × ℕ) → ℕ → ℕ × ℕ
discount_at ds i = slice_index_or ds i (0, 1)

-- Each discount is the same number as the first.
abbrev pub AreEqual : List (ℕ × ℕ) → Type 0
AreEqual ds = (i : ℕ) → i < length ds → (discount_at ds i).0 * (discount_at ds 0).1 ≡ (discount_at ds 0).0 * (discount_at ds i).1

-- one word where all discounts are equal, and else one for each player
pub record AreDiscountWords (ds : List (ℕ × ℕ)) (words : List (List ℕ)) : Type 0 where
  pub shown : (AreEqual ds × (length words ≡ 1)) ⊎ ((AreEqual ds → ⊥) × (length words ≡ length ds))
  pub fractions : AreFractionWords (length words) (λ i. pos (discount_at ds i).0) (λ i. pos (discount_at ds i).1) words

abbrev pub status_word : Verdict → List ℕ
status_word (Supported supports) = codes "settled"
status_word (Unsupported row level reached) = codes "spent"

abbrev pub rows_of : Report → ℕ
rows_of r = r.states * r.directions

pub record IsHead (r : Report) (text : List ℕ) : Type 0 where
  pub discounts : List (List ℕ)
  pub are_discounts : AreDiscountWords r.discounts discounts
  pub lines : text ≡
      line (codes "payoff") (codes "1" ∷ [])
      ++ line (codes "status") (status_word r.verdict ∷ [])
      ++ line (codes "players") (decimal r.players ∷ [])
      ++ line (codes "states") (decimal r.states ∷ [])
      ++ line (codes "directions") (decimal r.directions ∷ [])
      ++ line (codes "discount") discounts
      ++ line (codes "unit") (signed_decimal r.unit ∷ [])
      ++ line (codes "slack") (decimal r.slack ∷ [])
      ++ line (codes "sweeps") (decimal r.sweeps ∷ [])
      ++ line (codes "solves") (decimal (r.sweeps * rows_of r) ∷ [])

-- ---- rows
abbrev pub level_word : Level → List ℕ
level_word Empty = codes "empty"
level_word (At x) = signed_decimal x

-- the state and the direction of a row
abbrev pub row_words : Report → ℕ → List (List ℕ)
row_words r row = decimal (row / r.directions) ∷ decimal (row % r.directions) ∷ []

abbrev pub row_line : Report → ℕ → List ℕ
row_line r row = line (codes "row") (row_words r row ++ level_word (level_at r.levels row) ∷ [])

-- ---- the verdict
-- the profile and the parts of the point that support a row
pub record IsPointLine (r : Report) (support : Support) (text : List ℕ) : Type 0 where
  pub parts : List (List ℕ)
  pub are_parts : AreFractionWords r.players (part support.point.num) (λ i. support.point.den) parts
  pub line_is : text ≡ line (codes "point") (row_words r support.row ++ decimal support.profile ∷ parts)

abbrev pub reached_word : Option Ratio → List ℕ
reached_word None = codes "none"
reached_word (Some r) = ratio_word r

abbrev pub IsVerdictText : Report → Verdict → List ℕ → Type 0
IsVerdictText r (Supported supports) text = AreTexts (IsPointLine r) supports text
IsVerdictText r (Unsupported row level reached) text =
    text ≡ line (codes "stop") (row_words r row ++ signed_decimal level ∷ reached_word reached ∷ [])

-- ---- the notes
-- a row of a certificate, with its level and its multiplier; one with multiplier 0 isn't written
abbrev pub item_words : Item → List (List ℕ)
item_words (items.Level k x times) =
    if int_eq times (pos 0) then [] else (codes "level" ∷ decimal k ∷ signed_decimal x ∷ signed_decimal times ∷ [])
item_words (items.Gain i b x times) =
    if int_eq times (pos 0) then [] else (codes "gain" ∷ decimal i ∷ decimal b ∷ signed_decimal x ∷ signed_decimal times ∷ [])

abbrev pub items_words : List Item → List (List ℕ)
items_words [] = []
items_words (item ∷ rest) = item_words item ++ items_words rest

abbrev pub reason_words : Reason → List (List ℕ)
reason_words (reasons.Successor t) = codes "successor" ∷ decimal t ∷ []
reason_words (reasons.Deviation i b t) = codes "deviation" ∷ decimal i ∷ decimal b ∷ decimal t ∷ []
reason_words (reasons.Farkas list) = codes "farkas" ∷ items_words list

abbrev pub note_at : List Note → ℕ → Note
note_at notes l = slice_index_or notes l no_note

-- why nothing is admissible after profile a of state s
abbrev pub why_line : ℕ → List Reason → ℕ → List ℕ
why_line s list a = line (codes "why") (decimal s ∷ decimal a ∷ reason_words (reason_at list a))

-- the state, and one line for each of its profiles
abbrev pub note_text : List Note → ℕ → List ℕ
note_text notes l =
    line (codes "empty") (decimal (note_at notes l).state ∷ [])
    ++ texts_below (why_line (note_at notes l).state (note_at notes l).reasons.list) (length (note_at notes l).reasons.list)

abbrev pub notes_text : List Note → List ℕ
notes_text notes = texts_below (note_text notes) (length notes)

-- ---- the inner sets
-- an entry of the state that follows, and its weight
abbrev pub outcome_word : ℕ × ℕ → List ℕ
outcome_word o = decimal o.0 ++ 58 ∷ decimal o.1

-- the profile that is played, the outcomes that follow, and the entries that punish
abbrev pub promise_words : ℕ → Entry → List (List ℕ)
promise_words profile e =
    codes "profile" ∷ decimal profile ∷ codes "lottery" ∷ (map outcome_word e.lottery ++ codes "punish" ∷ map decimal e.punish)

abbrev pub set_at : Promises → ℕ → List Entry
set_at c s = slice_index_or c.entries s []

abbrev pub member : Promises → ℕ → ℕ → Entry
member c s j = slice_index_or (set_at c s) j no_entry

abbrev pub numbers_at : Report → ℕ → List ℕ
numbers_at r s = slice_index_or r.numbers s []

-- the point in the game's units, and the promise
pub record IsEntryLine (r : Report) (c : Promises) (s j : ℕ) (text : List ℕ) : Type 0 where
  pub parts : List (List ℕ)
  pub are_parts : AreFractionWords r.players (part (member c s j).point) (λ i. pos c.common) parts
  pub line_is : text ≡ line (codes "entry") (decimal s ∷ decimal j ∷ (parts ++ promise_words (slice_index (numbers_at r s) j) (member c s j)))

-- the state with the number of its entries, and one line for each
pub record IsSetText (r : Report) (c : Promises) (s : ℕ) (text : List ℕ) : Type 0 where
  pub entries : List ℕ
  pub are_entries : AreTextsBelow (IsEntryLine r c s) (length (set_at c s)) entries
  pub text_is : text ≡ line (codes "set") (decimal s ∷ decimal (length (set_at c s)) ∷ []) ++ entries

-- one set for each state, where there are sets
abbrev pub AreSetTexts : Report → Option Promises → List ℕ → Type 0
AreSetTexts r None text = text ≡ []
AreSetTexts r (Some c) text = AreTextsBelow (IsSetText r c) r.states text

-- The text of the report: the head, one line for each row, the verdict, the notes, the inner sets, and the end.
pub record IsReportText (r : Report) (text : List ℕ) : Type 0 where
  pub head : List ℕ
  pub verdict : List ℕ
  pub sets : List ℕ
  pub is_head : IsHead r head
  pub is_verdict : IsVerdictText r r.verdict verdict
  pub are_sets : AreSetTexts r r.inner sets
  pub parts : text ≡
      head
      ++ texts_below (row_line r) (rows_of r)
      ++ verdict
      ++ notes_text r.notes.list
      ++ sets
      ++ line (codes "end") []

-- ---- what can be printed
pub record IsFraction (num : List ℤ) (den : ℤ) : Type 0 where
  pub positive : pos 0 <ℤ den
  pub not_least : All (λ n. unsigned_abs n < 2 ^ 127) num

-- Each row is a row of the report, and each denominator is positive.
abbrev pub IsPrintableVerdict : Report → Verdict → Type 0
IsPrintableVerdict r (Supported supports) = All (λ s. (s.row < rows_of r) × IsFraction s.point.num s.point.den) supports
IsPrintableVerdict r (Unsupported row level reached) = row < rows_of r

-- Each state has a list of entries with one part for each player, and for each entry the number of its profile.
pub record IsNumbered (r : Report) (c : Promises) : Type 0 where
  pub positive : 0 < c.common
  pub one_list_each : length c.entries ≡ r.states
  pub one_number_each : (s : ℕ) → s < r.states → length (numbers_at r s) ≡ length (set_at c s)
  pub one_part_each : (s j : ℕ) → s < r.states → j < length (set_at c s) → length (member c s j).point ≡ r.players

abbrev pub IsPrintableSet : Report → Option Promises → Type 0
IsPrintableSet r None = r.numbers ≡ []
IsPrintableSet r (Some c) = (length r.numbers ≡ r.states) × IsNumbered r c

pub record IsPrintable (r : Report) : Type 0 where
  pub some_player : 1 ≤ r.players
  pub few_players : r.players ≤ 3
  pub one_each : length r.discounts ≡ r.players
  pub positive : All (λ d. 0 < d.1) r.discounts
  pub states : r.levels.states ≡ r.states
  pub directions : r.levels.directions ≡ r.directions
  pub verdict : IsPrintableVerdict r r.verdict
  pub sets : IsPrintableSet r r.inner
