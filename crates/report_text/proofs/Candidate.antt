-- What is read of a whole report.
use Rattle.std.proofs.Common.{◌≡◌, ℕ, ◌+◌, ◌*◌, ◌<◌, ◌≤◌, Bool, List, [], ◌∷◌, ◌++◌, length, sym, ap, subst, ◌∙◌, arith, ℤ}
use Rattle.std.specs.Prelude.{◌↔◌, All, IsTrue, None, codes, map}
use Rattle.std.proofs.lemmas.List.Elements.{All-cons, All-nil, All-weaker}
use Rattle.level_table.specs.declared.level.Level.{Level}
use Rattle.level_table.specs.declared.level.Level.TheVariants.{Empty, At}
use Rattle.level_table.specs.declared.reason.Note.{Note}
use Rattle.level_table.specs.Levels.{Table, IsSmall}
use Rattle.level_table.specs.Notes.{AreDistinct, NoteList}
use Rattle.set_operator.specs.declared.row.Support.{Support}
use Rattle.set_operator.specs.declared.row.Verdict.{Verdict}
use Rattle.set_operator.specs.declared.row.Verdict.TheVariants.{Supported, Unsupported}
use Rattle.report_text.specs.declared.nearest.Head.{Head}
use Rattle.report_text.specs.declared.report.Report.{Report}
use Rattle.report_text.specs.declared.rules.Sizes.{Sizes}
use Rattle.report_text.specs.ReportText.{IsPrintableVerdict, rows_of, status_word}
use Rattle.report_text.specs.Reading.{BeginsWithHead, BeginsWithVerdict, HasFractions, IsHeadOf, last_words, levels_words, notes_words}
use Rattle.report_text.specs.Rules.{Agrees, AreDiscounts, AreLevels, AreSupports, IsDiscount, IsSameVerdict, KeepNotes, KeepsRules, KeepsVerdict, sizes_of, told}
use Rattle.report_text.proofs.Whole.{AreWords}

pub printable_from : (players : ℕ) (ds : List (ℕ × ℕ)) → AreDiscounts players ds → All (λ (d : ℕ × ℕ). 0 < d.1) ds
printable_from players ds h =
    All-weaker IsDiscount (λ (d : ℕ × ℕ). 0 < d.1) (λ d k. let q : d.0 < d.1 = k.below_one in omega arith) ds h.each

-- each support is of a row
rows_known : (players row bound : ℕ) (ls : List Level) (ss : List Support) → row + length ls ≤ bound → AreSupports players row ls ss → All (λ (s : Support). s.row < bound) ss
rows_known players row bound [] [] l h = All-nil (λ (s : Support). s.row < bound)
rows_known players row bound [] (s ∷ ss) l h = absurd h
rows_known players row bound (Empty ∷ ls) ss l h = rows_known players (row + 1) bound ls ss (omega arith) h
rows_known players row bound (At x ∷ ls) [] l h = All-nil (λ (s : Support). s.row < bound)
rows_known players row bound (At x ∷ ls) (s ∷ ss) l h =
    All-cons (λ (s : Support). s.row < bound) s ss (omega (arith, h.0.row_is)) (rows_known players (row + 1) bound ls ss (omega arith) h.1)

pub verdict_printable : (r : Report) (v : Verdict) → AreLevels (sizes_of r) r.levels → KeepsVerdict (sizes_of r) r.levels v → HasFractions v → IsPrintableVerdict r v
verdict_printable r (Supported ss) l k h = λ i d p. (rows_known r.players 0 (rows_of r) r.levels.levels ss (omega (arith, l.one_each)) k i d p, h i d p)
verdict_printable r (Unsupported row level reached) l k h =
    subst (λ n. row < n * r.directions) l.states (subst (λ n. row < r.levels.states * n) l.directions k.known)

-- ---- what is read
table_same : (s t : Table) → s.states ≡ t.states → s.directions ≡ t.directions → s.levels ≡ t.levels → s ≡ t
table_same s t e f g =
    let make : ℕ → ℕ → List Level → Table = λ a b ls. record { states = a; directions = b; levels = ls } in
    ap (λ (n : ℕ). make n s.directions s.levels) e ∙ ap (λ (n : ℕ). make t.states n s.levels) f ∙ ap (λ (ls : List Level). make t.states t.directions ls) g

-- what is read of the head, of the levels, of the verdict and of the notes
abbrev pub ReadsHead : List (List ℕ) → Head → List (List ℕ) → Type 0
ReadsHead words h behind = (r : Report) (rest : List (List ℕ)) → KeepsRules r → BeginsWithHead r words rest → IsHeadOf r h × (behind ≡ rest)

abbrev pub ReadsLevels : Sizes → List (List ℕ) → Table → List (List ℕ) → Type 0
ReadsLevels z words t behind =
    (ls : List Level) (rest : List (List ℕ)) → length ls ≡ z.states * z.directions → All IsSmall ls → words ≡ levels_words z.directions 0 ls ++ rest → (t.levels ≡ ls) × (behind ≡ rest)

abbrev pub ReadsVerdict : Sizes → Bool → Table → List (List ℕ) → Verdict → List (List ℕ) → Type 0
ReadsVerdict z settled t words result behind =
    (v : Verdict) (rest : List (List ℕ)) → KeepsVerdict z t v → (IsTrue settled ↔ (status_word v ≡ codes "settled")) → BeginsWithVerdict z v words rest → IsSameVerdict z.players v result × (behind ≡ rest)

abbrev pub ReadsNotes : Sizes → Table → List (List ℕ) → NoteList → Type 0
ReadsNotes z t words n = (list : List Note) → AreDistinct list → KeepNotes z t list → words ≡ notes_words list ++ last_words → map told list ≡ map told n.list

pub agrees_from : (a : Report) (words : List (List ℕ)) (w : AreWords a words) (k : KeepsRules a) (h : Head) (t : Table) (v : Verdict) (n : NoteList) (numbers : List (List ℕ)) (unit : ℤ) (words' words'' words''' : List (List ℕ))
    → ReadsHead words h words' → AreLevels h.sizes t → ReadsLevels h.sizes words' t words'' → ReadsVerdict h.sizes h.settled t words'' v words''' → ReadsNotes h.sizes t words''' n → unit ≡ h.unit → numbers ≡ []
    → Agrees a (record { players = h.sizes.players; states = h.sizes.states; directions = h.sizes.directions; discounts = h.discounts; unit = unit; slack = h.slack; sweeps = h.sweeps; levels = t; verdict = v; notes = n; inner = None; numbers = numbers })
agrees_from a words w k h t v n numbers unit words' words'' words''' read_head keeps read_levels read_verdict read_notes e none =
    let head = read_head a w.behind_head k w.head in
    let is = head.0 in
    let z : h.sizes ≡ sizes_of a = is.sizes in
    let back : sizes_of a ≡ h.sizes = sym z in
    let levels = read_levels a.levels.levels w.behind_levels
    (k.levels.one_each ∙ ap (λ (z : Sizes). z.states * z.directions) back)
    k.levels.small
    (head.1 ∙ w.levels ∙ ap (λ (z : Sizes). levels_words z.directions 0 a.levels.levels ++ w.behind_levels) back) in
    let table : a.levels ≡ t = table_same a.levels t
    (k.levels.states ∙ ap (λ (z : Sizes). z.states) back ∙ sym keeps.states)
    (k.levels.directions ∙ ap (λ (z : Sizes). z.directions) back ∙ sym keeps.directions)
    (sym levels.0) in
    let verdict = read_verdict a.verdict w.behind_verdict
    (subst (λ (t : Table). KeepsVerdict h.sizes t a.verdict) table (subst (λ (z : Sizes). KeepsVerdict z a.levels a.verdict) back k.verdict))
    is.settled
    (subst (λ (ws : List (List ℕ)). BeginsWithVerdict h.sizes a.verdict ws w.behind_verdict) (sym levels.1) (subst (λ (z : Sizes). BeginsWithVerdict z a.verdict w.behind_levels w.behind_verdict) back w.verdict)) in
    let notes = read_notes a.notes.list k.distinct
    (subst (λ (t : Table). KeepNotes h.sizes t a.notes.list) table (subst (λ (z : Sizes). KeepNotes z a.levels a.notes.list) back k.notes))
    (verdict.1 ∙ w.notes) in
    record {
      sizes = back;
      inner = k.no_sets.0;
      numbers = k.no_sets.1 ∙ sym none;
      discounts = sym is.discounts;
      unit = sym (e ∙ is.unit);
      slack = sym is.slack;
      sweeps = sym is.sweeps;
      levels = table;
      verdict = subst (λ (z : Sizes). IsSameVerdict z.players a.verdict v) z verdict.0;
      notes = notes;
    }
