-- The words of the lines of supports and of notes.
use Rattle.std.proofs.Common.{◌≡◌, ℕ, zero, suc, ◌+◌, ◌/◌, ◌%◌, ◌<◌, ◌≤◌, ◌^◌, Bool, true, false, if◌then◌else◌, List, [], ◌∷◌, ◌++◌, length, take, refl, sym, ap, ◌∙◌, arith, append_assoc, ℤ, pos, negsuc, ◌≤ℤ◌}
use Rattle.std.specs.Prelude.{codes, decimal}
use Rattle.std.specs.Fmt.{signed_decimal}
use Rattle.std.specs.Ordering.{int_eq}
use Rattle.std.proofs.Math.Nat.{div-le_self, mod-le}
use Rattle.std.proofs.Math.Seq.{take-length}
use Rattle.std.proofs.lemmas.Int.{ints}
use Rattle.std.proofs.lemmas.List.{take_more, length-take-le}
use Rattle.game_model.specs.SelfGeneration.{part}
use Rattle.level_table.specs.declared.reason.Item.{Item}
use Rattle.level_table.specs.declared.reason.Item.TheVariants as items
use Rattle.level_table.specs.declared.reason.Reason.{Reason}
use Rattle.level_table.specs.declared.reason.Reason.TheVariants as reasons
use Rattle.level_table.specs.declared.reason.Note.{Note}
use Rattle.level_table.specs.Levels.{Table}
use Rattle.level_table.specs.Notes.{no_note}
use Rattle.level_table.specs.Reasons.{reason_at}
use Rattle.set_operator.specs.declared.row.Support.{Support}
use Rattle.report_lines.specs.Words.{words_of}
use Rattle.report_text.specs.declared.report.Report.{Report}
use Rattle.report_text.specs.declared.rules.Sizes.{Sizes}
use Rattle.report_text.specs.ReportText.{AreTexts, IsPointLine, item_words, items_words, line, note_at, note_text, reason_words, row_words, texts_below, why_line}
use Rattle.report_text.specs.Reading.{BeginWithSupports, notes_words, whys_words}
use Rattle.report_text.specs.Rules.{KeepItems, KeepNotes, KeepReasons, KeepsItem, KeepsNote, KeepsReason, sizes_of}
use Rattle.report_text.proofs.TextWords.{Clean, AreClean, clean_from, decimal_clean, signed_clean, fractions_clean, words_line, small_abs}

-- ---- supports
abbrev pub AreSmallSupports : List Support → Type 0
AreSmallSupports [] = Unit {0}
AreSmallSupports (s ∷ ss) = (s.row < 2 ^ 32) × (s.profile < 2 ^ 32) × AreSmallSupports ss

wide : (m n : ℕ) → m ≤ n → n < 2 ^ 32 → m < 10 ^ 64
wide m n h k = omega arith

pub place_clean : (row k : ℕ) → row < 2 ^ 32 → Clean (decimal (row / k)) × Clean (decimal (row % k))
place_clean row k h = (decimal_clean (row / k) (wide (row / k) row (div-le_self row k) h), decimal_clean (row % k) (wide (row % k) row (mod-le row k) h))

pub words_points : (r : Report) (ss : List Support) (x rest : List ℕ) → AreSmallSupports ss → AreTexts (IsPointLine r) ss x → BeginWithSupports (sizes_of r) ss (words_of (x ++ rest)) (words_of rest)
words_points r [] x rest small g = ap (λ (t : List ℕ). words_of (t ++ rest)) g
words_points r (s ∷ ss) x rest small g =
    let p = g.2 in
    let place = place_clean s.row r.directions small.0 in
    let profile : Clean (decimal s.profile) = decimal_clean s.profile (wide s.profile s.profile (omega arith) small.1) in (
      words_of (g.1 ++ rest),
      record {
        parts = p.parts;
        are_parts = p.are_parts;
        words_are =
            ap (λ (t : List ℕ). words_of (t ++ rest)) g.4
            ∙ ap words_of (append_assoc g.0 g.1 rest)
            ∙ ap (λ (t : List ℕ). words_of (t ++ (g.1 ++ rest))) p.line_is
            ∙ words_line (codes "point") (row_words r s.row ++ decimal s.profile ∷ p.parts) (g.1 ++ rest) (clean_from (codes "point") refl)
            (place.0, (place.1, (profile, fractions_clean r.players (part s.point.num) (λ i. s.point.den) p.parts p.are_parts)));
      },
      words_points r ss g.1 rest small.2 g.3,
    )

-- ---- notes
number_clean : (n bound : ℕ) → n < bound → bound ≤ 2 ^ 32 → Clean (decimal n)
number_clean n bound h k = decimal_clean n (omega arith)

times_clean : (times : ℤ) → pos 1 ≤ℤ times → times ≤ℤ pos (2 ^ 20) → Clean (signed_decimal times)
times_clean (pos n) h k = decimal_clean n (omega (arith, ints))
times_clean (negsuc n) h k = absurd (omega (arith, ints))

-- the sizes of a report are small
pub record AreSmallSizes (z : Sizes) : Type 0 where
  pub players : z.players ≤ 2 ^ 32
  pub states : z.states ≤ 2 ^ 32
  pub directions : z.directions ≤ 2 ^ 32

item_clean : (z : Sizes) (item : Item) → AreSmallSizes z → KeepsItem z item → AreClean (item_words item)
item_clean z (items.Level k x times) small h =
    let all : AreClean (codes "level" ∷ decimal k ∷ signed_decimal x ∷ signed_decimal times ∷ []) =
    (clean_from (codes "level") refl, (number_clean k z.directions h.0 small.directions, (signed_clean x (small_abs x h.1.0 h.1.1), (times_clean times h.2.0 h.2.1, tt)))) in
    let by : (b : Bool) → AreClean (if b then [] else (codes "level" ∷ decimal k ∷ signed_decimal x ∷ signed_decimal times ∷ [])) =
    λ b. elim b as (λ b. AreClean (if b then [] else (codes "level" ∷ decimal k ∷ signed_decimal x ∷ signed_decimal times ∷ []))) [ true ↦ tt | false ↦ all ] in
    by (int_eq times (pos 0))
item_clean z (items.Gain i b x times) small h =
    let all : AreClean (codes "gain" ∷ decimal i ∷ decimal b ∷ signed_decimal x ∷ signed_decimal times ∷ []) =
    (clean_from (codes "gain") refl, (number_clean i z.players h.0 small.players, (number_clean b 16 h.1 (omega arith), (signed_clean x (small_abs x h.2.0 h.2.1), (times_clean times h.3.0 h.3.1, tt))))) in
    let by : (t : Bool) → AreClean (if t then [] else (codes "gain" ∷ decimal i ∷ decimal b ∷ signed_decimal x ∷ signed_decimal times ∷ [])) =
    λ t. elim t as (λ t. AreClean (if t then [] else (codes "gain" ∷ decimal i ∷ decimal b ∷ signed_decimal x ∷ signed_decimal times ∷ []))) [ true ↦ tt | false ↦ all ] in
    by (int_eq times (pos 0))

are_clean_append : (vs ws : List (List ℕ)) → AreClean vs → AreClean ws → AreClean (vs ++ ws)
are_clean_append [] ws c d = d
are_clean_append (v ∷ vs) ws c d = (c.0, are_clean_append vs ws c.1 d)

items_clean : (z : Sizes) (list : List Item) → AreSmallSizes z → KeepItems z list → AreClean (items_words list)
items_clean z [] small h = tt
items_clean z (item ∷ rest) small h = are_clean_append (item_words item) (items_words rest) (item_clean z item small h.0) (items_clean z rest small h.1)

reason_clean : (z : Sizes) (reason : Reason) → AreSmallSizes z → KeepsReason z reason → AreClean (reason_words reason)
reason_clean z (reasons.Successor t) small h = (clean_from (codes "successor") refl, (number_clean t z.states h small.states, tt))
reason_clean z (reasons.Deviation i b t) small h =
    (clean_from (codes "deviation") refl, (number_clean i z.players h.0 small.players, (number_clean b 16 h.1 (omega arith), (number_clean t z.states h.2 small.states, tt))))
reason_clean z (reasons.Farkas list) small h = (clean_from (codes "farkas") refl, items_clean z list small h.2)

-- ---- the lines of reasons
whys_push : (s a : ℕ) (xs : List Reason) (x : Reason) (rest : List (List ℕ))
    → whys_words s a (xs ++ x ∷ []) ++ rest ≡ whys_words s a xs ++ (codes "why" ∷ decimal s ∷ decimal (a + length xs) ∷ (reason_words x ++ rest))
whys_push s a [] x rest =
    let e : a ≡ a + 0 = omega arith in
    ap (λ (t : List (List ℕ)). codes "why" ∷ decimal s ∷ decimal a ∷ t) (append_assoc (reason_words x) [] rest)
    ∙ ap (λ (m : ℕ). codes "why" ∷ decimal s ∷ decimal m ∷ (reason_words x ++ rest)) e
whys_push s a (y ∷ xs) x rest =
    let e : a + 1 + length xs ≡ a + length (y ∷ xs) = omega arith in
    ap (λ (t : List (List ℕ)). codes "why" ∷ decimal s ∷ decimal a ∷ t)
    (append_assoc (reason_words y) (whys_words s (a + 1) (xs ++ x ∷ [])) rest
    ∙ ap (λ (t : List (List ℕ)). reason_words y ++ t) (whys_push s (a + 1) xs x rest)
    ∙ sym (append_assoc (reason_words y) (whys_words s (a + 1) xs) (codes "why" ∷ decimal s ∷ decimal (a + 1 + length xs) ∷ (reason_words x ++ rest))))
    ∙ ap (λ (m : ℕ). whys_words s a (y ∷ xs) ++ (codes "why" ∷ decimal s ∷ decimal m ∷ (reason_words x ++ rest))) e

keeps_at : (z : Sizes) (list : List Reason) (a : ℕ) → a < length list → KeepReasons z list → KeepsReason z (reason_at list a)
keeps_at z [] a l h = absurd (omega arith)
keeps_at z (x ∷ list) zero l h = h.0
keeps_at z (x ∷ list) (suc a) l h = keeps_at z list a (omega arith) h.1

-- the words of the reasons below n, and those behind them
pub words_whys : (z : Sizes) (s n : ℕ) (list : List Reason) (rest : List ℕ) → AreSmallSizes z → s < 2 ^ 32 → n < 2 ^ 32 → n ≤ length list → KeepReasons z list
    → words_of (texts_below (why_line s list) n ++ rest) ≡ whys_words s 0 (take n list) ++ words_of rest
words_whys z s zero list rest small f g l h = refl
words_whys z s (suc n) list rest small f g l h =
    let l' : n < length list = omega arith in
    let lengths : length (take n list) ≡ n = length-take-le n list (omega arith) in
    let behind : n ≡ 0 + length (take n list) = omega arith in
    let more : take (n + 1) list ≡ take n list ++ reason_at list n ∷ [] = take_more list n (reasons.Successor 0) l' in
    let again : n + 1 ≡ suc n = omega arith in
    ap words_of (append_assoc (texts_below (why_line s list) n) (why_line s list n) rest)
    ∙ words_whys z s n list (why_line s list n ++ rest) small f (omega arith) (omega arith) h
    ∙ ap (λ (t : List (List ℕ)). whys_words s 0 (take n list) ++ t)
    (words_line (codes "why") (decimal s ∷ decimal n ∷ reason_words (reason_at list n)) rest (clean_from (codes "why") refl)
    (decimal_clean s (wide s s (omega arith) f), (decimal_clean n (wide n n (omega arith) (omega arith)), reason_clean z (reason_at list n) small (keeps_at z list n l' h))))
    ∙ ap (λ (m : ℕ). whys_words s 0 (take n list) ++ (codes "why" ∷ decimal s ∷ decimal m ∷ (reason_words (reason_at list n) ++ words_of rest))) behind
    ∙ sym (whys_push s 0 (take n list) (reason_at list n) (words_of rest))
    ∙ ap (λ (t : List Reason). whys_words s 0 t ++ words_of rest) (sym more ∙ ap (λ (m : ℕ). take m list) again)

words_note : (z : Sizes) (s : ℕ) (list : List Reason) (rest : List ℕ) → AreSmallSizes z → s < 2 ^ 32 → length list < 2 ^ 32 → KeepReasons z list
    → words_of ((line (codes "empty") (decimal s ∷ []) ++ texts_below (why_line s list) (length list)) ++ rest) ≡ codes "empty" ∷ decimal s ∷ (whys_words s 0 list ++ words_of rest)
words_note z s list rest small f g h =
    ap words_of (append_assoc (line (codes "empty") (decimal s ∷ [])) (texts_below (why_line s list) (length list)) rest)
    ∙ words_line (codes "empty") (decimal s ∷ []) (texts_below (why_line s list) (length list) ++ rest) (clean_from (codes "empty") refl) (decimal_clean s (wide s s (omega arith) f), tt)
    ∙ ap (λ (t : List (List ℕ)). codes "empty" ∷ decimal s ∷ t)
    (words_whys z s (length list) list rest small f g (omega arith) h ∙ ap (λ (xs : List Reason). whys_words s 0 xs ++ words_of rest) (take-length list))

notes_push : (xs : List Note) (x : Note) (rest : List (List ℕ)) → notes_words (xs ++ x ∷ []) ++ rest ≡ notes_words xs ++ (codes "empty" ∷ decimal x.state ∷ (whys_words x.state 0 x.reasons.list ++ rest))
notes_push [] x rest = ap (λ (t : List (List ℕ)). codes "empty" ∷ decimal x.state ∷ t) (append_assoc (whys_words x.state 0 x.reasons.list) [] rest)
notes_push (y ∷ xs) x rest =
    ap (λ (t : List (List ℕ)). codes "empty" ∷ decimal y.state ∷ t)
    (append_assoc (whys_words y.state 0 y.reasons.list) (notes_words (xs ++ x ∷ [])) rest
    ∙ ap (λ (t : List (List ℕ)). whys_words y.state 0 y.reasons.list ++ t) (notes_push xs x rest)
    ∙ sym (append_assoc (whys_words y.state 0 y.reasons.list) (notes_words xs) (codes "empty" ∷ decimal x.state ∷ (whys_words x.state 0 x.reasons.list ++ rest))))

pub note_keeps : (z : Sizes) (t : Table) (notes : List Note) (l : ℕ) → l < length notes → KeepNotes z t notes → KeepsNote z t (note_at notes l)
note_keeps z t [] l p h = absurd (omega arith)
note_keeps z t (x ∷ notes) zero p h = h.0
note_keeps z t (x ∷ notes) (suc l) p h = note_keeps z t notes l (omega arith) h.1

-- the words of the notes below n, and those behind them
pub words_notes : (z : Sizes) (t : Table) (n : ℕ) (notes : List Note) (rest : List ℕ) → AreSmallSizes z → n ≤ length notes → KeepNotes z t notes
    → words_of (texts_below (note_text notes) n ++ rest) ≡ notes_words (take n notes) ++ words_of rest
words_notes z t zero notes rest small l h = refl
words_notes z t (suc n) notes rest small l h =
    let l' : n < length notes = omega arith in
    let note = note_at notes n in
    let k = note_keeps z t notes n l' h in
    let state : note.state < 2 ^ 32 = omega (arith, k.known, small.states) in
    let few : length note.reasons.list < 2 ^ 32 = omega (arith, k.few) in
    let more : take (n + 1) notes ≡ take n notes ++ note ∷ [] = take_more notes n no_note l' in
    let again : n + 1 ≡ suc n = omega arith in
    ap words_of (append_assoc (texts_below (note_text notes) n) (note_text notes n) rest)
    ∙ words_notes z t n notes (note_text notes n ++ rest) small (omega arith) h
    ∙ ap (λ (w : List (List ℕ)). notes_words (take n notes) ++ w) (words_note z note.state note.reasons.list rest small state few k.reasons)
    ∙ sym (notes_push (take n notes) note (words_of rest))
    ∙ ap (λ (w : List Note). notes_words w ++ words_of rest) (sym more ∙ ap (λ (m : ℕ). take m notes) again)
