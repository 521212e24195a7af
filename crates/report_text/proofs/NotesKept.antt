-- Notes that are read one after another: those that are taken, and those that are left.
use Rattle.std.proofs.Common.{◌≡◌, ℕ, ◌+◌, ◌-◌, ◌<◌, ◌≤◌, List, [], ◌∷◌, ◌++◌, length, get_or, drop, refl, sym, ap, ◌∙◌, arith, append_assoc}
use Rattle.std.specs.Prelude.{codes, decimal, map}
use Rattle.std.proofs.lemmas.List.{append-nil, get_or-map, get_or_append_left, get_or_at, length-append, length-map, map_push}
use Rattle.level_table.specs.declared.reason.Note.{Note}
use Rattle.level_table.specs.declared.reason.Reason.{Reason}
use Rattle.level_table.specs.Levels.{Table}
use Rattle.level_table.specs.Notes.{AreDistinct, Named, no_note}
use Rattle.report_text.specs.declared.rules.Sizes.{Sizes}
use Rattle.report_text.specs.ReportText.{note_at}
use Rattle.report_text.specs.Reading.{EndsReasons, last_words, notes_words, whys_words}
use Rattle.report_text.specs.Rules.{KeepNotes, KeepReasons, KeepsNote, told}
use Rattle.report_text.proofs.Distinct.{notes_few}
use Rattle.report_text.proofs.Items.{firsts}

-- names that come behind reasons are no others
end_no_level : codes "end" ≡ codes "level" → ⊥
end_no_level w = let f = firsts 101 108 (codes "nd") (codes "evel") w in omega (arith, f)

end_no_gain : codes "end" ≡ codes "gain" → ⊥
end_no_gain w = let f = firsts 101 103 (codes "nd") (codes "ain") w in omega (arith, f)

end_no_why : codes "end" ≡ codes "why" → ⊥
end_no_why w = let f = firsts 101 119 (codes "nd") (codes "hy") w in omega (arith, f)

empty_no_level : codes "empty" ≡ codes "level" → ⊥
empty_no_level w = let f = firsts 101 108 (codes "mpty") (codes "evel") w in omega (arith, f)

empty_no_gain : codes "empty" ≡ codes "gain" → ⊥
empty_no_gain w = let f = firsts 101 103 (codes "mpty") (codes "ain") w in omega (arith, f)

empty_no_why : codes "empty" ≡ codes "why" → ⊥
empty_no_why w = let f = firsts 101 119 (codes "mpty") (codes "hy") w in omega (arith, f)

end_no_empty : codes "end" ≡ codes "empty" → ⊥
end_no_empty w = let f = ap (λ (bs : List ℕ). get_or bs 1 0) w in let g : 110 ≡ 109 = f in omega (arith, g)

reasons_end_before : (left : List Note) → EndsReasons (notes_words left ++ last_words)
reasons_end_before [] = record { no_why = end_no_why; no_item = record { no_level = end_no_level; no_gain = end_no_gain } }
reasons_end_before (x ∷ xs) = record { no_why = empty_no_why; no_item = record { no_level = empty_no_level; no_gain = empty_no_gain } }

-- The notes that are left, where these are taken: they tell the same as the first ones of the list.
pub record LeftNotes (z : Sizes) (t : Table) (list taken : List Note) (words : List (List ℕ)) : Type 0 where
  pub passed : List Note
  pub left : List Note
  pub together : passed ++ left ≡ list
  pub same : map told passed ≡ map told taken
  pub keep : KeepNotes z t left
  pub words_are : words ≡ notes_words left ++ last_words

pub notes_all_left : (z : Sizes) (t : Table) (list : List Note) (words : List (List ℕ)) → KeepNotes z t list → words ≡ notes_words list ++ last_words → LeftNotes z t list [] words
notes_all_left z t list words k e = record { passed = []; left = list; together = refl; same = refl; keep = k; words_are = e }

-- ---- the next note
-- the note that comes next, and the notes behind it
pub record NextNote (z : Sizes) (t : Table) (list taken : List Note) (words : List (List ℕ)) : Type 0 where
  pub passed : List Note
  pub note : Note
  pub behind : List Note
  pub together : passed ++ note ∷ behind ≡ list
  pub same : map told passed ≡ map told taken
  pub keeps : KeepsNote z t note
  pub keep : KeepNotes z t behind
  pub words_are : words ≡ codes "empty" ∷ decimal note.state ∷ (whys_words note.state 0 note.reasons.list ++ (notes_words behind ++ last_words))

next_of : (z : Sizes) (t : Table) (list taken passed left : List Note) (words : List (List ℕ)) → passed ++ left ≡ list → map told passed ≡ map told taken → KeepNotes z t left
    → words ≡ notes_words left ++ last_words → get_or words 0 [] ≡ codes "empty" → NextNote z t list taken words
next_of z t list taken passed [] words e s k w more = absurd (end_no_empty (sym (ap (λ (ws : List (List ℕ)). get_or ws 0 []) w) ∙ more))
next_of z t list taken passed (x ∷ xs) words e s k w more = record {
  passed = passed;
  note = x;
  behind = xs;
  together = e;
  same = s;
  keeps = k.0;
  keep = k.1;
  words_are = w ∙ ap (λ (ws : List (List ℕ)). codes "empty" ∷ decimal x.state ∷ ws) (append_assoc (whys_words x.state 0 x.reasons.list) (notes_words xs) last_words);
}

pub next_note : (z : Sizes) (t : Table) (list taken : List Note) (words : List (List ℕ)) → LeftNotes z t list taken words → get_or words 0 [] ≡ codes "empty" → NextNote z t list taken words
next_note z t list taken words h more = next_of z t list taken h.passed h.left words h.together h.same h.keep h.words_are more

told_lengths : (xs ys : List Note) → map told xs ≡ map told ys → length xs ≡ length ys
told_lengths xs ys e = sym (length-map xs told) ∙ ap length e ∙ length-map ys told

told_states : (xs ys : List Note) (l : ℕ) → l < length xs → l < length ys → map told xs ≡ map told ys → (note_at xs l).state ≡ (note_at ys l).state
told_states xs ys l p q e =
    let at : told (note_at xs l) ≡ told (note_at ys l) =
    sym (get_or-map told xs l no_note (told no_note) p) ∙ ap (λ (ts : List (ℕ × List Reason)). get_or ts l (told no_note)) e ∙ get_or-map told ys l no_note (told no_note) q in
    ap (λ (p : ℕ × List Reason). p.0) at

-- no note that is taken has the next note's state
pub next_is_new : (z : Sizes) (t : Table) (list taken : List Note) (words : List (List ℕ)) (h : NextNote z t list taken words) (state : ℕ) → AreDistinct list → state ≡ h.note.state → Named taken state → ⊥
next_is_new z t list taken words h state distinct e named =
    let n = length h.passed in
    let lengths : n ≡ length taken = told_lengths h.passed taken h.same in
    let l = named.0 in
    let within : l < length taken = named.1 in
    let before : l < n = omega arith in
    let size : length list ≡ n + length (h.note ∷ h.behind) = ap length (sym h.together) ∙ length-append h.passed (h.note ∷ h.behind) in
    let inside : n < length list = omega (arith, size) in
    let first : note_at list l ≡ note_at h.passed l = ap (λ (ns : List Note). note_at ns l) (sym h.together) ∙ get_or_append_left h.passed (h.note ∷ h.behind) no_note l before in
    let last : note_at list n ≡ h.note = ap (λ (ns : List Note). note_at ns n) (sym h.together) ∙ get_or_at h.passed h.note h.behind no_note n refl in
    distinct l n before inside
    (ap (λ (x : Note). x.state) first ∙ told_states h.passed taken l before within h.same ∙ named.2 ∙ e ∙ sym (ap (λ (x : Note). x.state) last))

-- what is read of its state
pub next_state : (z : Sizes) (t : Table) (list taken : List Note) (words after : List (List ℕ)) (state : ℕ) (h : NextNote z t list taken words) → after ≡ drop 1 words
    → ((n : ℕ) → get_or after 0 [] ≡ decimal n → 0 ≤ n → n ≤ z.states - 1 → state ≡ n) → state ≡ h.note.state
next_state z t list taken words after state h skipped read =
    read h.note.state (ap (λ (ws : List (List ℕ)). get_or ws 0 []) (skipped ∙ ap (drop 1) h.words_are)) (omega arith) (omega (arith, h.keeps.known))

-- what is read of a note's reasons
abbrev pub ReadsReasons : Sizes → List (List ℕ) → List Reason → List (List ℕ) → Type 0
ReadsReasons z words result behind =
    (s : ℕ) (list : List Reason) (rest : List (List ℕ)) → length list ≤ 4096 → KeepReasons z list → EndsReasons rest → words ≡ whys_words s 0 list ++ rest → (result ≡ list) × (behind ≡ rest)

pub note_taken : (z : Sizes) (t : Table) (list taken : List Note) (words after behind : List (List ℕ)) (note : Note) → (h : NextNote z t list taken words) → note.state ≡ h.note.state → after ≡ drop 2 words
    → ReadsReasons z after note.reasons.list behind → LeftNotes z t list (taken ++ note ∷ []) behind
note_taken z t list taken words after behind note h state skipped read =
    let r = read h.note.state h.note.reasons.list (notes_words h.behind ++ last_words) h.keeps.few h.keeps.reasons (reasons_end_before h.behind) (skipped ∙ ap (drop 2) h.words_are) in
    let same : told h.note ≡ told note = ap (λ (n : ℕ). (n, h.note.reasons.list)) (sym state) ∙ ap (λ (rs : List Reason). (note.state, rs)) (sym r.0) in
    record {
      passed = h.passed ++ h.note ∷ [];
      left = h.behind;
      together = append_assoc h.passed (h.note ∷ []) h.behind ∙ h.together;
      same =
          map_push told h.passed h.note
          ∙ ap (λ (ts : List (ℕ × List Reason)). ts ++ told h.note ∷ []) h.same
          ∙ ap (λ (x : ℕ × List Reason). map told taken ++ x ∷ []) same
          ∙ sym (map_push told taken note);
      keep = h.keep;
      words_are = r.1;
    }

-- ---- the end
nothing_left : (list taken passed left : List Note) (words : List (List ℕ)) → passed ++ left ≡ list → map told passed ≡ map told taken → words ≡ notes_words left ++ last_words
    → (get_or words 0 [] ≡ codes "empty" → ⊥) → map told list ≡ map told taken
nothing_left list taken passed [] words e s w other = ap (map told) (sym e ∙ append-nil passed) ∙ s
nothing_left list taken passed (x ∷ xs) words e s w other = absurd (other (ap (λ (ws : List (List ℕ)). get_or ws 0 []) w))

pub notes_end : (z : Sizes) (t : Table) (list taken : List Note) (words : List (List ℕ)) → LeftNotes z t list taken words → (get_or words 0 [] ≡ codes "empty" → ⊥) → map told list ≡ map told taken
notes_end z t list taken words h other = nothing_left list taken h.passed h.left words h.together h.same h.words_are other

all_taken : (list taken passed left : List Note) → passed ++ left ≡ list → map told passed ≡ map told taken → length list ≤ length taken → map told list ≡ map told taken
all_taken list taken passed [] e s l = ap (map told) (sym e ∙ append-nil passed) ∙ s
all_taken list taken passed (x ∷ xs) e s l = absurd (omega (arith, length-append passed (x ∷ xs), ap length e, told_lengths passed taken s))

-- where there is one of each state
pub notes_full : (z : Sizes) (t : Table) (list taken : List Note) (words : List (List ℕ)) → LeftNotes z t list taken words → AreDistinct list → KeepNotes z t list → z.states ≤ length taken → map told list ≡ map told taken
notes_full z t list taken words h distinct k l =
    let few : length list ≤ z.states = notes_few z t list distinct k in
    all_taken list taken h.passed h.left h.together h.same (omega arith)

pub keep_more_notes : (z : Sizes) (t : Table) (taken : List Note) (note : Note) → KeepNotes z t taken → KeepsNote z t note → KeepNotes z t (taken ++ note ∷ [])
keep_more_notes z t [] note h k = (k, tt)
keep_more_notes z t (x ∷ xs) note h k = (h.0, keep_more_notes z t xs note h.1 k)
