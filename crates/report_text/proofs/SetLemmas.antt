-- The lines of the inner sets, a piece at a time.
use Rattle.std.proofs.Common.{◌≡◌, ℕ, suc, ◌+◌, ◌<◌, ◌++◌, List, [], ◌∷◌, length, get_or, take, map, refl, sym, ap, subst, ◌∙◌, append_assoc, arith, unsigned_abs, ℤ, pos, Option, None}
use Rattle.std.proofs.lemmas.List.{append-nil, take_more, map-append}
use Rattle.std.specs.Prelude.{codes, decimal, slice_index}
use Rattle.game_model.specs.SelfGeneration.{Entry, part}
use Rattle.selfgen_check.specs.Promises.{Promises}
use Rattle.report_text.specs.declared.report.Report.{Report}
use Rattle.report_text.specs.ReportText.{blanked, line, outcome_word, promise_words, set_at, member, numbers_at, AreFractionWords, AreTextsBelow, AreSetTexts, IsEntryLine, IsReportText, IsSetText, notes_text, row_line, rows_of, texts_below}
use Rattle.report_text.proofs.ReportLemmas.{blanked-append, blanked_push, line_from_words}

-- words so far, and one more
pub mapped_more : {X : Type 0} (f : X → List ℕ) (xs : List X) (i : ℕ) (x : X) (old now new : List ℕ) → i < length xs → x ≡ get_or xs i x
    → now ≡ old ++ blanked (map f (take i xs)) → new ≡ now ++ 32 ∷ f x → new ≡ old ++ blanked (map f (take (i + 1) xs))
mapped_more f xs i x old now new l e h k =
    let step : map f (take (i + 1) xs) ≡ map f (take i xs) ++ f x ∷ [] =
    ap (map f) (take_more xs i x l ∙ ap (λ y. take i xs ++ y ∷ []) (sym e)) ∙ map-append f (take i xs) (x ∷ []) in
    k ∙ ap (λ t. t ++ 32 ∷ f x) h ∙ append_assoc old (blanked (map f (take i xs))) (32 ∷ f x)
    ∙ ap (λ t. old ++ t) (sym (blanked_push (map f (take i xs)) (f x)) ∙ ap blanked (sym step))

-- texts so far, and one more
pub texts_below_more : (P : ℕ → List ℕ → Type 0) (i : ℕ) (old now new : List ℕ)
    → (text : List ℕ) × (AreTextsBelow P i text × (now ≡ old ++ text))
    → (text : List ℕ) × (P i text × (new ≡ now ++ text))
    → (text : List ℕ) × (AreTextsBelow P (i + 1) text × (new ≡ old ++ text))
texts_below_more P i old now new h k =
    let here : AreTextsBelow P (suc i) (h.0 ++ k.0) = (h.0, k.0, h.1.0, k.1.0, refl) in
    let next : suc i ≡ i + 1 = omega arith in
    (h.0 ++ k.0, (subst (λ n. AreTextsBelow P n (h.0 ++ k.0)) next here, k.1.1 ∙ ap (λ t. t ++ k.0) h.1.1 ∙ append_assoc old h.0 k.0))

-- the word of an outcome whose parts are read in another way
pub outcome_read : (o : ℕ × ℕ) (entry : ℕ) (weight : ℤ) (old new : List ℕ) → entry ≡ o.0 → weight ≡ pos o.1 → new ≡ old ++ 32 ∷ outcome_word (entry, unsigned_abs weight) → new ≡ old ++ 32 ∷ outcome_word o
outcome_read o entry weight old new p q h = h ∙ ap (λ k. old ++ 32 ∷ outcome_word (k, unsigned_abs weight)) p ∙ ap (λ z. old ++ 32 ∷ outcome_word (o.0, unsigned_abs z)) q

assoc_six : (o a p b ls c ps : List ℕ) → o ++ a ++ p ++ b ++ ls ++ c ++ ps ≡ o ++ (a ++ (p ++ (b ++ (ls ++ (c ++ ps)))))
assoc_six o a p b ls c ps = simp append_assoc

joined_six : (o x1 x2 x3 x4 x5 x6 a p b ls c ps : List ℕ) → x1 ≡ o ++ a → x2 ≡ x1 ++ p → x3 ≡ x2 ++ b → x4 ≡ x3 ++ ls → x5 ≡ x4 ++ c → x6 ≡ x5 ++ ps
    → x6 ≡ o ++ a ++ p ++ b ++ ls ++ c ++ ps
joined_six o x1 x2 x3 x4 x5 x6 a p b ls c ps e1 e2 e3 e4 e5 e6 = cc

pub promise_from_words : (profile : ℕ) (e : Entry) (o x1 x2 x3 x4 x5 x6 : List ℕ)
    → x1 ≡ o ++ 32 ∷ codes "profile"
    → x2 ≡ x1 ++ 32 ∷ decimal profile
    → x3 ≡ x2 ++ 32 ∷ codes "lottery"
    → x4 ≡ x3 ++ blanked (map outcome_word e.lottery)
    → x5 ≡ x4 ++ 32 ∷ codes "punish"
    → x6 ≡ x5 ++ blanked (map decimal e.punish)
    → x6 ≡ o ++ blanked (promise_words profile e)
promise_from_words profile e o x1 x2 x3 x4 x5 x6 e1 e2 e3 e4 e5 e6 =
    let outcomes = map outcome_word e.lottery in
    let punish = map decimal e.punish in
    joined_six o x1 x2 x3 x4 x5 x6 (32 ∷ codes "profile") (32 ∷ decimal profile) (32 ∷ codes "lottery") (blanked outcomes) (32 ∷ codes "punish") (blanked punish) e1 e2 e3 e4 e5 e6
    ∙ assoc_six o (32 ∷ codes "profile") (32 ∷ decimal profile) (32 ∷ codes "lottery") (blanked outcomes) (32 ∷ codes "punish") (blanked punish)
    ∙ ap (λ t. o ++ 32 ∷ (codes "profile" ++ 32 ∷ (decimal profile ++ 32 ∷ (codes "lottery" ++ t)))) (sym (blanked-append outcomes (codes "punish" ∷ punish)))

assoc_four : (x s j w p : List ℕ) → x ++ s ++ j ++ w ++ p ≡ x ++ (s ++ (j ++ (w ++ p)))
assoc_four x s j w p = simp append_assoc

joined_four : (x1 x2 x3 x4 x5 s j w p : List ℕ) → x2 ≡ x1 ++ s → x3 ≡ x2 ++ j → x4 ≡ x3 ++ w → x5 ≡ x4 ++ p → x5 ≡ x1 ++ s ++ j ++ w ++ p
joined_four x1 x2 x3 x4 x5 s j w p e2 e3 e4 e5 = cc

pub entry_from_words : (r : Report) (c : Promises) (s j number : ℕ) (e : Entry) (o x1 x2 x3 x4 x5 x6 : List ℕ)
    → number ≡ slice_index (numbers_at r s) j
    → e ≡ member c s j
    → x1 ≡ o ++ codes "entry"
    → x2 ≡ x1 ++ 32 ∷ decimal s
    → x3 ≡ x2 ++ 32 ∷ decimal j
    → (words : List (List ℕ)) × (AreFractionWords r.players (part e.point) (λ i. pos c.common) words × (x4 ≡ x3 ++ blanked words))
    → x5 ≡ x4 ++ blanked (promise_words number e)
    → x6 ≡ x5 ++ 10 ∷ []
    → (text : List ℕ) × (IsEntryLine r c s j text × (x6 ≡ o ++ text))
entry_from_words r c s j number e o x1 x2 x3 x4 x5 x6 n m e1 e2 e3 h e5 e6 =
    let promise = promise_words (slice_index (numbers_at r s) j) (member c s j) in
    let words = decimal s ∷ decimal j ∷ (h.0 ++ promise) in
    let told : promise_words number e ≡ promise = ap (λ k. promise_words k e) n ∙ ap (λ f. promise_words (slice_index (numbers_at r s) j) f) m in
    let here : AreFractionWords r.players (part (member c s j).point) (λ i. pos c.common) h.0 =
    subst (λ f. AreFractionWords r.players (part f.point) (λ i. pos c.common) h.0) m h.1.0 in
    let line_is : x5 ≡ x1 ++ blanked words =
    joined_four x1 x2 x3 x4 x5 (32 ∷ decimal s) (32 ∷ decimal j) (blanked h.0) (blanked promise) e2 e3 h.1.1 (e5 ∙ ap (λ ws. x4 ++ blanked ws) told)
    ∙ assoc_four x1 (32 ∷ decimal s) (32 ∷ decimal j) (blanked h.0) (blanked promise)
    ∙ ap (λ t. x1 ++ 32 ∷ (decimal s ++ 32 ∷ (decimal j ++ t))) (sym (blanked-append h.0 promise)) in
    (line (codes "entry") words, (record { parts = h.0; are_parts = here; line_is = refl }, line_from_words o x1 x5 x6 (codes "entry") words e1 line_is e6))

pub set_from_lines : (r : Report) (c : Promises) (s count : ℕ) (o x1 x2 : List ℕ)
    → count ≡ length (set_at c s)
    → x1 ≡ o ++ line (codes "set") (decimal s ∷ decimal count ∷ [])
    → (text : List ℕ) × (AreTextsBelow (IsEntryLine r c s) (length (set_at c s)) text × (x2 ≡ x1 ++ text))
    → (text : List ℕ) × (IsSetText r c s text × (x2 ≡ o ++ text))
set_from_lines r c s count o x1 x2 n e1 h =
    let first = line (codes "set") (decimal s ∷ decimal (length (set_at c s)) ∷ []) in
    let e : x1 ≡ o ++ first = e1 ∙ ap (λ k. o ++ line (codes "set") (decimal s ∷ decimal k ∷ [])) n in (
      first ++ h.0,
      (record { entries = h.0; are_entries = h.1.0; text_is = refl }, h.1.1 ∙ ap (λ t. t ++ h.0) e ∙ append_assoc o first h.0),
    )

-- ---- a report without inner sets
plain_sets : (r : Report) (inner : Option Promises) (sets : List ℕ) → inner ≡ None → AreSetTexts r inner sets → sets ≡ []
plain_sets r inner sets e h = subst (λ (i : Option Promises). AreSetTexts r i sets) e h

pub plain_parts : (r : Report) (text : List ℕ) → r.inner ≡ None → (h : IsReportText r text)
    → text ≡ h.head ++ texts_below (row_line r) (rows_of r) ++ h.verdict ++ notes_text r.notes.list ++ line (codes "end") []
plain_parts r text none h =
    let before = h.head ++ texts_below (row_line r) (rows_of r) ++ h.verdict ++ notes_text r.notes.list in
    h.parts ∙ ap (λ s. before ++ s ++ line (codes "end") []) (plain_sets r r.inner h.sets none h.are_sets) ∙ ap (λ t. t ++ line (codes "end") []) (append-nil before)

-- ---- where the inner sets are told by cases
pub sets_at : (r : Report) (v w : Option Promises) (o x : List ℕ) → v ≡ w → (text : List ℕ) × (AreSetTexts r w text × (x ≡ o ++ text)) → (text : List ℕ) × (AreSetTexts r v text × (x ≡ o ++ text))
sets_at r v w o x e h = subst (λ u. (text : List ℕ) × (AreSetTexts r u text × (x ≡ o ++ text))) (sym e) h
