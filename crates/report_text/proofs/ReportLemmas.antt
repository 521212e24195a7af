-- The text of a report, a piece at a time.
use Rattle.std.proofs.Common.{◌≡◌, ◌⊎◌, ℕ, ◌+◌, ◌*◌, ◌<◌, ◌≤◌, ◌++◌, List, [], ◌∷◌, length, get_or, take, refl, sym, ap, subst, ◌∙◌, arith, append_assoc, below_more, ℤ, pos}
use Rattle.std.proofs.lemmas.List.{append-nil, get_or_append_left, get_or_push, length_push, get_or_default, take_more}
use Rattle.std.proofs.lemmas.Nat.{mul-le}
use Rattle.std.specs.Prelude.{codes, decimal, ◌^◌}
use Rattle.std.specs.Fmt.{signed_decimal}
use Rattle.game_model.specs.SelfGeneration.{part}
use Rattle.set_operator.specs.declared.row.Support.{Support}
use Rattle.set_operator.specs.declared.row.Verdict.{Verdict}
use Rattle.report_text.specs.declared.report.Report.{Report}
use Rattle.level_table.specs.declared.reason.Item.{Item}
use Rattle.report_text.specs.Pieces.{sizes_text, counts_text}
use Rattle.report_text.specs.ReportText.{word_at, blanked, item_words, items_words, notes_text, line, texts_below, status_word, rows_of, row_line, row_words, discount_at, AreEqual, AreTexts, AreSetTexts, IsFractionWord, AreFractionWords, AreDiscountWords, IsHead, IsPointLine, IsVerdictText, IsReportText}

pub blanked-append : (vs ws : List (List ℕ)) → blanked (vs ++ ws) ≡ blanked vs ++ blanked ws
blanked-append [] ws = refl
blanked-append (v ∷ vs) ws = ap (λ t. 32 ∷ (v ++ t)) (blanked-append vs ws) ∙ ap (λ t. 32 ∷ t) (sym (append_assoc v (blanked vs) (blanked ws)))

pub blanked_push : (words : List (List ℕ)) (w : List ℕ) → blanked (words ++ w ∷ []) ≡ blanked words ++ 32 ∷ w
blanked_push words w = blanked-append words (w ∷ []) ∙ ap (λ t. blanked words ++ 32 ∷ t) (append-nil w)

pub no_fraction_words : (num den : ℕ → ℤ) → AreFractionWords 0 num den []
no_fraction_words num den = record { one_each = refl; each = λ i l. absurd (omega arith) }

pub fraction_words_more : (n : ℕ) (num den : ℕ → ℤ) (words : List (List ℕ)) (w : List ℕ) → AreFractionWords n num den words → IsFractionWord (num n) (den n) w → AreFractionWords (n + 1) num den (words ++ w ∷ [])
fraction_words_more n num den words w h here = record {
  one_each = length_push words w ∙ ap (λ k. k + 1) h.one_each;
  each = below_more (λ i. IsFractionWord (num i) (den i) (word_at (words ++ w ∷ []) i)) n
      (λ i l. subst (IsFractionWord (num i) (den i)) (sym (get_or_append_left words (w ∷ []) [] i (omega (arith, h.one_each)))) (h.each i l))
      (subst (IsFractionWord (num n) (den n)) (sym (get_or_push words w [] n h.one_each)) here);
}

-- words so far, and one more
pub words_more : (old now new : List ℕ) (n : ℕ) (num den : ℕ → ℤ) → (words : List (List ℕ)) × (AreFractionWords n num den words × (now ≡ old ++ blanked words)) → (w : List ℕ) × (IsFractionWord (num n) (den n) w × (new ≡ now ++ 32 ∷ w)) → (words : List (List ℕ)) × (AreFractionWords (n + 1) num den words × (new ≡ old ++ blanked words))
words_more old now new n num den h k =
    let words = h.0 in
    let w = k.0 in (
      words ++ w ∷ [],
      (
        fraction_words_more n num den words w h.1.0 k.1.0,
        k.1.1 ∙ ap (λ t. t ++ 32 ∷ w) h.1.1 ∙ append_assoc old (blanked words) (32 ∷ w) ∙ ap (λ t. old ++ t) (sym (blanked_push words w)),
      ),
    )

pub words_none : (old : List ℕ) (num den : ℕ → ℤ) → (words : List (List ℕ)) × (AreFractionWords 0 num den words × (old ≡ old ++ blanked words))
words_none old num den = ([], (no_fraction_words num den, sym (append-nil old)))

-- ---- pieces that are appended one after another
joined_head : (o x1 x2 x3 x4 x5 a b s d c : List ℕ) → x1 ≡ o ++ a → x2 ≡ x1 ++ b → x3 ≡ x2 ++ s → x4 ≡ x3 ++ d → x5 ≡ x4 ++ c → x5 ≡ o ++ a ++ b ++ s ++ d ++ c
joined_head o x1 x2 x3 x4 x5 a b s d c e1 e2 e3 e4 e5 = cc

regrouped : (o a b s1 s2 s3 d c1 c2 c3 c4 : List ℕ) → o ++ a ++ b ++ (s1 ++ s2 ++ s3) ++ d ++ (c1 ++ c2 ++ c3 ++ c4) ≡ o ++ (a ++ b ++ s1 ++ s2 ++ s3 ++ d ++ c1 ++ c2 ++ c3 ++ c4)
regrouped o a b s1 s2 s3 d c1 c2 c3 c4 = simp append_assoc

pub head_from_lines : (r : Report) (words : List (List ℕ)) (o x1 x2 x3 x4 x5 : List ℕ) → AreDiscountWords r.discounts words
    → x1 ≡ o ++ line (codes "payoff") (codes "1" ∷ [])
    → x2 ≡ x1 ++ line (codes "status") (status_word r.verdict ∷ [])
    → x3 ≡ x2 ++ sizes_text r
    → x4 ≡ x3 ++ line (codes "discount") words
    → x5 ≡ x4 ++ counts_text r
    → (text : List ℕ) × (IsHead r text × (x5 ≡ o ++ text))
head_from_lines r words o x1 x2 x3 x4 x5 h e1 e2 e3 e4 e5 = (
  _,
  (
    record { discounts = words; are_discounts = h; lines = refl },
    joined_head o x1 x2 x3 x4 x5 (line (codes "payoff") (codes "1" ∷ [])) (line (codes "status") (status_word r.verdict ∷ [])) (sizes_text r) (line (codes "discount") words) (counts_text r) e1 e2 e3 e4 e5
        ∙ regrouped o (line (codes "payoff") (codes "1" ∷ [])) (line (codes "status") (status_word r.verdict ∷ []))
        (line (codes "players") (decimal r.players ∷ [])) (line (codes "states") (decimal r.states ∷ [])) (line (codes "directions") (decimal r.directions ∷ []))
        (line (codes "discount") words)
        (line (codes "unit") (signed_decimal r.unit ∷ [])) (line (codes "slack") (decimal r.slack ∷ [])) (line (codes "sweeps") (decimal r.sweeps ∷ [])) (line (codes "solves") (decimal (r.sweeps * rows_of r) ∷ [])),
  ),
)

assoc_line : (o a b : List ℕ) → o ++ a ++ b ++ 10 ∷ [] ≡ o ++ (a ++ b ++ 10 ∷ [])
assoc_line o a b = simp append_assoc

-- a line of words that are appended one after another
pub line_from_words : (o x1 x2 x3 name : List ℕ) (words : List (List ℕ)) → x1 ≡ o ++ name → x2 ≡ x1 ++ blanked words → x3 ≡ x2 ++ 10 ∷ [] → x3 ≡ o ++ line name words
line_from_words o x1 x2 x3 name words e1 e2 e3 = e3 ∙ ap (λ t. t ++ 10 ∷ []) (e2 ∙ ap (λ t. t ++ blanked words) e1) ∙ assoc_line o name (blanked words)

-- the text of a report from its parts
pub report_from_parts : (r : Report) (x1 x2 x3 x4 x5 x6 head verdict sets : List ℕ) → IsHead r head → IsVerdictText r r.verdict verdict → AreSetTexts r r.inner sets → x1 ≡ head → x2 ≡ x1 ++ texts_below (row_line r) (rows_of r) → x3 ≡ x2 ++ verdict → x4 ≡ x3 ++ notes_text r.notes.list → x5 ≡ x4 ++ sets → x6 ≡ x5 ++ line (codes "end") [] → IsReportText r x6
report_from_parts r x1 x2 x3 x4 x5 x6 head verdict sets h v s e1 e2 e3 e4 e5 e6 = record {
  head = head;
  verdict = verdict;
  sets = sets;
  is_head = h;
  is_verdict = v;
  are_sets = s;
  parts = e6 ∙ ap (λ t. t ++ line (codes "end") []) (e5 ∙ ap (λ t. t ++ sets) (e4 ∙ ap (λ t. t ++ notes_text r.notes.list) (e3 ∙ ap (λ t. t ++ verdict) (e2 ∙ ap (λ t. t ++ texts_below (row_line r) (rows_of r)) e1))));
}

items_words-push : (xs : List Item) (x : Item) → items_words (xs ++ x ∷ []) ≡ items_words xs ++ item_words x
items_words-push [] x = append-nil (item_words x)
items_words-push (y ∷ ys) x = ap (λ t. item_words y ++ t) (items_words-push ys x) ∙ sym (append_assoc (item_words y) (items_words ys) (item_words x))

-- rows of a certificate so far, and one more
pub items_more : (old now new : List ℕ) (xs : List Item) (i : ℕ) (x : Item) → i < length xs → x ≡ get_or xs i x
    → now ≡ old ++ blanked (items_words (take i xs)) → new ≡ now ++ blanked (item_words x) → new ≡ old ++ blanked (items_words (take (i + 1) xs))
items_more old now new xs i x l e h k =
    let step : items_words (take (i + 1) xs) ≡ items_words (take i xs) ++ item_words x =
    ap items_words (take_more xs i x l ∙ ap (λ y. take i xs ++ y ∷ []) (sym e)) ∙ items_words-push (take i xs) x in
    k ∙ ap (λ t. t ++ blanked (item_words x)) h ∙ append_assoc old (blanked (items_words (take i xs))) (blanked (item_words x))
    ∙ ap (λ t. old ++ t) (sym (blanked-append (items_words (take i xs)) (item_words x)) ∙ ap blanked (sym step))

pub solves_fit : (sweeps rows : ℕ) → sweeps < 2 ^ 64 → rows < 2 ^ 32 → sweeps * rows < 2 ^ 128
solves_fit sweeps rows h k = let p : sweeps * rows ≤ 2 ^ 64 * 2 ^ 32 = mul-le sweeps rows (2 ^ 64) (2 ^ 32) (omega arith) (omega arith) in omega arith

-- texts so far, and one more
pub texts_push : {X : Type 0} (P : X → List ℕ → Type 0) (xs : List X) (x : X) (text more : List ℕ) → AreTexts P xs text → P x more → AreTexts P (xs ++ x ∷ []) (text ++ more)
texts_push P [] x text more e h = (more, [], h, refl, ap (λ t. t ++ more) e ∙ sym (append-nil more))
texts_push P (y ∷ xs) x text more h here =
    (h.0, h.1 ++ more, h.2, texts_push P xs x h.1 more h.3 here, ap (λ t. t ++ more) h.4 ∙ append_assoc h.0 h.1 more)

pub texts_more : {X : Type 0} (P : X → List ℕ → Type 0) (xs : List X) (i : ℕ) (x : X) (old now new : List ℕ) → i < length xs → x ≡ get_or xs i x
    → (text : List ℕ) × (AreTexts P (take i xs) text × (now ≡ old ++ text))
    → (text : List ℕ) × (P x text × (new ≡ now ++ text))
    → (text : List ℕ) × (AreTexts P (take (i + 1) xs) text × (new ≡ old ++ text))
texts_more P xs i x old now new l e h k = (
  h.0 ++ k.0,
  (
    subst (λ ys. AreTexts P ys (h.0 ++ k.0)) (sym (take_more xs i x l ∙ ap (λ y. take i xs ++ y ∷ []) (sym e))) (texts_push P (take i xs) x h.0 k.0 h.1.0 k.1.0),
    k.1.1 ∙ ap (λ t. t ++ k.0) h.1.1 ∙ append_assoc old h.0 k.0,
  ),
)

-- ---- discounts
-- the word of a fraction whose parts are read in another way
pub fraction_read : (num num' den den' : ℤ) (old new : List ℕ) → num ≡ num' → den ≡ den'
    → (w : List ℕ) × (IsFractionWord num den w × (new ≡ old ++ 32 ∷ w))
    → (w : List ℕ) × (IsFractionWord num' den' w × (new ≡ old ++ 32 ∷ w))
fraction_read num num' den den' old new p q h =
    (h.0, (subst (λ z. IsFractionWord num' z h.0) q (subst (λ z. IsFractionWord z den h.0) p h.1.0), h.1.1))

pub discount_word_at : (ds : List (ℕ × ℕ)) (i : ℕ) (pair : ℕ × ℕ) (num den : ℤ) (old new : List ℕ) → i < length ds → pair ≡ get_or ds i pair → num ≡ pos pair.0 → den ≡ pos pair.1
    → (w : List ℕ) × (IsFractionWord num den w × (new ≡ old ++ 32 ∷ w))
    → (w : List ℕ) × (IsFractionWord (pos (discount_at ds i).0) (pos (discount_at ds i).1) w × (new ≡ old ++ 32 ∷ w))
discount_word_at ds i pair num den old new l e p q h =
    let here : pair ≡ discount_at ds i = e ∙ get_or_default ds i pair (0, 1) l in
    (h.0, (subst (λ z. IsFractionWord (pos (discount_at ds i).0) z h.0) (q ∙ ap (λ d. pos d.1) here) (subst (λ z. IsFractionWord z den h.0) (p ∙ ap (λ d. pos d.0) here) h.1.0), h.1.1))

pub discount_from_words : (ds : List (ℕ × ℕ)) (shown : ℕ) (o x1 x2 x3 : List ℕ)
    → (AreEqual ds × (shown ≡ 1)) ⊎ ((AreEqual ds → ⊥) × (shown ≡ length ds))
    → x1 ≡ o ++ codes "discount"
    → (words : List (List ℕ)) × (AreFractionWords shown (λ i. pos (discount_at ds i).0) (λ i. pos (discount_at ds i).1) words × (x2 ≡ x1 ++ blanked words))
    → x3 ≡ x2 ++ 10 ∷ []
    → (words : List (List ℕ)) × (AreDiscountWords ds words × (x3 ≡ o ++ line (codes "discount") words))
discount_from_words ds shown o x1 x2 x3 s e1 h e3 =
    let count : shown ≡ length h.0 = sym h.1.0.one_each in (
      h.0,
      (
        record {
          shown = subst (λ n. (AreEqual ds × (n ≡ 1)) ⊎ ((AreEqual ds → ⊥) × (n ≡ length ds))) count s;
          fractions = subst (λ n. AreFractionWords n (λ i. pos (discount_at ds i).0) (λ i. pos (discount_at ds i).1) h.0) count h.1.0;
        },
        line_from_words o x1 x2 x3 (codes "discount") h.0 e1 h.1.1 e3,
      ),
    )

-- ---- points
assoc_words : (a b p w : List ℕ) → a ++ b ++ p ++ w ≡ a ++ (b ++ (p ++ w))
assoc_words a b p w = simp append_assoc

pub point_from_words : (r : Report) (support : Support) (o x1 x2 x3 x4 x5 : List ℕ)
    → x1 ≡ o ++ codes "point"
    → x2 ≡ x1 ++ blanked (row_words r support.row)
    → x3 ≡ x2 ++ 32 ∷ decimal support.profile
    → (words : List (List ℕ)) × (AreFractionWords r.players (part support.point.num) (λ i. support.point.den) words × (x4 ≡ x3 ++ blanked words))
    → x5 ≡ x4 ++ 10 ∷ []
    → (text : List ℕ) × (IsPointLine r support text × (x5 ≡ o ++ text))
point_from_words r support o x1 x2 x3 x4 x5 e1 e2 e3 h e5 =
    let words = row_words r support.row ++ decimal support.profile ∷ h.0 in
    let e4 : x4 ≡ x1 ++ blanked words =
    h.1.1 ∙ ap (λ t. t ++ blanked h.0) (e3 ∙ ap (λ t. t ++ 32 ∷ decimal support.profile) e2)
    ∙ assoc_words x1 (blanked (row_words r support.row)) (32 ∷ decimal support.profile) (blanked h.0)
    ∙ ap (λ t. x1 ++ t) (sym (blanked-append (row_words r support.row) (decimal support.profile ∷ h.0))) in
    (line (codes "point") words, (record { parts = h.0; are_parts = h.1.0; line_is = refl }, line_from_words o x1 x4 x5 (codes "point") words e1 e4 e5))

-- ---- the verdict
pub verdict_at : (r : Report) (v w : Verdict) (o x : List ℕ) → v ≡ w → (text : List ℕ) × (IsVerdictText r w text × (x ≡ o ++ text)) → (text : List ℕ) × (IsVerdictText r v text × (x ≡ o ++ text))
verdict_at r v w o x e h = subst (λ u. (text : List ℕ) × (IsVerdictText r u text × (x ≡ o ++ text))) (sym e) h
