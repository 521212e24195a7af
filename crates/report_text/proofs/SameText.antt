-- Reports that agree have one text.
use Rattle.std.proofs.Common.{◌≡◌, ⊎_elim, ℕ, zero, suc, ◌*◌, ◌/◌, ◌%◌, ◌<◌, ◌≤◌, ◌++◌, List, [], ◌∷◌, length, get_or, refl, sym, ap, subst, ◌∙◌, arith, ℤ, pos, ◌*ℤ◌, ◌<ℤ◌}
use Rattle.std.specs.Prelude.{All, codes, decimal, map, Option, None}
use Rattle.std.specs.Fmt.{signed_decimal}
use Rattle.std.proofs.lemmas.Bool.{cases_lt}
use Rattle.std.proofs.lemmas.Int.{ints}
use Rattle.std.proofs.lemmas.List.{same_lists, get_or_default, get_or_past, length-map}
use Rattle.std.proofs.Math.ListN.{get_or-map}
use Rattle.std.proofs.lemmas.List.Elements.{All-get_or}
use Rattle.exact_algebra.specs.Poly.{var, ◌⊗◌}
use Rattle.exact_algebra.proofs.Normal.{ring}
use Rattle.exact_algebra.proofs.Order.{same_from_times}
use Rattle.game_model.specs.SelfGeneration.{part}
use Rattle.pay_frac.specs.Ratio.{Ratio, Equals}
use Rattle.level_table.specs.declared.reason.Reason.{Reason}
use Rattle.level_table.specs.declared.reason.Note.{Note}
use Rattle.set_operator.specs.declared.row.Support.{Support}
use Rattle.set_operator.specs.declared.row.Verdict.{Verdict}
use Rattle.set_operator.specs.declared.row.Verdict.TheVariants.{Supported, Unsupported}
use Rattle.level_table.specs.Levels.{Table, level_at}
use Rattle.level_table.specs.Notes.{no_note}
use Rattle.report_text.specs.declared.report.Report.{Report}
use Rattle.report_text.specs.declared.rules.Sizes.{Sizes}
use Rattle.report_text.specs.ReportText.{AreDiscountWords, AreEqual, AreFractionWords, AreTexts, IsFractionWord, IsHead, IsPointLine, IsReportText, IsVerdictText, discount_at, level_word, line, note_at, note_text, notes_text, reached_word, row_words, status_word, texts_below, why_line, word_at}
use Rattle.report_text.specs.Rules.{Agrees, AreSameSupports, IsDiscount, IsSameSupport, IsSameVerdict, sizes_of, told}
use Rattle.report_text.proofs.SetLemmas.{plain_parts}
use Rattle.report_text.proofs.FractionLemmas.{one_word}

-- a fraction that equals one of two equal ones equals the other
equals_moves : (r : Ratio) (num den num' den' : ℤ) → pos 0 <ℤ den → Equals r num den → num *ℤ den' ≡ num' *ℤ den → Equals r num' den'
equals_moves r num den num' den' p e g =
    let xs = r.num ∷ r.den ∷ num ∷ den ∷ num' ∷ den' ∷ [] in
    let first : den *ℤ (r.num *ℤ den') ≡ (r.num *ℤ den) *ℤ den' = ring xs (var 3 ⊗ (var 0 ⊗ var 5)) ((var 0 ⊗ var 3) ⊗ var 5) refl in
    let mid : (num *ℤ r.den) *ℤ den' ≡ (num *ℤ den') *ℤ r.den = ring xs ((var 2 ⊗ var 1) ⊗ var 5) ((var 2 ⊗ var 5) ⊗ var 1) refl in
    let last : (num' *ℤ den) *ℤ r.den ≡ den *ℤ (num' *ℤ r.den) = ring xs ((var 4 ⊗ var 3) ⊗ var 1) (var 3 ⊗ (var 4 ⊗ var 1)) refl in
    same_from_times den (r.num *ℤ den') (num' *ℤ r.den) p (first ∙ ap (λ z. z *ℤ den') e ∙ mid ∙ ap (λ z. z *ℤ r.den) g ∙ last)

same_fraction_word : (num den num' den' : ℤ) (v w : List ℕ) → pos 0 <ℤ den → pos 0 <ℤ den' → num *ℤ den' ≡ num' *ℤ den → IsFractionWord num den v → IsFractionWord num' den' w → v ≡ w
same_fraction_word num den num' den' v w p q e g h =
    one_word num' den' v w q (record { ratio = g.ratio; lowest = g.lowest; equal = equals_moves g.ratio num den num' den' p g.equal e; spelled = g.spelled }) h

pub record SameFractions (count : ℕ) (num den num' den' : ℕ → ℤ) : Type 0 where
  positive : (i : ℕ) → i < count → pos 0 <ℤ den i
  positive' : (i : ℕ) → i < count → pos 0 <ℤ den' i
  equal : (i : ℕ) → i < count → num i *ℤ den' i ≡ num' i *ℤ den i

pub same_fraction_words : (count : ℕ) (num den num' den' : ℕ → ℤ) (v w : List (List ℕ)) → SameFractions count num den num' den'
    → AreFractionWords count num den v → AreFractionWords count num' den' w → v ≡ w
same_fraction_words count num den num' den' v w s g h =
    let lengths : length v ≡ length w = g.one_each ∙ sym h.one_each in
    same_lists v w lengths
    (λ k d l.
    let k_v : k < length v = l in
    let k_w : k < length w = omega arith in
    let here : k < count = omega (arith, g.one_each) in
    get_or_default v k d [] k_v
    ∙ same_fraction_word (num k) (den k) (num' k) (den' k) (word_at v k) (word_at w k) (s.positive k here) (s.positive' k here) (s.equal k here) (g.each k here) (h.each k here)
    ∙ get_or_default w k [] d k_w)

-- ---- discounts
positive_den : (ds : List (ℕ × ℕ)) → All IsDiscount ds → (i : ℕ) → pos 0 <ℤ pos (discount_at ds i).1
positive_den ds all i =
    ⊎_elim
    (λ (l : i < length ds).
    let d : IsDiscount (discount_at ds i) = All-get_or IsDiscount ds i (0, 1) l all in
    let low : 0 < (discount_at ds i).0 = d.positive in
    let high : (discount_at ds i).0 < (discount_at ds i).1 = d.below_one in
    omega (arith, ints))
    (λ (g : length ds ≤ i). subst (λ (d : ℕ × ℕ). pos 0 <ℤ pos d.1) (sym (get_or_past ds i (0, 1) g)) (omega (arith, ints)))
    (cases_lt i (length ds))

pub same_discount_words : (ds : List (ℕ × ℕ)) (v w : List (List ℕ)) → All IsDiscount ds → AreDiscountWords ds v → AreDiscountWords ds w → v ≡ w
same_discount_words ds v w all g h =
    let lengths : length v ≡ length w =
    ⊎_elim
    (λ (a : AreEqual ds × (length v ≡ 1)). ⊎_elim (λ (b : AreEqual ds × (length w ≡ 1)). a.1 ∙ sym b.1) (λ (b : (AreEqual ds → ⊥) × (length w ≡ length ds)). absurd (b.0 a.0)) h.shown)
    (λ (a : (AreEqual ds → ⊥) × (length v ≡ length ds)). ⊎_elim (λ (b : AreEqual ds × (length w ≡ 1)). absurd (a.0 b.0)) (λ (b : (AreEqual ds → ⊥) × (length w ≡ length ds)). a.1 ∙ sym b.1) h.shown)
    g.shown in
    let num = λ (i : ℕ). pos (discount_at ds i).0 in
    let den = λ (i : ℕ). pos (discount_at ds i).1 in
    same_fraction_words (length v) num den num den v w
    (record { positive = λ i l. positive_den ds all i; positive' = λ i l. positive_den ds all i; equal = λ i l. refl })
    g.fractions
    (subst (λ n. AreFractionWords n num den w) (sym lengths) h.fractions)

-- ---- supports
-- the denominators of the points are positive
abbrev pub ArePositive : List Support → Type 0
ArePositive [] = Unit {0}
ArePositive (s ∷ ss) = (pos 0 <ℤ s.point.den) × ArePositive ss

same_point_line : (a b : Report) (s t : Support) (x y : List ℕ) → a.players ≡ b.players → a.directions ≡ b.directions
    → pos 0 <ℤ s.point.den → pos 0 <ℤ t.point.den → IsSameSupport a.players s t → IsPointLine a s x → IsPointLine b t y → x ≡ y
same_point_line a b s t x y players directions p q same g h =
    let parts : g.parts ≡ h.parts =
    same_fraction_words a.players (part s.point.num) (λ i. s.point.den) (part t.point.num) (λ i. t.point.den) g.parts h.parts
    (record { positive = λ i l. p; positive' = λ i l. q; equal = same.point })
    g.are_parts
    (subst (λ n. AreFractionWords n (part t.point.num) (λ i. t.point.den) h.parts) (sym players) h.are_parts) in
    let row : s.row ≡ t.row = same.row in
    let profile : s.profile ≡ t.profile = same.profile in
    g.line_is
    ∙ ap (λ (ws : List (List ℕ)). line (codes "point") (row_words a s.row ++ decimal s.profile ∷ ws)) parts
    ∙ ap (λ (n : ℕ). line (codes "point") (row_words a n ++ decimal s.profile ∷ h.parts)) row
    ∙ ap (λ (n : ℕ). line (codes "point") (row_words a t.row ++ decimal n ∷ h.parts)) profile
    ∙ ap (λ (k : ℕ). line (codes "point") (decimal (t.row / k) ∷ decimal (t.row % k) ∷ decimal t.profile ∷ h.parts)) directions
    ∙ sym h.line_is

pub same_point_lines : (a b : Report) (ss ts : List Support) (x y : List ℕ) → a.players ≡ b.players → a.directions ≡ b.directions
    → ArePositive ss → ArePositive ts → AreSameSupports a.players ss ts → AreTexts (IsPointLine a) ss x → AreTexts (IsPointLine b) ts y → x ≡ y
same_point_lines a b [] [] x y e f p q same g h = g ∙ sym h
same_point_lines a b [] (t ∷ ts) x y e f p q same g h = absurd same
same_point_lines a b (s ∷ ss) [] x y e f p q same g h = absurd same
same_point_lines a b (s ∷ ss) (t ∷ ts) x y e f p q same g h =
    let first : g.0 ≡ h.0 = same_point_line a b s t g.0 h.0 e f p.0 q.0 same.0 g.2 h.2 in
    let rest : g.1 ≡ h.1 = same_point_lines a b ss ts g.1 h.1 e f p.1 q.1 same.1 g.3 h.3 in
    g.4 ∙ ap (λ (t : List ℕ). t ++ g.1) first ∙ ap (λ (t : List ℕ). h.0 ++ t) rest ∙ sym h.4

-- ---- notes
texts_same : (f g : ℕ → List ℕ) (n : ℕ) → ((i : ℕ) → i < n → f i ≡ g i) → texts_below f n ≡ texts_below g n
texts_same f g zero h = refl
texts_same f g (suc n) h = ap (λ (t : List ℕ). t ++ f n) (texts_same f g n (λ i l. h i (omega arith))) ∙ ap (λ (t : List ℕ). texts_below g n ++ t) (h n (omega arith))

-- the text of a note, of what is told of it
abbrev told_text : ℕ × List Reason → List ℕ
told_text t = line (codes "empty") (decimal t.0 ∷ []) ++ texts_below (why_line t.0 t.1) (length t.1)

told_at : (xs ys : List Note) (l : ℕ) → map told xs ≡ map told ys → told (note_at xs l) ≡ told (note_at ys l)
told_at xs ys l e =
    sym (get_or-map told xs l no_note)
    ∙ ap (λ (t : List (ℕ × List Reason)). get_or t l (told no_note)) e
    ∙ get_or-map told ys l no_note

pub same_notes : (xs ys : List Note) → map told xs ≡ map told ys → notes_text xs ≡ notes_text ys
same_notes xs ys e =
    let n : length xs ≡ length ys = sym (length-map xs told) ∙ ap length e ∙ length-map ys told in
    texts_same (note_text xs) (note_text ys) (length xs) (λ l p. ap told_text (told_at xs ys l e))
    ∙ ap (texts_below (note_text ys)) n

-- ---- the whole text
abbrev pub HasPositive : Verdict → Type 0
HasPositive (Supported supports) = ArePositive supports
HasPositive (Unsupported row level reached) = Unit {0}

status_same : (players : ℕ) (v w : Verdict) → IsSameVerdict players v w → status_word v ≡ status_word w
status_same players (Supported ss) (Supported ts) e = refl
status_same players (Supported ss) (Unsupported row level reached) e = absurd e
status_same players (Unsupported row level reached) (Supported ts) e = absurd e
status_same players (Unsupported row level reached) (Unsupported row' level' reached') e = refl

same_verdict_text : (a b : Report) (v w : Verdict) (x y : List ℕ) → a.players ≡ b.players → a.directions ≡ b.directions
    → HasPositive v → HasPositive w → IsSameVerdict a.players v w → IsVerdictText a v x → IsVerdictText b w y → x ≡ y
same_verdict_text a b (Supported ss) (Supported ts) x y e f p q same g h = same_point_lines a b ss ts x y e f p q same g h
same_verdict_text a b (Supported ss) (Unsupported row level reached) x y e f p q same g h = absurd same
same_verdict_text a b (Unsupported row level reached) (Supported ts) x y e f p q same g h = absurd same
same_verdict_text a b (Unsupported row level reached) (Unsupported row' level' reached') x y e f p q same g h =
    g
    ∙ ap (λ (k : ℕ). line (codes "stop") (decimal (row / k) ∷ decimal (row % k) ∷ signed_decimal level ∷ reached_word reached ∷ [])) f
    ∙ ap (λ (n : ℕ). line (codes "stop") (row_words b n ++ signed_decimal level ∷ reached_word reached ∷ [])) same.0
    ∙ ap (λ (x : ℤ). line (codes "stop") (row_words b row' ++ signed_decimal x ∷ reached_word reached ∷ [])) same.1
    ∙ ap (λ (o : Option Ratio). line (codes "stop") (row_words b row' ++ signed_decimal level' ∷ reached_word o ∷ [])) same.2
    ∙ sym h

abbrev head_text : List ℕ → Sizes → List (List ℕ) → ℤ → ℕ → ℕ → List ℕ
head_text status z discounts unit slack sweeps =
    line (codes "payoff") (codes "1" ∷ [])
    ++ line (codes "status") (status ∷ [])
    ++ line (codes "players") (decimal z.players ∷ [])
    ++ line (codes "states") (decimal z.states ∷ [])
    ++ line (codes "directions") (decimal z.directions ∷ [])
    ++ line (codes "discount") discounts
    ++ line (codes "unit") (signed_decimal unit ∷ [])
    ++ line (codes "slack") (decimal slack ∷ [])
    ++ line (codes "sweeps") (decimal sweeps ∷ [])
    ++ line (codes "solves") (decimal (sweeps * (z.states * z.directions)) ∷ [])

same_head : (a b : Report) (x y : List ℕ) → Agrees a b → All IsDiscount b.discounts → IsHead a x → IsHead b y → x ≡ y
same_head a b x y same all g h =
    let v = subst (λ ds. AreDiscountWords ds g.discounts) same.discounts g.are_discounts in
    let words : g.discounts ≡ h.discounts = same_discount_words b.discounts g.discounts h.discounts all v h.are_discounts in
    let status : status_word a.verdict ≡ status_word b.verdict = status_same a.players a.verdict b.verdict same.verdict in
    g.lines
    ∙ ap (λ (s : List ℕ). head_text s (sizes_of a) g.discounts a.unit a.slack a.sweeps) status
    ∙ ap (λ (z : Sizes). head_text (status_word b.verdict) z g.discounts a.unit a.slack a.sweeps) same.sizes
    ∙ ap (λ (ws : List (List ℕ)). head_text (status_word b.verdict) (sizes_of b) ws a.unit a.slack a.sweeps) words
    ∙ ap (λ (u : ℤ). head_text (status_word b.verdict) (sizes_of b) h.discounts u a.slack a.sweeps) same.unit
    ∙ ap (λ (n : ℕ). head_text (status_word b.verdict) (sizes_of b) h.discounts b.unit n a.sweeps) same.slack
    ∙ ap (λ (n : ℕ). head_text (status_word b.verdict) (sizes_of b) h.discounts b.unit b.slack n) same.sweeps
    ∙ sym h.lines

abbrev rows_text : Sizes → Table → List ℕ
rows_text z t = texts_below (λ row. line (codes "row") (decimal (row / z.directions) ∷ decimal (row % z.directions) ∷ level_word (level_at t row) ∷ [])) (z.states * z.directions)

-- two texts of reports that agree are the same
pub one_text : (a b : Report) (t u : List ℕ) → Agrees a b → All IsDiscount b.discounts → HasPositive a.verdict → HasPositive b.verdict → a.inner ≡ None → b.inner ≡ None → IsReportText a t → IsReportText b u → t ≡ u
one_text a b t u same all p q none none' g h =
    let players : a.players ≡ b.players = ap (λ (z : Sizes). z.players) same.sizes in
    let directions : a.directions ≡ b.directions = ap (λ (z : Sizes). z.directions) same.sizes in
    let head : g.head ≡ h.head = same_head a b g.head h.head same all g.is_head h.is_head in
    let rows : rows_text (sizes_of a) a.levels ≡ rows_text (sizes_of b) b.levels = ap (λ (z : Sizes). rows_text z a.levels) same.sizes ∙ ap (rows_text (sizes_of b)) same.levels in
    let verdict : g.verdict ≡ h.verdict = same_verdict_text a b a.verdict b.verdict g.verdict h.verdict players directions p q same.verdict g.is_verdict h.is_verdict in
    let notes : notes_text a.notes.list ≡ notes_text b.notes.list = same_notes a.notes.list b.notes.list same.notes in
    let whole = λ (x r v n : List ℕ). x ++ r ++ v ++ n ++ line (codes "end") [] in
    plain_parts a t none g
    ∙ ap (λ (x : List ℕ). whole x (rows_text (sizes_of a) a.levels) g.verdict (notes_text a.notes.list)) head
    ∙ ap (λ (r : List ℕ). whole h.head r g.verdict (notes_text a.notes.list)) rows
    ∙ ap (λ (v : List ℕ). whole h.head (rows_text (sizes_of b) b.levels) v (notes_text a.notes.list)) verdict
    ∙ ap (λ (n : List ℕ). whole h.head (rows_text (sizes_of b) b.levels) h.verdict n) notes
    ∙ sym (plain_parts b u none' h)
