-- Discounts that are read one after another: each that is written, and then the last one again.
use Rattle.std.proofs.Common.{◌≡◌, ◌⊎◌, ⊎_elim, ℕ, ◌+◌, ◌-◌, ◌*◌, ◌<◌, ◌≤◌, List, [], ◌∷◌, ◌++◌, inl, inr, length, get_or, drop, take, refl, sym, ap, subst, ◌∙◌, arith, ℤ, pos, negsuc, ◌≤ℤ◌}
use Rattle.std.specs.Prelude.{codes}
use Rattle.std.specs.Int.{◌∣◌}
use Rattle.std.specs.Int.RustNames.{unsigned_abs}
use Rattle.std.proofs.Math.Nat.{le_of_dvd}
use Rattle.std.proofs.lemmas.Bool.{cases_lt}
use Rattle.std.proofs.lemmas.Int.{ints}
use Rattle.std.proofs.lemmas.List.{drop_all, drop_more, take_all, take_more}
use Rattle.std.proofs.lemmas.List.Elements.{All-get_or}
use Rattle.pay_frac.specs.Ratio.{Ratio, IsLowest}
use Rattle.pay_frac.specs.Spelling.{digit_count}
use Rattle.pay_frac.proofs.Coprime.{lowest_den}
use Rattle.report_lines.specs.Spelled.{ratio_word}
use Rattle.report_text.specs.ReportText.{AreDiscountWords, AreEqual, IsFractionWord, discount_at, word_at}
use Rattle.report_text.specs.Rules.{AreDiscounts, IsCommon, IsDiscount}
use Rattle.report_text.proofs.FractionLemmas.{cancel_abs, one_word}
use Rattle.report_text.proofs.Points.{ratio_digits}

abbrev pub ratio_of : ℕ × ℕ → Ratio
ratio_of d = record { num = pos d.0; den = pos d.1 }

pub discount_lowest : (d : ℕ × ℕ) → IsDiscount d → d.1 ≤ 1024 → IsLowest (ratio_of d)
discount_lowest d h few =
    let p : 0 < d.0 = h.positive in
    let q : d.0 < d.1 = h.below_one in
    record { positive = omega (arith, ints); coprime = h.lowest; num_fits = omega arith; den_fits = omega arith }

pub discount_digits : (d : ℕ × ℕ) → IsDiscount d → d.1 ≤ 1024 → digit_count (ratio_word (ratio_of d)) ≤ 36
discount_digits d h few =
    let q : d.0 < d.1 = h.below_one in
    ratio_digits (ratio_of d) 4 4 (omega arith) (omega arith) (omega arith) (omega arith) (omega arith) (discount_lowest d h few)

-- discounts that are the same number are the same pair
same_discounts : (a b : ℕ × ℕ) → IsDiscount a → IsDiscount b → a.0 * b.1 ≡ b.0 * a.1 → a ≡ b
same_discounts a b g h e =
    let den : a.1 ≡ b.1 = lowest_den a.0 a.1 b.0 b.1 g.lowest h.lowest e in
    let p : 0 < b.1 = let q : b.0 < b.1 = h.below_one in omega arith in
    let num : a.0 ≡ b.0 = cancel_abs a.0 b.0 b.0 b.1 b.1 p (e ∙ ap (λ (n : ℕ). b.0 * n) den) refl in
    ap (λ (n : ℕ). (n, a.1)) num ∙ ap (λ (n : ℕ). (b.0, n)) den

-- ---- the discounts of a report
pub discount_there : (players : ℕ) (ds : List (ℕ × ℕ)) (i : ℕ) → AreDiscounts players ds → i < players → IsDiscount (discount_at ds i)
discount_there players ds i h l = All-get_or IsDiscount ds i (0, 1) (omega (arith, h.one_each)) h.each

pub discount_divides : (players : ℕ) (ds : List (ℕ × ℕ)) (i : ℕ) (h : AreDiscounts players ds) → i < players → (discount_at ds i).1 ∣ h.common.0
discount_divides players ds i h l = All-get_or (λ (d : ℕ × ℕ). d.1 ∣ h.common.0) ds i (0, 1) (omega (arith, h.one_each)) h.common.1.multiple

pub discount_few : (players : ℕ) (ds : List (ℕ × ℕ)) (i : ℕ) → AreDiscounts players ds → i < players → (discount_at ds i).1 ≤ 1024
discount_few players ds i h l =
    let p : 0 < h.common.0 = h.common.1.positive in
    let few : h.common.0 ≤ 1024 = h.common.1.few in
    let d : (discount_at ds i).1 ≤ h.common.0 = le_of_dvd p (discount_divides players ds i h l) in
    omega arith

-- where the discounts are equal numbers, each is the one before
pub equal_next : (players : ℕ) (ds : List (ℕ × ℕ)) (i j : ℕ) → AreDiscounts players ds → AreEqual ds → i < players → j < players → discount_at ds i ≡ discount_at ds j
equal_next players ds i j h equal l m =
    let zero_there : 0 < players = omega arith in
    let first = discount_there players ds 0 h zero_there in
    let at : (k : ℕ) → k < players → discount_at ds k ≡ discount_at ds 0 =
    λ k p. same_discounts (discount_at ds k) (discount_at ds 0) (discount_there players ds k h p) first (equal k (omega (arith, h.one_each))) in
    at i l ∙ sym (at j m)

-- the word of a discount is that of its parts
word_is : (d : ℕ × ℕ) (w : List ℕ) → IsDiscount d → d.1 ≤ 1024 → IsFractionWord (pos d.0) (pos d.1) w → w ≡ ratio_word (ratio_of d)
word_is d w h few g =
    let low = discount_lowest d h few in
    one_word (pos d.0) (pos d.1) w (ratio_word (ratio_of d)) low.positive g (record { ratio = ratio_of d; lowest = low; equal = refl; spelled = refl })

-- The discount at i has a word, or it is the one before.
pub shown_or_again : (players : ℕ) (ds : List (ℕ × ℕ)) (shown : List (List ℕ)) (i j : ℕ) → AreDiscounts players ds → AreDiscountWords ds shown → i < players → j < players → 1 ≤ i
    → ((i < length shown) × (word_at shown i ≡ ratio_word (ratio_of (discount_at ds i)))) ⊎ ((length shown ≤ i) × (discount_at ds i ≡ discount_at ds j))
shown_or_again players ds shown i j h w l m p =
    ⊎_elim
    (λ (here : i < length shown). inl (here, word_is (discount_at ds i) (word_at shown i) (discount_there players ds i h l) (discount_few players ds i h l) (w.fractions.each i here)))
    (λ (past : length shown ≤ i). inr (
      past,
      ⊎_elim
          (λ (a : AreEqual ds × (length shown ≡ 1)). equal_next players ds i j h a.0 l m)
          (λ (b : (AreEqual ds → ⊥) × (length shown ≡ length ds)). absurd (omega (arith, b.1, h.one_each)))
          w.shown,
    ))
    (cases_lt i (length shown))

some_shown : (players : ℕ) (ds : List (ℕ × ℕ)) (shown : List (List ℕ)) → AreDiscounts players ds → AreDiscountWords ds shown → 1 ≤ players → 0 < length shown
some_shown players ds shown h w p =
    ⊎_elim (λ (a : AreEqual ds × (length shown ≡ 1)). omega (arith, a.1)) (λ (b : (AreEqual ds → ⊥) × (length shown ≡ length ds)). omega (arith, b.1, h.one_each)) w.shown

-- ---- the loop
-- What is known after i discounts: they are the first i, the last one is `last`, the common multiple divides that of all, and the words behind are left.
pub record ReadDiscounts (players : ℕ) (ds : List (ℕ × ℕ)) (shown rest : List (List ℕ)) (i : ℕ) (taken : List (ℕ × ℕ)) (last : ℕ × ℕ) (common : ℤ) (words : List (List ℕ)) : Type 0 where
  pub taken_are : taken ≡ take i ds
  pub last_is : (j : ℕ) → j + 1 ≡ i → last ≡ discount_at ds j
  pub divides : (m : ℕ) → IsCommon ds m → unsigned_abs common ∣ m
  pub words_are : words ≡ drop i shown ++ (codes "unit" ∷ rest)

-- what is read of the first discount
pub first_taken : (players : ℕ) (ds : List (ℕ × ℕ)) (shown rest words after behind : List (List ℕ)) (fraction : Ratio) (last : ℕ × ℕ) (common : ℤ) → AreDiscounts players ds → AreDiscountWords ds shown → 1 ≤ players
    → words ≡ codes "discount" ∷ (shown ++ (codes "unit" ∷ rest)) → after ≡ drop 1 words → behind ≡ drop 1 after
    → ((r : Ratio) → IsLowest r → digit_count (ratio_word r) ≤ 36 → get_or after 0 [] ≡ ratio_word r → fraction ≡ r)
    → ((d : ℕ × ℕ) → IsDiscount d → d.1 ≤ 1024 → fraction ≡ ratio_of d → last ≡ d)
    → common ≡ pos last.1
    → ReadDiscounts players ds shown rest 1 (last ∷ []) last common behind
first_taken players ds shown rest words after behind fraction last common h w p e skipped next read first same =
    let there : 0 < players = omega arith in
    let some : 0 < length shown = some_shown players ds shown h w p in
    let d = discount_at ds 0 in
    let right = discount_there players ds 0 h there in
    let few = discount_few players ds 0 h there in
    let word : word_at shown 0 ≡ ratio_word (ratio_of d) = word_is d (word_at shown 0) right few (w.fractions.each 0 some) in
    let front : after ≡ word_at shown 0 ∷ (drop 1 shown ++ (codes "unit" ∷ rest)) =
    skipped ∙ ap (drop 1) e ∙ ap (λ (ws : List (List ℕ)). ws ++ (codes "unit" ∷ rest)) (drop_more shown 0 [] some) in
    let is : last ≡ d = first d right few (read (ratio_of d) (discount_lowest d right few) (discount_digits d right few) (ap (λ (ws : List (List ℕ)). get_or ws 0 []) front ∙ word)) in
    record {
      taken_are = ap (λ (x : ℕ × ℕ). x ∷ []) is ∙ sym (take_more ds 0 (0, 1) (omega (arith, h.one_each)));
      last_is = λ j q. let zero_is : 0 ≡ j = omega arith in is ∙ ap (discount_at ds) zero_is;
      divides = λ m c. subst (λ (n : ℕ). n ∣ m) (sym (ap unsigned_abs same ∙ ap (λ (x : ℕ × ℕ). x.1) is)) (All-get_or (λ (x : ℕ × ℕ). x.1 ∣ m) ds 0 (0, 1) (omega (arith, h.one_each)) c.multiple);
      words_are = next ∙ ap (drop 1) front;
    }

-- what is read of the next word: a discount, or the last one again
abbrev pub ReadsAgain : List (List ℕ) → ℕ × ℕ → ℤ → (ℕ × ℕ) × ℤ → List (List ℕ) → Type 0
ReadsAgain words last common result behind = get_or words 0 [] ≡ codes "unit" → (result ≡ (last, common)) × (behind ≡ words)

abbrev pub ReadsDiscount : List (List ℕ) → ℤ → (ℕ × ℕ) × ℤ → List (List ℕ) → Type 0
ReadsDiscount words common result behind =
    (d : ℕ × ℕ) (m : ℕ) → IsDiscount d → 0 < m → m ≤ 1024 → d.1 ∣ m → unsigned_abs common ∣ m → get_or words 0 [] ≡ ratio_word (ratio_of d) → (result.0 ≡ d) × (unsigned_abs result.1 ∣ m) × (behind ≡ drop 1 words)

-- one more discount
pub discount_taken : (players : ℕ) (ds : List (ℕ × ℕ)) (shown rest : List (List ℕ)) (i : ℕ) (taken : List (ℕ × ℕ)) (last : ℕ × ℕ) (common : ℤ) (words behind : List (List ℕ)) (result : (ℕ × ℕ) × ℤ)
    → AreDiscounts players ds → AreDiscountWords ds shown → 1 ≤ i → i < players → ReadDiscounts players ds shown rest i taken last common words
    → ReadsAgain words last common result behind → ReadsDiscount words common result behind
    → ReadDiscounts players ds shown rest (i + 1) (taken ++ result.0 ∷ []) result.0 result.1 behind
discount_taken players ds shown rest i taken last common words behind result h w p l k again read =
    let j : ℕ = i - 1 in
    let before : j + 1 ≡ i = omega arith in
    let j_there : j < players = omega arith in
    let d = discount_at ds i in
    let size : i < length ds = omega (arith, h.one_each) in
    let from : result.0 ≡ d → ((m : ℕ) → IsCommon ds m → unsigned_abs result.1 ∣ m) → behind ≡ drop (i + 1) shown ++ (codes "unit" ∷ rest) → ReadDiscounts players ds shown rest (i + 1) (taken ++ result.0 ∷ []) result.0 result.1 behind =
    λ is divides words_are. record {
      taken_are = ap (λ (xs : List (ℕ × ℕ)). xs ++ result.0 ∷ []) k.taken_are ∙ ap (λ (x : ℕ × ℕ). take i ds ++ x ∷ []) is ∙ sym (take_more ds i (0, 1) size);
      last_is = λ n q. let same : i ≡ n = omega arith in is ∙ ap (discount_at ds) same;
      divides = divides;
      words_are = words_are;
    } in
    ⊎_elim
    (λ (a : (i < length shown) × (word_at shown i ≡ ratio_word (ratio_of d))).
    let front : words ≡ word_at shown i ∷ (drop (i + 1) shown ++ (codes "unit" ∷ rest)) = k.words_are ∙ ap (λ (ws : List (List ℕ)). ws ++ (codes "unit" ∷ rest)) (drop_more shown i [] a.0) in
    let word : get_or words 0 [] ≡ ratio_word (ratio_of d) = ap (λ (ws : List (List ℕ)). get_or ws 0 []) front ∙ a.1 in
    let right = discount_there players ds i h l in
    let r = λ (m : ℕ) (c : IsCommon ds m). read d m right c.positive c.few (All-get_or (λ (x : ℕ × ℕ). x.1 ∣ m) ds i (0, 1) size c.multiple) (k.divides m c) word in
    let one = r h.common.0 h.common.1 in
    from one.0 (λ m c. (r m c).1) (one.2 ∙ ap (drop 1) front))
    (λ (b : (length shown ≤ i) × (d ≡ discount_at ds j)).
    let none : drop i shown ≡ [] = drop_all i shown b.0 in
    let none_more : drop (i + 1) shown ≡ [] = drop_all (i + 1) shown (omega (arith, b.0)) in
    let unit : words ≡ codes "unit" ∷ rest = k.words_are ∙ ap (λ (ws : List (List ℕ)). ws ++ (codes "unit" ∷ rest)) none in
    let r = again (ap (λ (ws : List (List ℕ)). get_or ws 0 []) unit) in
    from (ap (λ (x : (ℕ × ℕ) × ℤ). x.0) r.0 ∙ k.last_is j before ∙ sym b.1)
    (λ m c. subst (λ (z : ℤ). unsigned_abs z ∣ m) (sym (ap (λ (x : (ℕ × ℕ) × ℤ). x.1) r.0)) (k.divides m c))
    (r.1 ∙ unit ∙ ap (λ (ws : List (List ℕ)). ws ++ (codes "unit" ∷ rest)) (sym none_more)))
    (shown_or_again players ds shown i j h w l j_there p)

few_shown : (players : ℕ) (ds : List (ℕ × ℕ)) (shown : List (List ℕ)) → AreDiscounts players ds → AreDiscountWords ds shown → 1 ≤ players → length shown ≤ players
few_shown players ds shown h w p =
    ⊎_elim (λ (a : AreEqual ds × (length shown ≡ 1)). omega (arith, a.1)) (λ (b : (AreEqual ds → ⊥) × (length shown ≡ length ds)). omega (arith, b.1, h.one_each)) w.shown

pub discounts_end : (players : ℕ) (ds : List (ℕ × ℕ)) (shown rest : List (List ℕ)) (taken : List (ℕ × ℕ)) (last : ℕ × ℕ) (common : ℤ) (words : List (List ℕ))
    → AreDiscounts players ds → AreDiscountWords ds shown → 1 ≤ players → ReadDiscounts players ds shown rest players taken last common words → (taken ≡ ds) × (words ≡ codes "unit" ∷ rest)
discounts_end players ds shown rest taken last common words h w p k = (
  k.taken_are ∙ take_all players ds (omega (arith, h.one_each)),
  k.words_are ∙ ap (λ (ws : List (List ℕ)). ws ++ (codes "unit" ∷ rest)) (drop_all players shown (few_shown players ds shown h w p)),
)

pub common_size : (z : ℤ) → pos 1 ≤ℤ z → z ≤ℤ pos 1024 → (0 < unsigned_abs z) × (unsigned_abs z ≤ 1024)
common_size (pos n) h k = (omega (arith, ints), omega (arith, ints))
common_size (negsuc n) h k = absurd (omega (arith, ints))
