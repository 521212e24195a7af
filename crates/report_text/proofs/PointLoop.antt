-- The parts of a point, which are read one after another.
use Rattle.std.proofs.Common.{◌≡◌, ◌≢◌, ⊎_elim, ℕ, zero, suc, ◌+◌, ◌*◌, ◌<◌, ◌≤◌, ◌^◌, List, [], ◌∷◌, ◌++◌, length, get_or, set, drop, sym, ap, subst, ◌∙◌, arith, ℤ, pos, ◌*ℤ◌, ◌<ℤ◌, ◌≤ℤ◌}
use Rattle.std.specs.Int.{◌∣◌}
use Rattle.std.specs.Int.RustNames.{unsigned_abs}
use Rattle.std.proofs.Math.Nat.{le_of_dvd, one-dvd}
use Rattle.std.proofs.lemmas.Nat.Gcd.{dvd_trans}
use Rattle.std.proofs.lemmas.Bool.{cases_eq}
use Rattle.std.proofs.lemmas.Int.{ints}
use Rattle.std.proofs.lemmas.List.{drop_all, drop_more, get_or_default, get_or-set_other, get_or-set_same}
use Rattle.exact_algebra.proofs.Order.{positive_is}
use Rattle.game_model.specs.SelfGeneration.{part}
use Rattle.pay_frac.specs.Ratio.{Ratio, IsLowest, Equals}
use Rattle.pay_frac.specs.Spelling.{digit_count}
use Rattle.lp_core.specs.declared.Point.{Point}
use Rattle.report_lines.specs.Spelled.{ratio_word}
use Rattle.report_text.specs.ReportText.{AreFractionWords, word_at}
use Rattle.report_text.specs.Reading.{IsPart, ratio_at, zero_ratio}
use Rattle.report_text.specs.Rules.{IsSamePoint, IsShortPoint}
use Rattle.report_text.proofs.Points.{lowest_divides, lowest_small, positive_size, ratio_digits, same_part, size_few}

-- ---- a list of parts
pub part_divides : (parts : List Ratio) (k : ℕ) (d : Ratio) (den den' : ℤ) → k < length parts → den' ≡ den → IsPart den (ratio_at parts k) → unsigned_abs (get_or parts k d).den ∣ unsigned_abs den'
part_divides parts k d den den' l e h =
    subst (λ (z : ℤ). unsigned_abs (get_or parts k d).den ∣ unsigned_abs z) (sym e)
    (subst (λ (r : Ratio). unsigned_abs r.den ∣ unsigned_abs den) (get_or_default parts k zero_ratio d l) h.divides)

pub part_equal : (parts : List Ratio) (k : ℕ) (d : Ratio) (over over' den den' : ℤ) → k < length parts → over' ≡ over → den' ≡ den
    → over *ℤ (get_or parts k d).den ≡ (get_or parts k d).num *ℤ den' → over' *ℤ (ratio_at parts k).den ≡ (ratio_at parts k).num *ℤ den
part_equal parts k d over over' den den' l e g h =
    let same : get_or parts k d ≡ ratio_at parts k = get_or_default parts k d zero_ratio l in
    ap (λ (z : ℤ). z *ℤ (ratio_at parts k).den) e
    ∙ ap (λ (r : Ratio). over *ℤ r.den) (sym same)
    ∙ h
    ∙ ap (λ (r : Ratio). r.num *ℤ den') same
    ∙ ap (λ (z : ℤ). (ratio_at parts k).num *ℤ z) g

pub below_three : (P : ℕ → Type 0) → P 0 → P 1 → P 2 → (k : ℕ) → k < 3 → P k
below_three P a b c zero l = a
below_three P a b c (suc zero) l = b
below_three P a b c (suc (suc zero)) l = c
below_three P a b c (suc (suc (suc k))) l = absurd (omega arith)

pub zero_part : (r : Ratio) (den : ℤ) → r ≡ zero_ratio → IsPart den r
zero_part r den e = subst (IsPart den) (sym e) (record { positive = omega (arith, ints); divides = one-dvd (unsigned_abs den); small = omega arith })

put_same : (parts : List Ratio) (i : ℕ) (r : Ratio) (n : ℕ) → i < length parts → n ≡ i → ratio_at (set parts i r) n ≡ r
put_same parts i r n l e = ap (ratio_at (set parts i r)) e ∙ get_or-set_same parts i r zero_ratio l

put_other : (parts : List Ratio) (i : ℕ) (r : Ratio) (n : ℕ) → n ≢ i → ratio_at (set parts i r) n ≡ ratio_at parts n
put_other parts i r n e = get_or-set_other parts i n r zero_ratio e

-- one more part, and a multiple of the denominators
pub parts_more : (parts : List Ratio) (i : ℕ) (r : Ratio) (den den' : ℤ) → i < length parts → unsigned_abs den ∣ unsigned_abs den' → IsLowest r → unsigned_abs r.den ∣ unsigned_abs den'
    → unsigned_abs r.num ≤ 2 ^ 50 * unsigned_abs r.den → ((k : ℕ) → k < 3 → IsPart den (ratio_at parts k)) → (k : ℕ) → k < 3 → IsPart den' (ratio_at (set parts i r) k)
parts_more parts i r den den' l d low here small all k m =
    ⊎_elim
    (λ (e : k ≡ i). subst (IsPart den') (sym (put_same parts i r k l e)) (record { positive = low.positive; divides = here; small = small }))
    (λ (e : k ≢ i).
    let old = all k m in
    subst (IsPart den') (sym (put_other parts i r k e)) (record { positive = old.positive; divides = dvd_trans (unsigned_abs (ratio_at parts k).den) old.divides d; small = old.small }))
    (cases_eq k i)

-- ---- what is read
-- What is known after i parts: each is that of the point, their common multiple divides m, and the words behind are left.
pub record ReadParts (y : Point) (m : ℕ) (words rest : List (List ℕ)) (i : ℕ) (parts : List Ratio) (den : ℤ) (left : List (List ℕ)) : Type 0 where
  pub same : (k : ℕ) → k < i → Equals (ratio_at parts k) (part y.num k) y.den
  pub divides : unsigned_abs den ∣ m
  pub words_are : left ≡ drop i words ++ rest

pub no_part : (y : Point) (m : ℕ) (words rest left : List (List ℕ)) (parts : List Ratio) (den : ℤ) → den ≡ pos 1 → left ≡ words ++ rest → ReadParts y m words rest 0 parts den left
no_part y m words rest left parts den e w =
    record { same = λ k l. absurd (omega arith); divides = subst (λ (z : ℤ). unsigned_abs z ∣ m) (sym e) (one-dvd m); words_are = w }

few_size : (a b : ℕ) → a ≤ 2 ^ 50 * b → b ≤ 2 ^ 20 → a < 10 ^ 22
few_size a b h k = omega (arith, h, k)

-- the digits of a part
part_digits : (players : ℕ) (y : Point) (i : ℕ) (r : Ratio) → (h : IsShortPoint players y) → i < players → IsLowest r → Equals r (part y.num i) y.den → digit_count (ratio_word r) ≤ 36
part_digits players y i r h l low e =
    let n = h.whole i l in
    let d : unsigned_abs r.den ∣ h.denominator = lowest_divides r (part y.num i) y.den n.0 h.denominator low h.positive e n.1 in
    let some : 0 < h.denominator = h.some in
    let few : h.denominator ≤ 2 ^ 20 = h.few in
    let small : unsigned_abs r.den ≤ h.denominator = le_of_dvd some d in
    let small' : unsigned_abs r.den ≤ 2 ^ 20 = omega arith in
    let size : unsigned_abs r.num < 10 ^ 22 = few_size (unsigned_abs r.num) (unsigned_abs r.den) (lowest_small r (part y.num i) y.den (2 ^ 50) h.positive e (h.small i l)) small' in
    ratio_digits r 22 7 (omega arith) (omega arith) (omega arith) size (omega arith) low

pub part_taken : (players : ℕ) (y : Point) (words rest left behind : List (List ℕ)) (i : ℕ) (parts : List Ratio) (den den' : ℤ) (fraction r : Ratio) → (h : IsShortPoint players y)
    → AreFractionWords players (part y.num) (λ i. y.den) words → i < players → i < length parts
    → ReadParts y h.denominator words rest i parts den left
    → ((q : Ratio) → IsLowest q → digit_count (ratio_word q) ≤ 36 → get_or left 0 [] ≡ ratio_word q → fraction ≡ q) → behind ≡ drop 1 left
    → ((m : ℕ) → 0 < m → m ≤ 2 ^ 20 → unsigned_abs fraction.den ∣ m → unsigned_abs den ∣ m → unsigned_abs fraction.num ≤ 2 ^ 50 * unsigned_abs fraction.den → (r ≡ fraction) × (unsigned_abs den' ∣ m))
    → ReadParts y h.denominator words rest (i + 1) (set parts i r) den' behind
part_taken players y words rest left behind i parts den den' fraction r h w l there k read next kept =
    let word = w.each i l in
    let q = word.ratio in
    let here : i < length words = omega (arith, w.one_each) in
    let front : left ≡ word_at words i ∷ (drop (i + 1) words ++ rest) = k.words_are ∙ ap (λ (ws : List (List ℕ)). ws ++ rest) (drop_more words i [] here) in
    let is : fraction ≡ q = read q word.lowest (part_digits players y i q h l word.lowest word.equal) (ap (λ (ws : List (List ℕ)). get_or ws 0 []) front ∙ word.spelled) in
    let n = h.whole i l in
    let divides : unsigned_abs q.den ∣ h.denominator = lowest_divides q (part y.num i) y.den n.0 h.denominator word.lowest h.positive word.equal n.1 in
    let small : unsigned_abs q.num ≤ 2 ^ 50 * unsigned_abs q.den = lowest_small q (part y.num i) y.den (2 ^ 50) h.positive word.equal (h.small i l) in
    let p = kept h.denominator h.some h.few (subst (λ (x : Ratio). unsigned_abs x.den ∣ h.denominator) (sym is) divides) k.divides (subst (λ (x : Ratio). unsigned_abs x.num ≤ 2 ^ 50 * unsigned_abs x.den) (sym is) small) in
    let r_is : r ≡ q = p.0 ∙ is in
    record {
      same = λ n m.
          ⊎_elim
          (λ (e : n ≡ i).
          subst (λ (x : Ratio). Equals x (part y.num n) y.den) (sym (put_same parts i r n there e ∙ r_is)) (subst (λ (a : ℕ). Equals q (part y.num a) y.den) (sym e) word.equal))
          (λ (e : n ≢ i). subst (λ (x : Ratio). Equals x (part y.num n) y.den) (sym (put_other parts i r n e)) (k.same n (omega arith)))
          (cases_eq n i);
      divides = p.1;
      words_are = next ∙ ap (drop 1) front;
    }

pub parts_end : (players : ℕ) (y result : Point) (m : ℕ) (words rest left : List (List ℕ)) (parts : List Ratio) (den : ℤ) → players ≤ 3 → AreFractionWords players (part y.num) (λ i. y.den) words
    → ReadParts y m words rest players parts den left → ((k : ℕ) → k < 3 → IsPart den (ratio_at parts k)) → result.den ≡ den
    → ((k : ℕ) → k < 3 → part result.num k *ℤ (ratio_at parts k).den ≡ (ratio_at parts k).num *ℤ den)
    → IsSamePoint players y result × (left ≡ rest)
parts_end players y result m words rest left parts den few w k all e over = (
  λ i l.
      let three : i < 3 = omega arith in
      ap (λ (z : ℤ). part y.num i *ℤ z) e ∙ same_part (ratio_at parts i) (part result.num i) (part y.num i) den y.den (all i three).positive (over i three) (k.same i l),
  k.words_are ∙ ap (λ (ws : List (List ℕ)). ws ++ rest) (drop_all players words (omega (arith, w.one_each))),
)

pub short_point : (players : ℕ) (result : Point) (den : ℤ) → players ≤ 3 → pos 1 ≤ℤ den → den ≤ℤ pos (2 ^ 20) → result.den ≡ den → ((k : ℕ) → k < 3 → unsigned_abs (part result.num k) ≤ 2 ^ 50 * unsigned_abs den)
    → IsShortPoint players result
short_point players result den few low high e small =
    let p : pos 0 <ℤ den = omega (arith, ints, low) in
    let there : pos 0 <ℤ result.den = subst (λ (z : ℤ). pos 0 <ℤ z) (sym e) p in
    record {
      positive = there;
      denominator = unsigned_abs den;
      some = positive_size den p;
      few = size_few den low high;
      whole = λ i l. (part result.num i, ap (λ (z : ℤ). part result.num i *ℤ z) (sym (positive_is den p) ∙ sym e));
      small = λ i l. subst (λ (z : ℤ). unsigned_abs (part result.num i) ≤ 2 ^ 50 * unsigned_abs z) (sym e) (small i (omega arith));
    }
