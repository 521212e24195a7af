-- The words of a text of lines.
use Rattle.std.proofs.Common.{◌≡◌, ℕ, zero, suc, ◌+◌, ◌/◌, ◌%◌, ◌<◌, ◌≤◌, ◌^◌, Bool, true, false, not, ◌&&◌, if◌then◌else◌, List, [], ◌∷◌, ◌++◌, length, get_or, take, refl, sym, ap, subst, ◌∙◌, arith, append_assoc, ℤ, pos, negsuc, neg_ℤ, ◌≤ℤ◌}
use Rattle.std.specs.Prelude.{All, codes, decimal}
use Rattle.std.specs.Fmt.{signed_decimal}
use Rattle.std.specs.Int.RustNames.{unsigned_abs}
use Rattle.std.specs.Ordering.{int_eq}
use Rattle.std.specs.Str.Parse.{AllDigits}
use Rattle.std.specs.Char.{digit_value}
use Rattle.std.proofs.Math.Nat.{div-le_self, mod-le}
use Rattle.std.proofs.lemmas.Bool.{true≢false}
use Rattle.std.proofs.lemmas.Bool.Decides.{nat_tests}
use Rattle.std.proofs.lemmas.Int.{ints}
use Rattle.std.proofs.lemmas.Fmt.{decimal_is_IsNumeral_wide}
use Rattle.std.proofs.lemmas.List.{take_more, length-take-le}
use Rattle.std.proofs.lemmas.List.Elements.{All-get_or}
use Rattle.std.proofs.lemmas.List.Splits.{slice_split_at}
use Rattle.pay_frac.specs.Ratio.{Ratio, IsLowest}
use Rattle.pay_frac.proofs.Digits.{digit_byte}
use Rattle.report_lines.specs.Spelled.{ratio_word}
use Rattle.report_lines.specs.Words.{is_break, words_of}
use Rattle.level_table.specs.declared.level.Level.{Level}
use Rattle.level_table.specs.declared.level.Level.TheVariants.{Empty, At}
use Rattle.level_table.specs.Levels.{IsSmall}
use Rattle.report_text.specs.declared.rules.Sizes.{Sizes}
use Rattle.report_text.specs.ReportText.{AreFractionWords, IsFractionWord, level_word, line, texts_below, word_at}
use Rattle.report_text.specs.Reading.{counts_words, levels_words, sizes_words}

-- no byte of the word ends a word
abbrev pub Clean : List ℕ → Type 0
Clean [] = Unit {0}
Clean (b ∷ bs) = (is_break b ≡ false) × Clean bs

abbrev pub AreClean : List (List ℕ) → Type 0
AreClean [] = Unit {0}
AreClean (w ∷ ws) = Clean w × AreClean ws

clean_all : (w : List ℕ) → Clean w → All (λ b. is_break b ≡ false) w
clean_all [] h k d l = absurd (omega arith)
clean_all (b ∷ bs) h zero d l = h.0
clean_all (b ∷ bs) h (suc k) d l = clean_all bs h.1 k d (omega arith)

line_nil : (name rest : List ℕ) → line name [] ++ rest ≡ name ++ 10 ∷ rest
line_nil name rest = simp append_assoc

line_cons : (name v rest : List ℕ) (vs : List (List ℕ)) → line name (v ∷ vs) ++ rest ≡ name ++ 32 ∷ (line v vs ++ rest)
line_cons name v rest vs = simp append_assoc

-- the words of a line, and those behind it
pub words_line : (name : List ℕ) (ws : List (List ℕ)) (rest : List ℕ) → Clean name → AreClean ws → words_of (line name ws ++ rest) ≡ name ∷ (ws ++ words_of rest)
words_line name [] rest c cs = ap words_of (line_nil name rest) ∙ slice_split_at is_break name 10 rest (clean_all name c) refl
words_line name (v ∷ vs) rest c cs =
    ap words_of (line_cons name v rest vs)
    ∙ slice_split_at is_break name 32 (line v vs ++ rest) (clean_all name c) refl
    ∙ ap (λ (t : List (List ℕ)). name ∷ t) (words_line v vs rest cs.0 cs.1)

-- ---- words that stay whole
abbrev all_clean : List ℕ → Bool
all_clean [] = true
all_clean (b ∷ bs) = not (is_break b) && all_clean bs

both : (a b : Bool) → (not a && b) ≡ true → (a ≡ false) × (b ≡ true)
both true b e = absurd (true≢false (sym e))
both false b e = (refl, e)

pub clean_from : (w : List ℕ) → all_clean w ≡ true → Clean w
clean_from [] e = tt
clean_from (b ∷ bs) e = let k = both (is_break b) (all_clean bs) e in (k.0, clean_from bs k.1)

-- ---- numbers
digit_clean : (c : ℕ) → digit_value c < 10 → is_break c ≡ false
digit_clean c h = let k = digit_byte c h in let low : 48 ≤ c = k.0 in let high : c < 58 = k.1 in grind (arith, nat_tests)

digits_clean : (ds : List ℕ) → AllDigits 10 ds → Clean ds
digits_clean [] h = tt
digits_clean (d ∷ ds) h = (digit_clean d h.0, digits_clean ds h.1)

pub decimal_clean : (n : ℕ) → n < 10 ^ 64 → Clean (decimal n)
decimal_clean n h = digits_clean (decimal n) (decimal_is_IsNumeral_wide n h).0.1

pub signed_clean : (x : ℤ) → unsigned_abs x < 10 ^ 64 → Clean (signed_decimal x)
signed_clean (pos n) h = decimal_clean n h
signed_clean (negsuc n) h = (refl, decimal_clean (suc n) h)

pub small_abs : (x : ℤ) → neg_ℤ (pos (2 ^ 50)) ≤ℤ x → x ≤ℤ pos (2 ^ 50) → unsigned_abs x < 10 ^ 64
small_abs (pos n) h k = omega (arith, ints)
small_abs (negsuc n) h k = omega (arith, ints)

pub level_clean : (l : Level) → IsSmall l → Clean (level_word l)
level_clean Empty h = clean_from (codes "empty") refl
level_clean (At x) h = signed_clean x (small_abs x h.0 h.1)

-- ---- rows
levels_words_push : (k row : ℕ) (ls : List Level) (l : Level) (rest : List (List ℕ))
    → levels_words k row (ls ++ l ∷ []) ++ rest ≡ levels_words k row ls ++ (codes "row" ∷ decimal ((row + length ls) / k) ∷ decimal ((row + length ls) % k) ∷ level_word l ∷ rest)
levels_words_push k row [] l rest =
    let e : row ≡ row + 0 = omega arith in
    ap (λ (m : ℕ). codes "row" ∷ decimal (m / k) ∷ decimal (m % k) ∷ level_word l ∷ rest) e
levels_words_push k row (x ∷ ls) l rest =
    let e : row + 1 + length ls ≡ row + length (x ∷ ls) = omega arith in
    ap (λ (t : List (List ℕ)). codes "row" ∷ decimal (row / k) ∷ decimal (row % k) ∷ level_word x ∷ t) (levels_words_push k (row + 1) ls l rest)
    ∙ ap (λ (m : ℕ). levels_words k row (x ∷ ls) ++ (codes "row" ∷ decimal (m / k) ∷ decimal (m % k) ∷ level_word l ∷ rest)) e

below : (m n : ℕ) → m ≤ n → n < 2 ^ 32 → m < 10 ^ 64
below m n h k = omega arith

abbrev row_text : ℕ → List Level → ℕ → List ℕ
row_text k ls row = line (codes "row") (decimal (row / k) ∷ decimal (row % k) ∷ level_word (get_or ls row Empty) ∷ [])

words_row : (k row : ℕ) (l : Level) (rest : List ℕ) → k < 2 ^ 32 → row < 2 ^ 32 → IsSmall l
    → words_of (line (codes "row") (decimal (row / k) ∷ decimal (row % k) ∷ level_word l ∷ []) ++ rest) ≡ codes "row" ∷ decimal (row / k) ∷ decimal (row % k) ∷ level_word l ∷ words_of rest
words_row k row l rest f g small =
    let d : row / k < 10 ^ 64 = below (row / k) row (div-le_self row k) g in
    let m : row % k < 10 ^ 64 = below (row % k) row (mod-le row k) g in
    words_line (codes "row") (decimal (row / k) ∷ decimal (row % k) ∷ level_word l ∷ []) rest (clean_from (codes "row") refl) (decimal_clean (row / k) d, (decimal_clean (row % k) m, (level_clean l small, tt)))

-- the words of the rows below n, and those behind them
pub words_rows : (k n : ℕ) (ls : List Level) (rest : List ℕ) → n ≤ length ls → k < 2 ^ 32 → n < 2 ^ 32 → All IsSmall ls
    → words_of (texts_below (row_text k ls) n ++ rest) ≡ levels_words k 0 (take n ls) ++ words_of rest
words_rows k zero ls rest l f g small = refl
words_rows k (suc n) ls rest l f g small =
    let l' : n < length ls = omega arith in
    let lengths : length (take n ls) ≡ n = length-take-le n ls (omega arith) in
    let behind : n ≡ 0 + length (take n ls) = omega arith in
    let more : take (n + 1) ls ≡ take n ls ++ get_or ls n Empty ∷ [] = take_more ls n Empty l' in
    let again : n + 1 ≡ suc n = omega arith in
    ap words_of (append_assoc (texts_below (row_text k ls) n) (row_text k ls n) rest)
    ∙ words_rows k n ls (row_text k ls n ++ rest) (omega arith) f (omega arith) small
    ∙ ap (λ (t : List (List ℕ)). levels_words k 0 (take n ls) ++ t) (words_row k n (get_or ls n Empty) rest f (omega arith) (All-get_or IsSmall ls n Empty l' small))
    ∙ ap (λ (m : ℕ). levels_words k 0 (take n ls) ++ (codes "row" ∷ decimal (m / k) ∷ decimal (m % k) ∷ level_word (get_or ls n Empty) ∷ words_of rest)) behind
    ∙ sym (levels_words_push k 0 (take n ls) (get_or ls n Empty) (words_of rest))
    ∙ ap (λ (t : List Level). levels_words k 0 t ++ words_of rest) (sym more ∙ ap (λ (m : ℕ). take m ls) again)

-- ---- fractions
clean_append : (v w : List ℕ) → Clean v → Clean w → Clean (v ++ w)
clean_append [] w c d = d
clean_append (b ∷ v) w c d = (c.0, clean_append v w c.1 d)

abs_wide : (n : ℕ) → n < 2 ^ 127 → n < 10 ^ 64
abs_wide n h = omega arith

pub ratio_clean : (r : Ratio) → IsLowest r → Clean (ratio_word r)
ratio_clean r low =
    let num : Clean (signed_decimal r.num) = signed_clean r.num (abs_wide (unsigned_abs r.num) low.num_fits) in
    let den : Clean (signed_decimal r.den) = signed_clean r.den (abs_wide (unsigned_abs r.den) low.den_fits) in
    let by : (b : Bool) → Clean (if b then signed_decimal r.num else (signed_decimal r.num ++ 47 ∷ signed_decimal r.den)) =
    λ b. elim b as (λ b. Clean (if b then signed_decimal r.num else (signed_decimal r.num ++ 47 ∷ signed_decimal r.den))) [
      | true ↦ num
      | false ↦ clean_append (signed_decimal r.num) (47 ∷ signed_decimal r.den) num (refl, den)
    ] in
    by (int_eq r.den (pos 1))

pub fraction_clean : (num den : ℤ) (w : List ℕ) → IsFractionWord num den w → Clean w
fraction_clean num den w h = subst Clean (sym h.spelled) (ratio_clean h.ratio h.lowest)

are_clean : (ws : List (List ℕ)) → ((i : ℕ) → i < length ws → Clean (word_at ws i)) → AreClean ws
are_clean [] h = tt
are_clean (w ∷ ws) h = (h 0 (omega arith), are_clean ws (λ i l. h (suc i) (omega arith)))

pub fractions_clean : (count : ℕ) (num den : ℕ → ℤ) (ws : List (List ℕ)) → AreFractionWords count num den ws → AreClean ws
fractions_clean count num den ws h = are_clean ws (λ i l. fraction_clean (num i) (den i) (word_at ws i) (h.each i (omega (arith, h.one_each))))

-- ---- the head
words_step : (name : List ℕ) (ws : List (List ℕ)) (text : List ℕ) (words : List (List ℕ)) → Clean name → AreClean ws → words_of text ≡ words → words_of (line name ws ++ text) ≡ name ∷ (ws ++ words)
words_step name ws text words c cs e = words_line name ws text c cs ∙ ap (λ (t : List (List ℕ)). name ∷ (ws ++ t)) e

ten_pieces : (a b c d e f g h i j r : List ℕ) → (a ++ b ++ c ++ d ++ e ++ f ++ g ++ h ++ i ++ j) ++ r ≡ a ++ (b ++ (c ++ (d ++ (e ++ (f ++ (g ++ (h ++ (i ++ (j ++ r)))))))))
ten_pieces a b c d e f g h i j r = simp append_assoc

pub head_words : (status : List ℕ) (z : Sizes) (shown : List (List ℕ)) (unit : ℤ) (slack sweeps solves : ℕ) (rest : List ℕ)
    → Clean status → AreClean shown
    → z.players < 10 ^ 64 → z.states < 10 ^ 64 → z.directions < 10 ^ 64 → unsigned_abs unit < 10 ^ 64 → slack < 10 ^ 64 → sweeps < 10 ^ 64 → solves < 10 ^ 64
    → words_of ((line (codes "payoff") (codes "1" ∷ [])
    ++ line (codes "status") (status ∷ [])
    ++ line (codes "players") (decimal z.players ∷ [])
    ++ line (codes "states") (decimal z.states ∷ [])
    ++ line (codes "directions") (decimal z.directions ∷ [])
    ++ line (codes "discount") shown
    ++ line (codes "unit") (signed_decimal unit ∷ [])
    ++ line (codes "slack") (decimal slack ∷ [])
    ++ line (codes "sweeps") (decimal sweeps ∷ [])
    ++ line (codes "solves") (decimal solves ∷ [])) ++ rest)
    ≡ codes "payoff" ∷ codes "1" ∷ codes "status" ∷ status ∷ (sizes_words z ++ (codes "discount" ∷ (shown ++ (counts_words unit slack sweeps solves ++ words_of rest))))
head_words status z shown unit slack sweeps solves rest c cs p1 p2 p3 p4 p5 p6 p7 =
    let t10 : List ℕ = line (codes "solves") (decimal solves ∷ []) ++ rest in
    let w10 : List (List ℕ) = codes "solves" ∷ ((decimal solves ∷ []) ++ words_of rest) in
    let e10 : words_of t10 ≡ w10 = words_line (codes "solves") (decimal solves ∷ []) rest (clean_from (codes "solves") refl) (decimal_clean solves p7, tt) in
    let t9 : List ℕ = line (codes "sweeps") (decimal sweeps ∷ []) ++ t10 in
    let w9 : List (List ℕ) = codes "sweeps" ∷ ((decimal sweeps ∷ []) ++ w10) in
    let e9 : words_of t9 ≡ w9 = words_step (codes "sweeps") (decimal sweeps ∷ []) t10 w10 (clean_from (codes "sweeps") refl) (decimal_clean sweeps p6, tt) e10 in
    let t8 : List ℕ = line (codes "slack") (decimal slack ∷ []) ++ t9 in
    let w8 : List (List ℕ) = codes "slack" ∷ ((decimal slack ∷ []) ++ w9) in
    let e8 : words_of t8 ≡ w8 = words_step (codes "slack") (decimal slack ∷ []) t9 w9 (clean_from (codes "slack") refl) (decimal_clean slack p5, tt) e9 in
    let t7 : List ℕ = line (codes "unit") (signed_decimal unit ∷ []) ++ t8 in
    let w7 : List (List ℕ) = codes "unit" ∷ ((signed_decimal unit ∷ []) ++ w8) in
    let e7 : words_of t7 ≡ w7 = words_step (codes "unit") (signed_decimal unit ∷ []) t8 w8 (clean_from (codes "unit") refl) (signed_clean unit p4, tt) e8 in
    let t6 : List ℕ = line (codes "discount") (shown) ++ t7 in
    let w6 : List (List ℕ) = codes "discount" ∷ ((shown) ++ w7) in
    let e6 : words_of t6 ≡ w6 = words_step (codes "discount") (shown) t7 w7 (clean_from (codes "discount") refl) cs e7 in
    let t5 : List ℕ = line (codes "directions") (decimal z.directions ∷ []) ++ t6 in
    let w5 : List (List ℕ) = codes "directions" ∷ ((decimal z.directions ∷ []) ++ w6) in
    let e5 : words_of t5 ≡ w5 = words_step (codes "directions") (decimal z.directions ∷ []) t6 w6 (clean_from (codes "directions") refl) (decimal_clean z.directions p3, tt) e6 in
    let t4 : List ℕ = line (codes "states") (decimal z.states ∷ []) ++ t5 in
    let w4 : List (List ℕ) = codes "states" ∷ ((decimal z.states ∷ []) ++ w5) in
    let e4 : words_of t4 ≡ w4 = words_step (codes "states") (decimal z.states ∷ []) t5 w5 (clean_from (codes "states") refl) (decimal_clean z.states p2, tt) e5 in
    let t3 : List ℕ = line (codes "players") (decimal z.players ∷ []) ++ t4 in
    let w3 : List (List ℕ) = codes "players" ∷ ((decimal z.players ∷ []) ++ w4) in
    let e3 : words_of t3 ≡ w3 = words_step (codes "players") (decimal z.players ∷ []) t4 w4 (clean_from (codes "players") refl) (decimal_clean z.players p1, tt) e4 in
    let t2 : List ℕ = line (codes "status") (status ∷ []) ++ t3 in
    let w2 : List (List ℕ) = codes "status" ∷ ((status ∷ []) ++ w3) in
    let e2 : words_of t2 ≡ w2 = words_step (codes "status") (status ∷ []) t3 w3 (clean_from (codes "status") refl) (c, tt) e3 in
    let t1 : List ℕ = line (codes "payoff") (codes "1" ∷ []) ++ t2 in
    let w1 : List (List ℕ) = codes "payoff" ∷ ((codes "1" ∷ []) ++ w2) in
    let e1 : words_of t1 ≡ w1 = words_step (codes "payoff") (codes "1" ∷ []) t2 w2 (clean_from (codes "payoff") refl) (clean_from (codes "1") refl, tt) e2 in
    ap words_of (ten_pieces (line (codes "payoff") (codes "1" ∷ [])) (line (codes "status") (status ∷ [])) (line (codes "players") (decimal z.players ∷ []))
    (line (codes "states") (decimal z.states ∷ [])) (line (codes "directions") (decimal z.directions ∷ [])) (line (codes "discount") shown)
    (line (codes "unit") (signed_decimal unit ∷ [])) (line (codes "slack") (decimal slack ∷ [])) (line (codes "sweeps") (decimal sweeps ∷ [])) (line (codes "solves") (decimal solves ∷ [])) rest)
    ∙ e1
