-- The canonical text of a correspondence is one that has it.
use Rattle.std.proofs.Common.{◌≡◌, ℕ, suc, ◌+◌, ◌-◌, ◌<◌, ◌≤◌, ◌^◌, true, List, [], ◌∷◌, ◌++◌, length, map, Option, Some, None, Result, Ok, All, refl, sym, ◌∙◌, ap, arith, append_assoc, codes, decimal, lit<, ℤ}
use Rattle.std.specs.List.{flat_map}
use Rattle.std.specs.Option.{option_map}
use Rattle.pay_frac.specs.Ratio.{Ratio}
use Rattle.pay_frac.specs.Number.{lowest}
use Rattle.token_text.specs.Tokens.{Token, word, Stream, rest}
use Rattle.token_text.proofs.Written.{written, ends_word, whole_text, blank_written, open_written, close_written, word_written}
use Rattle.nfg_text.specs.declared.fault.NfgFault.{NfgFault}
use Rattle.nfg_text.specs.declared.what.What.TheVariants.{Whole, Weight}
use Rattle.nfg_text.specs.Wanted.{◌>>=◌, whole_in, exact_at, open_at, close_at, end_at, number_at, many_at, behind, bad_past}
use Rattle.nfg_text.specs.Writable.{IsShort}
use Rattle.nfg_text.specs.Canonical.{braced, counts_text, ratio_text}
use Rattle.nfg_text.proofs.Decimals.{whole_again, limited_again, decimal_word}
use Rattle.nfg_text.proofs.Loops.{many_end, behind_none}
use Rattle.nfg_text.proofs.Written.{IsRead, Items, read_blank, passed_blank, open_passed, close_passed, exact_passed, number_read, end_passed, all_first, all_others, items_end, times_read, many_read, many_closed, braced_append}
use Rattle.game_model.specs.Game.{DynamicGame, states}
use Rattle.game_model.specs.SelfGeneration.{Entry}
use Rattle.selfgen_check.specs.declared.written.Written.{Written}
use Rattle.selfgen_check.specs.Grammar.{whole_as, whole_at, weight_as, weight_at, point_at, profile_at, pair_or_close_at, pairs_end_at, pairs_past, lottery_at, whole_or_close_at, wholes_at, entry_at, entry_or_close_at, entries_end_at, entries_past, state_at, file_at, written_of}
use Rattle.selfgen_check.specs.Canonical.{part_text, pair_text, entry_line, state_lines, canonical}
use Rattle.selfgen_check.specs.Promises.{Promises}
use Rattle.selfgen_check.specs.Spelled.{AreSpelled, IsPair, IsSmall, IsSpelled, IsWritable, fractions, fractions_of}
use Rattle.selfgen_check.proofs.Steps.{item_shorter}

-- ---- whole numbers
fits : (n : ℕ) → IsSmall n → n < 10 ^ 64
fits n k = let wide : 4294967295 < 10 ^ 64 = lit< tt in omega arith

short : (n : ℕ) → IsSmall n → n < 10 ^ 36
short n k = let few : 4294967295 < 10 ^ 36 = lit< tt in omega arith

whole_is : (at n : ℕ) → IsSmall n → whole_as (record { at = at; kind = word (decimal n) }) (whole_in (word (decimal n))) ≡ Ok n
whole_is at n k =
    ap (λ (o : Option ℕ). whole_as (record { at = at; kind = word (decimal n) }) (option_map (λ (m : ℕ). (m, length (decimal n))) o)) (whole_again n (fits n k)) ∙ limited_again Whole 4294967295 at n k (short n k) (fits n k)

whole_read : (n : ℕ) (after : List ℕ) → IsSmall n → ends_word after ≡ true → IsRead whole_at (decimal n ++ after) n after
unfolding whole_at
whole_read n after k e at =
    let w : List ℕ = decimal n in
    let s : Stream = written at (w ++ after) in
    let b = word_written at w after (decimal_word n (fits n k)) e in
    let first : Token → Result (ℕ × Stream) NfgFault = λ u. whole_as u (whole_in u.kind) >>= λ n. Ok (n, rest s) in
    let step : Result ℕ NfgFault → Result (ℕ × Stream) NfgFault = λ r. r >>= λ n. Ok (n, rest s) in
    let left : Stream → Result (ℕ × Stream) NfgFault = λ s. Ok (n, s) in
    (at + length w, ap first b.token ∙ ap step (whole_is at n k) ∙ ap left b.left)

wholes_items : Items (λ n. 32 ∷ decimal n) IsSmall whole_at
wholes_items = record {
  each = λ n after k e. read_blank whole_at (decimal n ++ after) n after (whole_read n after k e);
  starts = λ n after. refl;
}

number_read_ : (n : ℕ) (after : List ℕ) → IsSmall n → ends_word after ≡ true → IsRead whole_or_close_at (decimal n ++ after) (Some n) after
unfolding whole_or_close_at
number_read_ n after k e at =
    let w : List ℕ = decimal n in
    let s : Stream = written at (w ++ after) in
    let b = word_written at w after (decimal_word n (fits n k)) e in
    let token = b.token in
    let step : Result ℕ NfgFault → Result (Option ℕ × Stream) NfgFault = λ r. r >>= λ n. Ok (Some n, rest s) in
    let first : Token → Result (Option ℕ × Stream) NfgFault = λ u. whole_as u (whole_in (word w)) >>= λ n. Ok (Some n, rest s) in
    let left : Stream → Result (Option ℕ × Stream) NfgFault = λ s. Ok (Some n, s) in
    (at + length w, rw (token, whole_or_close_at) (ap first b.token ∙ ap step (whole_is at n k) ∙ ap left b.left))

blank_number : (n : ℕ) (after : List ℕ) → IsSmall n → ends_word after ≡ true → IsRead whole_or_close_at ((32 ∷ decimal n) ++ after) (Some n) after
blank_number n after k e = read_blank whole_or_close_at (decimal n ++ after) (Some n) after (number_read_ n after k e)

numbers_closed : (after : List ℕ) (at : ℕ) → whole_or_close_at (written at (32 ∷ 125 ∷ after)) ≡ Ok (None, written (at + 1 + 1) after)
unfolding whole_or_close_at
numbers_closed after at =
    let b = close_written (at + 1) after in
    let token = b.token in
    let left : Stream → Result (Option ℕ × Stream) NfgFault = λ s. Ok (None, s) in
    ap whole_or_close_at (blank_written at 32 (125 ∷ after) refl) ∙ rw (token, whole_or_close_at) (ap left b.left)

-- each takes a token at least
room_for : (ns : List ℕ) (tail : List ℕ) (at : ℕ) → ends_word tail ≡ true → All IsSmall ns → length ns ≤ length (written at (counts_text ns ++ tail)).tokens
room_for [] tail at e a = omega arith
room_for (n ∷ ns) tail at e a =
    let more : List ℕ = counts_text ns ++ tail in
    let s : Stream = written at (((32 ∷ decimal n) ++ counts_text ns) ++ tail) in
    let first = blank_number n more (all_first IsSmall n ns a) (items_end (λ n. 32 ∷ decimal n) ns tail (λ n after. refl) e) at in
    let here : whole_or_close_at s ≡ Ok (Some n, written first.0 more) = ap (λ b. whole_or_close_at (written at b)) (append_assoc (32 ∷ decimal n) (counts_text ns) tail) ∙ first.1 in
    let t : Stream = written first.0 more in
    let shorter : length t.tokens < length s.tokens = item_shorter s t n here in
    let others : length ns ≤ length t.tokens = room_for ns tail first.0 e (all_others IsSmall n ns a) in
    let all : suc (length ns) ≤ length s.tokens = omega arith in
    all

numbers_read : (ns after : List ℕ) → All IsSmall ns → IsRead wholes_at (counts_text ns ++ 32 ∷ 125 ∷ after) ns after
unfolding wholes_at
numbers_read ns after a at =
    let tail : List ℕ = 32 ∷ 125 ∷ after in
    let s : Stream = written at (counts_text ns ++ tail) in
    let enough : length ns ≤ length s.tokens = room_for ns tail at refl a in
    let room : ℕ = length s.tokens - length ns in
    let whole_room : suc (length s.tokens) ≡ length ns + suc room = omega arith in
    let all : Result (List ℕ × Stream) NfgFault = many_at whole_or_close_at bad_past (suc (length s.tokens)) s in
    let start : all ≡ behind [] all = behind_none all in
    let p = many_read (λ n. 32 ∷ decimal n) IsSmall whole_or_close_at bad_past tail all ns [] (suc (length s.tokens)) (suc room) at
    (λ n rest h e. blank_number n rest h e) (λ n rest. refl) refl whole_room a start in
    (p.0 + 1 + 1, many_end whole_or_close_at bad_past all (suc room) room ns (written p.0 tail) (written (p.0 + 1 + 1) after) p.1 refl (numbers_closed after p.0))

-- ---- points and profiles
abbrev ratios_text : List Ratio → List ℕ
ratios_text rs = flat_map (λ r. 32 ∷ ratio_text r) rs

ratios_items : Items (λ r. 32 ∷ ratio_text r) IsShort number_at
ratios_items = record {
  each = λ r after k e. read_blank number_at (ratio_text r ++ after) r after (number_read r after k e);
  starts = λ r after. refl;
}

point_read : (players : ℕ) (rs : List Ratio) (after : List ℕ) → length rs ≡ players → All IsShort rs → IsRead (point_at players) (32 ∷ 123 ∷ ratios_text rs ++ 32 ∷ 125 ∷ after) rs after
unfolding point_at
point_read players rs after l a at =
    let tail : List ℕ = 32 ∷ 125 ∷ after in
    let opened = passed_blank open_at (123 ∷ ratios_text rs ++ tail) (ratios_text rs ++ tail) (open_passed (ratios_text rs ++ tail)) at in
    let parts = times_read (λ r. 32 ∷ ratio_text r) IsShort number_at tail rs players ratios_items refl (sym l) a opened.0 in
    let closed = passed_blank close_at (125 ∷ after) after (close_passed after) parts.0 in
    let opened_is = opened.1 in
    let parts_is = parts.1 in
    let closed_is = closed.1 in
    (closed.0, rw (opened_is, parts_is, closed_is) refl)

profile_read : (players : ℕ) (ns after : List ℕ) → length ns ≡ players → All IsSmall ns → IsRead (profile_at players) (32 ∷ 123 ∷ counts_text ns ++ 32 ∷ 125 ∷ after) ns after
unfolding profile_at
profile_read players ns after l a at =
    let tail : List ℕ = 32 ∷ 125 ∷ after in
    let opened = passed_blank open_at (123 ∷ counts_text ns ++ tail) (counts_text ns ++ tail) (open_passed (counts_text ns ++ tail)) at in
    let parts = times_read (λ n. 32 ∷ decimal n) IsSmall whole_at tail ns players wholes_items refl (sym l) a opened.0 in
    let closed = passed_blank close_at (125 ∷ after) after (close_passed after) parts.0 in
    let opened_is = opened.1 in
    let parts_is = parts.1 in
    let closed_is = closed.1 in
    (closed.0, rw (opened_is, parts_is, closed_is) refl)

-- ---- lotteries
weight_fits : (n : ℕ) → n ≤ 2 ^ 83 → n < 10 ^ 64
weight_fits n k = let wide : 2 ^ 83 < 10 ^ 64 = lit< tt in omega arith

weight_short : (n : ℕ) → n ≤ 2 ^ 83 → n < 10 ^ 36
weight_short n k = let few : 2 ^ 83 < 10 ^ 36 = lit< tt in omega arith

weight_is : (at n : ℕ) → n ≤ 2 ^ 83 → weight_as (record { at = at; kind = word (decimal n) }) (whole_in (word (decimal n))) ≡ Ok n
weight_is at n k =
    ap (λ (o : Option ℕ). weight_as (record { at = at; kind = word (decimal n) }) (option_map (λ (m : ℕ). (m, length (decimal n))) o)) (whole_again n (weight_fits n k)) ∙ limited_again Weight (2 ^ 83) at n k (weight_short n k) (weight_fits n k)

weight_read : (n : ℕ) (after : List ℕ) → n ≤ 2 ^ 83 → ends_word after ≡ true → IsRead weight_at (decimal n ++ after) n after
unfolding weight_at
weight_read n after k e at =
    let w : List ℕ = decimal n in
    let s : Stream = written at (w ++ after) in
    let b = word_written at w after (decimal_word n (weight_fits n k)) e in
    let first : Token → Result (ℕ × Stream) NfgFault = λ u. weight_as u (whole_in u.kind) >>= λ n. Ok (n, rest s) in
    let step : Result ℕ NfgFault → Result (ℕ × Stream) NfgFault = λ r. r >>= λ n. Ok (n, rest s) in
    let left : Stream → Result (ℕ × Stream) NfgFault = λ s. Ok (n, s) in
    (at + length w, ap first b.token ∙ ap step (weight_is at n k) ∙ ap left b.left)

bare_pair : (o : ℕ × ℕ) (after : List ℕ) → IsPair o → ends_word after ≡ true → IsRead pair_or_close_at (decimal o.0 ++ (32 ∷ decimal o.1 ++ after)) (Some o) after
unfolding pair_or_close_at
bare_pair o after k e at =
    let n : ℕ = o.0 in
    let w : List ℕ = decimal n in
    let later : List ℕ = 32 ∷ decimal o.1 ++ after in
    let s : Stream = written at (w ++ later) in
    let b = word_written at w later (decimal_word n (fits n k.0)) refl in
    let token = b.token in
    let m = read_blank weight_at (decimal o.1 ++ after) o.1 after (weight_read o.1 after k.1 e) (at + length w) in
    let Item : Type 0 = Result (Option (ℕ × ℕ) × Stream) NfgFault in
    let first : Token → Item = λ u. whole_as u (whole_in (word w)) >>= λ n. weight_at (rest s) >>= λ m. Ok (Some (n, m.0), m.1) in
    let step : Result ℕ NfgFault → Item = λ r. r >>= λ n. weight_at (rest s) >>= λ m. Ok (Some (n, m.0), m.1) in
    let left : Stream → Item = λ t. weight_at t >>= λ m. Ok (Some (n, m.0), m.1) in
    let last : Result (ℕ × Stream) NfgFault → Item = λ r. r >>= λ m. Ok (Some (n, m.0), m.1) in
    (m.0, rw (token, pair_or_close_at) (ap first b.token ∙ ap step (whole_is at n k.0) ∙ ap left b.left ∙ ap last m.1))

pair_read : (o : ℕ × ℕ) (after : List ℕ) → IsPair o → ends_word after ≡ true → IsRead pair_or_close_at (pair_text o ++ after) (Some o) after
pair_read o after k e at =
    let later : List ℕ = decimal o.0 ++ (32 ∷ decimal o.1 ++ after) in
    let shape : pair_text o ++ after ≡ 32 ∷ later = ap (λ l. 32 ∷ l) (append_assoc (decimal o.0) (32 ∷ decimal o.1) after) in
    let p = read_blank pair_or_close_at later (Some o) after (bare_pair o after k e) at in
    (p.0, ap (λ b. pair_or_close_at (written at b)) shape ∙ p.1)

pairs_closed : (after : List ℕ) (at : ℕ) → pair_or_close_at (written at (32 ∷ 125 ∷ after)) ≡ Ok (None, written (at + 1 + 1) after)
unfolding pair_or_close_at
pairs_closed after at =
    let b = close_written (at + 1) after in
    let token = b.token in
    let left : Stream → Result (Option (ℕ × ℕ) × Stream) NfgFault = λ s. Ok (None, s) in
    ap pair_or_close_at (blank_written at 32 (125 ∷ after) refl) ∙ rw (token, pair_or_close_at) (ap left b.left)

four_closed : (after : List ℕ) (at : ℕ) → pairs_end_at (written at (32 ∷ 125 ∷ after)) ≡ Ok (written (at + 1 + 1) after)
unfolding pairs_end_at
four_closed after at =
    let b = close_written (at + 1) after in
    let token = b.token in
    let left : Stream → Result Stream NfgFault = λ s. Ok s in
    ap pairs_end_at (blank_written at 32 (125 ∷ after) refl) ∙ rw (token, pairs_end_at) (ap left b.left)

pairs_past_closed : (after : List ℕ) (at : ℕ) → pairs_past (written at (32 ∷ 125 ∷ after)) ≡ Ok ([], written (at + 1 + 1) after)
pairs_past_closed after at =
    let step : Result Stream NfgFault → Result (List (ℕ × ℕ) × Stream) NfgFault = λ r. r >>= λ a. Ok ([], a) in
    ap step (four_closed after at)

lottery_read : (os : List (ℕ × ℕ)) (after : List ℕ) → length os ≤ 4 → All IsPair os → IsRead lottery_at (32 ∷ 123 ∷ flat_map pair_text os ++ 32 ∷ 125 ∷ after) os after
unfolding lottery_at
lottery_read os after l a at =
    let tail : List ℕ = 32 ∷ 125 ∷ after in
    let inner : List ℕ = flat_map pair_text os ++ tail in
    let opened = passed_blank open_at (123 ∷ inner) inner (open_passed inner) at in
    let room : (room : ℕ) × (4 ≡ length os + room) = (4 - length os, omega arith) in
    let all : Result (List (ℕ × ℕ) × Stream) NfgFault = many_at pair_or_close_at pairs_past 4 (written opened.0 inner) in
    let p = many_read pair_text IsPair pair_or_close_at pairs_past tail all os [] 4 room.0 opened.0
    (λ o rest h e. pair_read o rest h e) (λ o rest. refl) refl room.1 a (behind_none all) in
    let closed = many_closed pair_or_close_at pairs_past all os room.0 (written p.0 tail) (written (p.0 + 1 + 1) after) (pairs_closed after p.0) (pairs_past_closed after p.0) p.1 in
    let opened_is = opened.1 in
    (p.0 + 1 + 1, rw opened_is closed)

-- ---- entries
abbrev written_line : Written → List ℕ
written_line w =
    codes "{" ++ braced (ratios_text w.point) ++ braced (counts_text w.profile) ++ braced (flat_map pair_text w.lottery) ++ braced (counts_text w.punish) ++ codes " }\n"

-- the bytes of a line and those behind it
abbrev line_before : Written → List ℕ → List ℕ
line_before w after =
    123 ∷ 32 ∷ 123 ∷ ratios_text w.point ++ (32 ∷ 125 ∷ 32 ∷ 123 ∷ counts_text w.profile ++ (32 ∷ 125 ∷ 32 ∷ 123 ∷ flat_map pair_text w.lottery ++ (32 ∷ 125 ∷ 32 ∷ 123 ∷ counts_text w.punish ++ (32 ∷ 125 ∷ 32 ∷ 125 ∷ 10 ∷ after))))

five_texts : (a b c d e after : List ℕ) → ((((a ++ b) ++ c) ++ d) ++ e) ++ after ≡ a ++ (b ++ (c ++ (d ++ (e ++ after))))
five_texts a b c d e after =
    append_assoc (((a ++ b) ++ c) ++ d) e after ∙ append_assoc ((a ++ b) ++ c) d (e ++ after) ∙ append_assoc (a ++ b) c (d ++ (e ++ after)) ∙ append_assoc a b (c ++ (d ++ (e ++ after)))

line_is : (w : Written) (after : List ℕ) → written_line w ++ after ≡ line_before w after
line_is w after =
    let a : List ℕ = braced (ratios_text w.point) in
    let b : List ℕ = braced (counts_text w.profile) in
    let c : List ℕ = braced (flat_map pair_text w.lottery) in
    let d : List ℕ = braced (counts_text w.punish) in
    let end_ : List ℕ = 32 ∷ 125 ∷ 10 ∷ after in
    let last : List ℕ = 32 ∷ 123 ∷ counts_text w.punish ++ 32 ∷ 125 ∷ end_ in
    let third : List ℕ = 32 ∷ 123 ∷ flat_map pair_text w.lottery ++ 32 ∷ 125 ∷ last in
    let second : List ℕ = 32 ∷ 123 ∷ counts_text w.profile ++ 32 ∷ 125 ∷ third in
    ap (λ l. 123 ∷ l) (five_texts a b c d (codes " }\n") after)
    ∙ ap (λ l. 123 ∷ (a ++ (b ++ (c ++ l)))) (braced_append (counts_text w.punish) end_)
    ∙ ap (λ l. 123 ∷ (a ++ (b ++ l))) (braced_append (flat_map pair_text w.lottery) last)
    ∙ ap (λ l. 123 ∷ (a ++ l)) (braced_append (counts_text w.profile) third)
    ∙ ap (λ l. 123 ∷ l) (braced_append (ratios_text w.point) second)

line_read : (players : ℕ) (w : Written) (after : List ℕ) → IsSpelled players w → IsRead (entry_at players) (line_before w after) w after
unfolding entry_at
line_read players w after h at =
    let end_ : List ℕ = 32 ∷ 125 ∷ 10 ∷ after in
    let inner : List ℕ = counts_text w.punish ++ 32 ∷ 125 ∷ end_ in
    let last : List ℕ = 32 ∷ 123 ∷ inner in
    let third : List ℕ = 32 ∷ 123 ∷ flat_map pair_text w.lottery ++ 32 ∷ 125 ∷ last in
    let second : List ℕ = 32 ∷ 123 ∷ counts_text w.profile ++ 32 ∷ 125 ∷ third in
    let first : List ℕ = 32 ∷ 123 ∷ ratios_text w.point ++ 32 ∷ 125 ∷ second in
    let a = open_passed first at in
    let point = point_read players w.point second h.one_each h.short a.0 in
    let profile = profile_read players w.profile third h.one_strategy_each h.strategies point.0 in
    let lottery = lottery_read w.lottery last h.few h.outcomes profile.0 in
    let b = passed_blank open_at (123 ∷ inner) inner (open_passed inner) lottery.0 in
    let punish = numbers_read w.punish end_ h.punishments b.0 in
    let c = passed_blank close_at (125 ∷ 10 ∷ after) (10 ∷ after) (close_passed (10 ∷ after)) punish.0 in
    let a_is = a.1 in
    let point_is = point.1 in
    let profile_is = profile.1 in
    let lottery_is = lottery.1 in
    let b_is = b.1 in
    let punish_is = punish.1 in
    let c_is : close_at (written punish.0 end_) ≡ Ok (written (c.0 + 1) after) = c.1 ∙ ap (λ s. Ok s) (blank_written c.0 10 after refl) in
    (c.0 + 1, rw (a_is, point_is, profile_is, lottery_is, b_is, punish_is, c_is) refl)

another_read : (players : ℕ) (w : Written) (after : List ℕ) → IsSpelled players w → IsRead (entry_or_close_at players) (written_line w ++ after) (Some w) after
unfolding entry_or_close_at
another_read players w after h at =
    let p = line_read players w after h at in
    let end_ : List ℕ = 32 ∷ 125 ∷ 10 ∷ after in
    let last : List ℕ = 32 ∷ 123 ∷ counts_text w.punish ++ 32 ∷ 125 ∷ end_ in
    let third : List ℕ = 32 ∷ 123 ∷ flat_map pair_text w.lottery ++ 32 ∷ 125 ∷ last in
    let second : List ℕ = 32 ∷ 123 ∷ counts_text w.profile ++ 32 ∷ 125 ∷ third in
    let token = (open_written at (32 ∷ 123 ∷ ratios_text w.point ++ 32 ∷ 125 ∷ second)).token in
    let step : Result (Written × Stream) NfgFault → Result (Option Written × Stream) NfgFault = λ r. r >>= λ x. Ok (Some x.0, x.1) in
    (p.0, ap (λ b. entry_or_close_at players (written at b)) (line_is w after) ∙ rw (token, entry_or_close_at) (ap step p.1))

entries_closed : (players : ℕ) (after : List ℕ) (at : ℕ) → entry_or_close_at players (written at (125 ∷ after)) ≡ Ok (None, written (at + 1) after)
unfolding entry_or_close_at
entries_closed players after at =
    let b = close_written at after in
    let token = b.token in
    let left : Stream → Result (Option Written × Stream) NfgFault = λ s. Ok (None, s) in
    rw (token, entry_or_close_at) (ap left b.left)

full_closed : (after : List ℕ) (at : ℕ) → entries_end_at (written at (125 ∷ after)) ≡ Ok (written (at + 1) after)
unfolding entries_end_at
full_closed after at =
    let b = close_written at after in
    let token = b.token in
    let left : Stream → Result Stream NfgFault = λ s. Ok s in
    rw (token, entries_end_at) (ap left b.left)

past_closed : (after : List ℕ) (at : ℕ) → entries_past (written at (125 ∷ after)) ≡ Ok ([], written (at + 1) after)
past_closed after at =
    let step : Result Stream NfgFault → Result (List Written × Stream) NfgFault = λ r. r >>= λ a. Ok ([], a) in
    ap step (full_closed after at)

-- ---- states
abbrev written_state : List Written → List ℕ
written_state ws = codes "{\n" ++ flat_map written_line ws ++ codes "}\n"

state_read : (players : ℕ) (ws : List Written) (after : List ℕ) → AreSpelled players ws → IsRead (state_at players) (written_state ws ++ after) ws after
unfolding state_at
state_read players ws after h at =
    let tail : List ℕ = 125 ∷ 10 ∷ after in
    let inner : List ℕ = flat_map written_line ws ++ tail in
    let shape : written_state ws ++ after ≡ 123 ∷ 10 ∷ inner = ap (λ l. 123 ∷ 10 ∷ l) (append_assoc (flat_map written_line ws) (codes "}\n") after) in
    let opened = open_passed (10 ∷ inner) at in
    let opened_is : open_at (written at (123 ∷ 10 ∷ inner)) ≡ Ok (written (opened.0 + 1) inner) = opened.1 ∙ ap (λ s. Ok s) (blank_written opened.0 10 inner refl) in
    let few : length ws ≤ 65535 = h.few in
    let room : (room : ℕ) × (65535 ≡ length ws + room) = (65535 - length ws, omega arith) in
    let all : Result (List Written × Stream) NfgFault = many_at (entry_or_close_at players) entries_past 65535 (written (opened.0 + 1) inner) in
    let p = many_read written_line (IsSpelled players) (entry_or_close_at players) entries_past tail all ws [] 65535 room.0 (opened.0 + 1)
    (λ w rest k e. another_read players w rest k) (λ w rest. refl) refl room.1 h.each (behind_none all) in
    let closed = many_closed (entry_or_close_at players) entries_past all ws room.0 (written p.0 tail) (written (p.0 + 1) (10 ∷ after)) (entries_closed players (10 ∷ after) p.0) (past_closed (10 ∷ after) p.0) p.1 in
    let left : Stream → Result (List Written × Stream) NfgFault = λ s. Ok (ws, s) in
    (p.0 + 1 + 1, ap (λ b. state_at players (written at b)) shape ∙ rw opened_is (closed ∙ ap left (blank_written (p.0 + 1) 10 after refl)))

states_items : (players : ℕ) → Items written_state (AreSpelled players) (state_at players)
states_items players = record { each = λ ws after h e. state_read players ws after h; starts = λ ws after. refl }

-- ---- the whole
abbrev written_text : List (List Written) → List ℕ
written_text states = codes "SGC 1 {\n" ++ flat_map written_state states ++ codes "}\n"

file_read : (players : ℕ) (ws : List (List Written)) (at : ℕ) → All (AreSpelled players) ws → file_at players (length ws) (written at (written_text ws)) ≡ Ok ws
unfolding file_at
file_read players ws at a =
    let tail : List ℕ = 125 ∷ 10 ∷ [] in
    let inner : List ℕ = flat_map written_state ws ++ tail in
    let sgc = exact_passed (codes "SGC") (codes " 1 {\n" ++ inner) refl refl at in
    let one = passed_blank (exact_at (codes "1")) (codes "1 {\n" ++ inner) (codes " {\n" ++ inner) (exact_passed (codes "1") (codes " {\n" ++ inner) refl refl) sgc.0 in
    let opened = passed_blank open_at (123 ∷ 10 ∷ inner) (10 ∷ inner) (open_passed (10 ∷ inner)) one.0 in
    let states = times_read written_state (AreSpelled players) (state_at players) tail ws (length ws) (states_items players) refl refl a (opened.0 + 1) in
    let closed = close_passed (10 ∷ []) states.0 in
    let sgc_is = sgc.1 in
    let one_is = one.1 in
    let opened_is : open_at (written one.0 (codes " {\n" ++ inner)) ≡ Ok (written (opened.0 + 1) inner) = opened.1 ∙ ap (λ s. Ok s) (blank_written opened.0 10 inner refl) in
    let states_is = states.1 in
    let closed_is = closed.1 in
    let end_is = ap end_at (blank_written closed.0 10 [] refl) ∙ end_passed (closed.0 + 1) in
    rw (sgc_is, one_is, opened_is, states_is, closed_is, end_is) refl

-- ---- a correspondence and its fractions
parts_is : (common : ℕ) (zs : List ℤ) → flat_map (part_text common) zs ≡ ratios_text (map (λ z. lowest z common) zs)
parts_is common [] = refl
parts_is common (z ∷ zs) = ap (λ l. part_text common z ++ l) (parts_is common zs)

line_same : (common : ℕ) (e : Entry) → entry_line common e ≡ written_line (fractions common e)
line_same common e = ap (λ l. codes "{" ++ braced l ++ braced (counts_text e.profile) ++ braced (flat_map pair_text e.lottery) ++ braced (counts_text e.punish) ++ codes " }\n") (parts_is common e.point)

lines_same : (common : ℕ) (es : List Entry) → flat_map (entry_line common) es ≡ flat_map written_line (map (fractions common) es)
lines_same common [] = refl
lines_same common (e ∷ es) = ap (λ l. l ++ flat_map (entry_line common) es) (line_same common e) ∙ ap (λ l. written_line (fractions common e) ++ l) (lines_same common es)

states_same : (common : ℕ) (ss : List (List Entry)) → flat_map (state_lines common) ss ≡ flat_map written_state (map (map (fractions common)) ss)
states_same common [] = refl
states_same common (s ∷ ss) =
    ap (λ l. (codes "{\n" ++ l ++ codes "}\n") ++ flat_map (state_lines common) ss) (lines_same common s)
    ∙ ap (λ l. written_state (map (fractions common) s) ++ l) (states_same common ss)

text_same : (c : Promises) → canonical c ≡ written_text (fractions_of c)
text_same c = ap (λ l. codes "SGC 1 {\n" ++ l ++ codes "}\n") (states_same c.common c.entries)

pub written_back : (g : DynamicGame) (c : Promises) → IsWritable g c → written_of g (canonical c) ≡ Ok (fractions_of c)
unfolding written_of
written_back g c h =
    ap (file_at g.players (states g)) (whole_text (canonical c))
    ∙ ap (λ t. file_at g.players (states g) (written 0 t)) (text_same c)
    ∙ ap (λ n. file_at g.players n (written 0 (written_text (fractions_of c)))) (sym h.one_list_each)
    ∙ file_read g.players (fractions_of c) 0 h.each
