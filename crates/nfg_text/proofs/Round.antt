-- The canonical text of a game is a file that has it.
use Rattle.std.proofs.Common.{◌≡◌, ◌≢◌, ◌⊎◌, ℕ, zero, suc, ◌+◌, ◌-◌, ◌*◌, ◌<◌, ◌≤◌, ◌^◌, ◌==◌, Bool, true, false, if◌then◌else◌, List, [], ◌∷◌, ◌++◌, length, get_or, Option, Some, None, Result, Ok, Err, All, IfSome, IfOk, refl, sym, ◌∙◌, ap, subst, inl, inr, arith, append_assoc, codes, decimal, lit<}
use Rattle.std.specs.List.{flat_map}
use Rattle.std.specs.Option.{option_map}
use Rattle.std.proofs.lemmas.List.{append-nil}
use Rattle.std.proofs.lemmas.Bool.Decides.{nat_tests}
use Rattle.pay_frac.specs.Ratio.{Ratio}
use Rattle.pay_frac.specs.Number.{whole_of}
use Rattle.token_text.specs.Tokens.{Token, Kind, open_brace, close_brace, quoted, word, ended, Stream, next, rest, stream_of}
use Rattle.token_text.specs.Quoted.{quoted_text, IsText}
use Rattle.token_text.proofs.Written.{written, Begins, is_word, ends_word, whole_text, blank_written, end_written, open_written, close_written, quoted_written, word_written}
use Rattle.nfg_text.specs.declared.fault.NfgFault.{NfgFault}
use Rattle.nfg_text.specs.declared.what.What.TheVariants.{Strategies as StrategiesLimit}
use Rattle.nfg_text.specs.declared.nfg.Nfg.{Nfg}
use Rattle.nfg_text.specs.declared.nfg.Strategies.{Strategies}
use Rattle.nfg_text.specs.declared.nfg.Strategies.TheVariants.{Counts, Names}
use Rattle.nfg_text.specs.Wanted.{◌>>=◌, bad, word_in, whole_in, whole_word, limited, exact_at, quoted_at, open_at, close_at, end_at, number_at, many_at, times_at, behind}
use Rattle.nfg_text.specs.Grammar.{nfg_of, file_at, tag_at, tag_as, title_at, players_at, player_at, two_at, count_at, count_as, counts_at, full_at, sixteen_past, name_or_close_at, names_at, both_names_at, strategies_at, profiles_of, comment_at, body_at}
use Rattle.nfg_text.specs.Canonical.{canonical, head_text, comment_text, payoffs_text, strategies_text, names_text, counts_text, braced, ratio_text}
use Rattle.nfg_text.specs.Writable.{IsWritable, AreTwo, IsCount, AreNames, AreStrategies, IsShort}
use Rattle.nfg_text.proofs.Decimals.{whole_again, limited_again, decimal_word, ratio_word}
use Rattle.nfg_text.proofs.Written.{IsRead, IsPassed, Items, read_blank, passed_blank, read_to_blank, open_passed, close_passed, quoted_read, exact_passed, number_read, end_passed, all_first, all_others, items_end, times_first, times_none, times_read, many_read, many_closed, braced_append}

-- ---- the title
tag_passed : (after : List ℕ) → IsPassed tag_at (82 ∷ 32 ∷ after) after
unfolding tag_at
tag_passed after at =
    let h = word_written at (codes "R") (32 ∷ after) refl refl in
    let s : Stream = written at (82 ∷ 32 ∷ after) in
    let step : Token → Result Stream NfgFault = λ u. tag_as u (word_in u.kind) >>= λ w. Ok (rest s) in
    let left : Stream → Result Stream NfgFault = λ s. Ok s in
    (at + 1 + 1, ap step h.token ∙ ap left (h.left ∙ blank_written (at + 1) 32 after refl))

title_read : (t after : List ℕ) → IsText t → IsRead title_at (codes "NFG 1 R " ++ quoted_text t ++ after) t after
unfolding title_at
title_read t after k at =
    let end_ : List ℕ = quoted_text t ++ after in
    let nfg = exact_passed (codes "NFG") (codes " 1 R " ++ end_) refl refl at in
    let one = passed_blank (exact_at (codes "1")) (codes "1 R " ++ end_) (codes " R " ++ end_) (exact_passed (codes "1") (codes " R " ++ end_) refl refl) nfg.0 in
    let tag = passed_blank tag_at (codes "R " ++ end_) end_ (tag_passed end_) one.0 in
    let text = quoted_read t after k tag.0 in
    let nfg_is = nfg.1 in
    let one_is = one.1 in
    let tag_is = tag.1 in
    let text_is = text.1 in
    (text.0, rw (nfg_is, one_is, tag_is, text_is) refl)

-- ---- the players
player_read : (k : ℕ) (t after : List ℕ) → IsText t → IsRead (player_at k) (quoted_text t ++ after) t after
unfolding player_at
player_read k t after h at =
    let b = quoted_written at t after h in
    let token = b.token in
    let left : Stream → Result (List ℕ × Stream) NfgFault = λ s. Ok (t, s) in
    (at + length (quoted_text t), rw (token, player_at) (ap left b.left))

two_passed : (after : List ℕ) → IsPassed two_at (125 ∷ after) after
unfolding two_at
two_passed after at =
    let b = close_written at after in
    let token = b.token in
    let left : Stream → Result Stream NfgFault = λ s. Ok s in
    (at + 1, rw (token, two_at) (ap left b.left))

two_texts : (x y after : List ℕ) → (x ++ (y ++ [])) ++ after ≡ x ++ (y ++ after)
two_texts x y after = append_assoc x (y ++ []) after ∙ ap (λ l. x ++ (l ++ after)) (append-nil y)

players_shape : (x y after : List ℕ) → braced (names_text (x ∷ y ∷ [])) ++ after ≡ 32 ∷ 123 ∷ 32 ∷ quoted_text x ++ (32 ∷ quoted_text y ++ 32 ∷ 125 ∷ after)
players_shape x y after =
    braced_append (names_text (x ∷ y ∷ [])) after
    ∙ ap (λ l. 32 ∷ 123 ∷ l) (two_texts (32 ∷ quoted_text x) (32 ∷ quoted_text y) (32 ∷ 125 ∷ after))

both_players : (x y after : List ℕ) → IsText x → IsText y → IsRead players_at (123 ∷ 32 ∷ quoted_text x ++ (32 ∷ quoted_text y ++ 32 ∷ 125 ∷ after)) (x ∷ y ∷ []) after
unfolding players_at
both_players x y after h k at =
    let last : List ℕ = 32 ∷ 125 ∷ after in
    let later : List ℕ = 32 ∷ quoted_text y ++ last in
    let a = open_passed (32 ∷ quoted_text x ++ later) at in
    let first = read_blank (player_at 0) (quoted_text x ++ later) x later (player_read 0 x later h) a.0 in
    let second = read_blank (player_at 1) (quoted_text y ++ last) y last (player_read 1 y last k) first.0 in
    let b = passed_blank two_at (125 ∷ after) after (two_passed after) second.0 in
    let a_is = a.1 in
    let first_is = first.1 in
    let second_is = second.1 in
    let b_is = b.1 in
    (b.0, rw (a_is, first_is, second_is, b_is) refl)

players_read : (ns : List (List ℕ)) (bytes : List ℕ) → AreTwo IsText ns → IsRead players_at (braced (names_text ns) ++ bytes) ns bytes
players_read [] bytes h at = absurd h
players_read (x ∷ []) bytes h at = absurd h
players_read (x ∷ y ∷ z ∷ zs) bytes h at = absurd h
players_read (x ∷ y ∷ []) bytes h at =
    let inner : List ℕ = 123 ∷ 32 ∷ quoted_text x ++ (32 ∷ quoted_text y ++ 32 ∷ 125 ∷ bytes) in
    let p = read_blank players_at inner (x ∷ y ∷ []) bytes (both_players x y bytes h.0 h.1) at in
    (p.0, ap (λ b. players_at (written at b)) (players_shape x y bytes) ∙ p.1)

-- ---- counts of strategies
not_zero : (n : ℕ) → 0 < n → (n == 0) ≡ false
not_zero n h = grind (arith, nat_tests)

count_read : (n : ℕ) (after : List ℕ) → IsCount n → ends_word after ≡ true → IsRead count_at (decimal n ++ after) n after
unfolding count_at
count_read n after k e at =
    let small : n ≤ 16 = k.1 in
    let few : 16 < 10 ^ 36 = lit< tt in
    let wide : 16 < 10 ^ 64 = lit< tt in
    let fits : n < 10 ^ 64 = omega arith in
    let short : n < 10 ^ 36 = omega arith in
    let w : List ℕ = decimal n in
    let h = word_written at w after (decimal_word n fits) e in
    let s : Stream = written at (w ++ after) in
    let t : Token = record { at = at; kind = word w } in
    let step : Token → Result (ℕ × Stream) NfgFault = λ u. count_as u (whole_in u.kind) >>= λ n. Ok (n, rest s) in
    let whole : Option ℕ → Result (ℕ × Stream) NfgFault = λ o. count_as t (option_map (λ (n : ℕ). (n, length w)) o) >>= λ n. Ok (n, rest s) in
    let zero_test : Bool → Result (ℕ × Stream) NfgFault = λ v. (if v then bad t else limited StrategiesLimit 16 at (n, length w)) >>= λ n. Ok (n, rest s) in
    let within : Result ℕ NfgFault → Result (ℕ × Stream) NfgFault = λ r. r >>= λ n. Ok (n, rest s) in
    let left : Stream → Result (ℕ × Stream) NfgFault = λ s. Ok (n, s) in (
      at + length w,
      ap step h.token
          ∙ ap whole (whole_again n fits)
          ∙ ap zero_test (not_zero n k.0)
          ∙ ap within (limited_again StrategiesLimit 16 at n small short fits)
          ∙ ap left h.left,
    )

counts_shape : (x y : ℕ) (after : List ℕ) → braced (counts_text (x ∷ y ∷ [])) ++ after ≡ 32 ∷ 123 ∷ 32 ∷ decimal x ++ (32 ∷ decimal y ++ 32 ∷ 125 ∷ after)
counts_shape x y after =
    braced_append (counts_text (x ∷ y ∷ [])) after
    ∙ ap (λ l. 32 ∷ 123 ∷ l) (two_texts (32 ∷ decimal x) (32 ∷ decimal y) (32 ∷ 125 ∷ after))

both_counts : (x y : ℕ) (after : List ℕ) → IsCount x → IsCount y → IsRead counts_at (32 ∷ decimal x ++ (32 ∷ decimal y ++ 32 ∷ 125 ∷ after)) (Counts (x ∷ y ∷ [])) after
unfolding counts_at
both_counts x y after h k at =
    let last : List ℕ = 32 ∷ 125 ∷ after in
    let later : List ℕ = 32 ∷ decimal y ++ last in
    let first = read_blank count_at (decimal x ++ later) x later (count_read x later h refl) at in
    let second = read_blank count_at (decimal y ++ last) y last (count_read y last k refl) first.0 in
    let b = passed_blank close_at (125 ∷ after) after (close_passed after) second.0 in
    let first_is = first.1 in
    let second_is = second.1 in
    let b_is = b.1 in
    (b.0, rw (first_is, second_is, b_is) refl)

-- ---- names of strategies
name_read : (t after : List ℕ) → IsText t → IsRead name_or_close_at (quoted_text t ++ after) (Some t) after
unfolding name_or_close_at
name_read t after h at =
    let b = quoted_written at t after h in
    let token = b.token in
    let left : Stream → Result (Option (List ℕ) × Stream) NfgFault = λ s. Ok (Some t, s) in
    (at + length (quoted_text t), rw (token, name_or_close_at) (ap left b.left))

name_closed : (after : List ℕ) (at : ℕ) → name_or_close_at (written at (32 ∷ 125 ∷ after)) ≡ Ok (None, written (at + 1 + 1) after)
unfolding name_or_close_at
name_closed after at =
    let b = close_written (at + 1) after in
    let token = b.token in
    let left : Stream → Result (Option (List ℕ) × Stream) NfgFault = λ s. Ok (None, s) in
    ap name_or_close_at (blank_written at 32 (125 ∷ after) refl) ∙ rw (token, name_or_close_at) (ap left b.left)

full_closed : (after : List ℕ) (at : ℕ) → full_at (written at (32 ∷ 125 ∷ after)) ≡ Ok (written (at + 1 + 1) after)
unfolding full_at
full_closed after at =
    let b = close_written (at + 1) after in
    let token = b.token in
    let left : Stream → Result Stream NfgFault = λ s. Ok s in
    ap full_at (blank_written at 32 (125 ∷ after) refl) ∙ rw (token, full_at) (ap left b.left)

sixteen_closed : (after : List ℕ) (at : ℕ) → sixteen_past (written at (32 ∷ 125 ∷ after)) ≡ Ok ([], written (at + 1 + 1) after)
sixteen_closed after at =
    let step : Result Stream NfgFault → Result (List (List ℕ) × Stream) NfgFault = λ r. r >>= λ a. Ok ([], a) in
    ap step (full_closed after at)

more_names : (t : List ℕ) (ts : List (List ℕ)) (after : List ℕ) (at : ℕ) → length ts ≤ 15 → All IsText ts
    → (place : ℕ) × (behind (t ∷ []) (many_at name_or_close_at sixteen_past 15 (written at (names_text ts ++ 32 ∷ 125 ∷ after))) ≡ Ok (t ∷ ts, written place after))
more_names t ts after at l a =
    let tail : List ℕ = 32 ∷ 125 ∷ after in
    let room : (room : ℕ) × (15 ≡ length ts + room) = (15 - length ts, omega arith) in
    let all : Result (List (List ℕ) × Stream) NfgFault = behind (t ∷ []) (many_at name_or_close_at sixteen_past 15 (written at (names_text ts ++ tail))) in
    let p = many_read (λ t. 32 ∷ quoted_text t) IsText name_or_close_at sixteen_past tail all ts (t ∷ []) 15 room.0 at
    (λ x rest h e. read_blank name_or_close_at (quoted_text x ++ rest) (Some x) rest (name_read x rest h))
    (λ x rest. refl) refl room.1 a refl in
    (p.0 + 1 + 1, many_closed name_or_close_at sixteen_past all (t ∷ ts) room.0 (written p.0 tail) (written (p.0 + 1 + 1) after) (name_closed after p.0) (sixteen_closed after p.0) p.1)

names_start : (t : List ℕ) (ts : List (List ℕ)) (after : List ℕ) → IsText t → length ts ≤ 15 → All IsText ts
    → IsRead names_at (123 ∷ 32 ∷ quoted_text t ++ (names_text ts ++ 32 ∷ 125 ∷ after)) (t ∷ ts) after
unfolding names_at
names_start t ts after h l a at =
    let more : List ℕ = names_text ts ++ 32 ∷ 125 ∷ after in
    let open_ = open_passed (32 ∷ quoted_text t ++ more) at in
    let first = read_blank quoted_at (quoted_text t ++ more) t more (quoted_read t more h) open_.0 in
    let others = more_names t ts after first.0 l a in
    let open_is = open_.1 in
    let first_is = first.1 in
    let others_is = others.1 in
    (others.0, rw (open_is, first_is) others_is)

names_read : (ns : List (List ℕ)) (after : List ℕ) → AreNames ns → IsRead names_at (braced (names_text ns) ++ after) ns after
names_read [] after h at = let some : 0 < length {A = List ℕ} [] = h.0.0 in absurd (omega arith)
names_read (t ∷ ts) after h at =
    let few : length (t ∷ ts) ≤ 16 = h.0.1 in
    let inner : List ℕ = 123 ∷ 32 ∷ quoted_text t ++ (names_text ts ++ 32 ∷ 125 ∷ after) in
    let shape : braced (names_text (t ∷ ts)) ++ after ≡ 32 ∷ inner =
    braced_append (names_text (t ∷ ts)) after ∙ ap (λ l. 32 ∷ 123 ∷ l) (append_assoc (32 ∷ quoted_text t) (names_text ts) (32 ∷ 125 ∷ after)) in
    let p = read_blank names_at inner (t ∷ ts) after (names_start t ts after (all_first IsText t ts h.1) (omega arith) (all_others IsText t ts h.1)) at in
    (p.0, ap (λ b. names_at (written at b)) shape ∙ p.1)

abbrev lists_text : List (List (List ℕ)) → List ℕ
lists_text nss = flat_map (λ ns. braced (names_text ns)) nss

lists_shape : (x y : List (List ℕ)) (after : List ℕ) → braced (lists_text (x ∷ y ∷ [])) ++ after ≡ 32 ∷ 123 ∷ braced (names_text x) ++ (braced (names_text y) ++ 32 ∷ 125 ∷ after)
lists_shape x y after =
    braced_append (lists_text (x ∷ y ∷ [])) after
    ∙ ap (λ l. 32 ∷ 123 ∷ l) (two_texts (braced (names_text x)) (braced (names_text y)) (32 ∷ 125 ∷ after))

both_names : (x y : List (List ℕ)) (after : List ℕ) → AreNames x → AreNames y → IsRead both_names_at (braced (names_text x) ++ (braced (names_text y) ++ 32 ∷ 125 ∷ after)) (Names (x ∷ y ∷ [])) after
unfolding both_names_at
both_names x y after h k at =
    let last : List ℕ = 32 ∷ 125 ∷ after in
    let first = names_read x (braced (names_text y) ++ last) h at in
    let second = names_read y last k first.0 in
    let b = passed_blank close_at (125 ∷ after) after (close_passed after) second.0 in
    let first_is = first.1 in
    let second_is = second.1 in
    let b_is = b.1 in
    (b.0, rw (first_is, second_is, b_is) refl)

-- ---- the strategies
counted : (x y : ℕ) (after : List ℕ) → IsCount x → IsCount y → IsRead strategies_at (123 ∷ 32 ∷ decimal x ++ (32 ∷ decimal y ++ 32 ∷ 125 ∷ after)) (Counts (x ∷ y ∷ [])) after
unfolding strategies_at
counted x y after h k at =
    let later : List ℕ = 32 ∷ decimal y ++ 32 ∷ 125 ∷ after in
    let a = open_passed (32 ∷ decimal x ++ later) at in
    let small : x ≤ 16 = h.1 in
    let wide : 16 < 10 ^ 64 = lit< tt in
    let b = word_written (a.0 + 1) (decimal x) later (decimal_word x (omega arith)) refl in
    let p = both_counts x y after h k a.0 in
    let s : Stream = written a.0 (32 ∷ decimal x ++ later) in
    let token : next s ≡ record { at = a.0 + 1; kind = word (decimal x) } = ap next (blank_written a.0 32 (decimal x ++ later) refl) ∙ b.token in
    let opened : Result Stream NfgFault → Result (Strategies × Stream) NfgFault = λ r. r >>= λ a. elim (next a).kind as (λ _. Result (Strategies × Stream) NfgFault) [
      | word w ↦ counts_at a
      | open_brace ↦ both_names_at a
      | _ ↦ bad (next a)
    ] in
    let step : Token → Result (Strategies × Stream) NfgFault = λ t. elim t.kind as (λ _. Result (Strategies × Stream) NfgFault) [
      | word w ↦ counts_at s
      | open_brace ↦ both_names_at s
      | _ ↦ bad t
    ] in
    (p.0, ap opened a.1 ∙ ap step token ∙ p.1)

named : (x y : List (List ℕ)) (after : List ℕ) → AreNames x → AreNames y → IsRead strategies_at (123 ∷ braced (names_text x) ++ (braced (names_text y) ++ 32 ∷ 125 ∷ after)) (Names (x ∷ y ∷ [])) after
unfolding strategies_at
named x y after h k at =
    let later : List ℕ = braced (names_text y) ++ 32 ∷ 125 ∷ after in
    let inner : List ℕ = braced (names_text x) ++ later in
    let a = open_passed inner at in
    let b = open_written (a.0 + 1) ((names_text x ++ codes " }") ++ later) in
    let p = both_names x y after h k a.0 in
    let s : Stream = written a.0 inner in
    let token : next s ≡ record { at = a.0 + 1; kind = open_brace } = ap next (blank_written a.0 32 (123 ∷ (names_text x ++ codes " }") ++ later) refl) ∙ b.token in
    let opened : Result Stream NfgFault → Result (Strategies × Stream) NfgFault = λ r. r >>= λ a. elim (next a).kind as (λ _. Result (Strategies × Stream) NfgFault) [
      | word w ↦ counts_at a
      | open_brace ↦ both_names_at a
      | _ ↦ bad (next a)
    ] in
    let step : Token → Result (Strategies × Stream) NfgFault = λ t. elim t.kind as (λ _. Result (Strategies × Stream) NfgFault) [
      | word w ↦ counts_at s
      | open_brace ↦ both_names_at s
      | _ ↦ bad t
    ] in
    (p.0, ap opened a.1 ∙ ap step token ∙ p.1)

counts_read : (ns after : List ℕ) → AreTwo IsCount ns → IsRead strategies_at (braced (counts_text ns) ++ after) (Counts ns) after
counts_read [] after h at = absurd h
counts_read (x ∷ []) after h at = absurd h
counts_read (x ∷ y ∷ z ∷ zs) after h at = absurd h
counts_read (x ∷ y ∷ []) after h at =
    let p = read_blank strategies_at (123 ∷ 32 ∷ decimal x ++ (32 ∷ decimal y ++ 32 ∷ 125 ∷ after)) (Counts (x ∷ y ∷ [])) after (counted x y after h.0 h.1) at in
    (p.0, ap (λ b. strategies_at (written at b)) (counts_shape x y after) ∙ p.1)

lists_read : (nss : List (List (List ℕ))) (after : List ℕ) → AreTwo AreNames nss → IsRead strategies_at (braced (lists_text nss) ++ after) (Names nss) after
lists_read [] after h at = absurd h
lists_read (x ∷ []) after h at = absurd h
lists_read (x ∷ y ∷ z ∷ zs) after h at = absurd h
lists_read (x ∷ y ∷ []) after h at =
    let p = read_blank strategies_at (123 ∷ braced (names_text x) ++ (braced (names_text y) ++ 32 ∷ 125 ∷ after)) (Names (x ∷ y ∷ [])) after (named x y after h.0 h.1) at in
    (p.0, ap (λ b. strategies_at (written at b)) (lists_shape x y after) ∙ p.1)

strategies_read : (st : Strategies) (after : List ℕ) → AreStrategies st → IsRead strategies_at (strategies_text st ++ after) st after
strategies_read (Counts ns) after h at = counts_read ns after h at
strategies_read (Names nss) after h at = lists_read nss after h at

-- ---- payoffs
abbrev ratios_text : List Ratio → List ℕ
ratios_text rs = flat_map (λ r. 32 ∷ ratio_text r) rs

ratio_items : Items (λ r. 32 ∷ ratio_text r) IsShort number_at
ratio_items = record {
  each = λ r after h e. read_blank number_at (ratio_text r ++ after) r after (number_read r after h e);
  starts = λ r after. refl;
}

payoffs_read : (rs : List Ratio) (n : ℕ) → n ≡ length rs → All IsShort rs → IsRead (times_at number_at n) (payoffs_text rs ++ 10 ∷ []) rs (10 ∷ [])
payoffs_read [] n l a at = (at, times_none number_at n (written at (10 ∷ [])) l)
payoffs_read (r ∷ rs) n l a at =
    let tail : List ℕ = 10 ∷ [] in
    let more : List ℕ = ratios_text rs ++ tail in
    let first = number_read r more (all_first IsShort r rs a) (items_end (λ r. 32 ∷ ratio_text r) rs tail (λ r after. refl) refl) at in
    let others = times_read (λ r. 32 ∷ ratio_text r) IsShort number_at tail rs (length rs) ratio_items refl refl (all_others IsShort r rs a) first.0 in
    let s : Stream = written at ((ratio_text r ++ ratios_text rs) ++ tail) in
    let here : number_at s ≡ Ok (r, written first.0 more) = ap (λ b. number_at (written at b)) (append_assoc (ratio_text r) (ratios_text rs) tail) ∙ first.1 in
    (others.0, times_first number_at n (length rs) r rs s (written first.0 more) (written others.0 tail) l here others.1)

-- they begin with a word or are none
payoffs_start : (rs : List Ratio) (at : ℕ) → All IsShort rs → ((next (written at (payoffs_text rs ++ 10 ∷ []))).kind ≡ ended) ⊎ ((w : List ℕ) × ((next (written at (payoffs_text rs ++ 10 ∷ []))).kind ≡ word w))
payoffs_start [] at a =
    let kind : Token → Kind = λ t. t.kind in
    inl (ap (λ s. (next s).kind) (blank_written at 10 [] refl) ∙ ap kind (end_written (at + 1)))
payoffs_start (r ∷ rs) at a =
    let tail : List ℕ = 10 ∷ [] in
    let more : List ℕ = ratios_text rs ++ tail in
    let kind : Token → Kind = λ t. t.kind in
    let b = word_written at (ratio_text r) more (ratio_word r (all_first IsShort r rs a)) (items_end (λ r. 32 ∷ ratio_text r) rs tail (λ r after. refl) refl) in
    inr (ratio_text r, ap (λ bytes. (next (written at bytes)).kind) (append_assoc (ratio_text r) (ratios_text rs) tail) ∙ ap kind b.token)

body_read : (rs : List Ratio) (profiles : ℕ) → length rs ≡ 2 * profiles → All IsShort rs → IsRead (body_at profiles) (payoffs_text rs ++ 10 ∷ []) rs (10 ∷ [])
unfolding body_at
body_read rs profiles l a at =
    let p = payoffs_read rs (2 * profiles) (sym l) a at in
    let read_is = p.1 in
    elim (payoffs_start rs at a) [
      | inl e ↦ (p.0, rw (e, body_at) read_is)
      | inr w ↦ let e = w.1 in (p.0, rw (e, body_at) read_is)
    ]

-- ---- the comment
comment_read : (c : Option (List ℕ)) (rs : List Ratio) (at : ℕ) → IfSome c IsText → All IsShort rs
    → (place : ℕ) × (comment_at (written at (10 ∷ comment_text c ++ (payoffs_text rs ++ 10 ∷ []))) ≡ (c, written place (payoffs_text rs ++ 10 ∷ [])))
unfolding comment_at
comment_read None rs at h a =
    let blank = blank_written at 10 (payoffs_text rs ++ 10 ∷ []) refl in
    elim (payoffs_start rs (at + 1) a) [
      | inl e ↦ (at + 1, ap comment_at blank ∙ rw (e, comment_at) refl)
      | inr w ↦ let e = w.1 in (at + 1, ap comment_at blank ∙ rw (e, comment_at) refl)
    ]
comment_read (Some t) rs at h a =
    let body : List ℕ = payoffs_text rs ++ 10 ∷ [] in
    let shape : (quoted_text t ++ 10 ∷ []) ++ body ≡ quoted_text t ++ 10 ∷ body = append_assoc (quoted_text t) (10 ∷ []) body in
    let place : ℕ = at + 1 + length (quoted_text t) in
    let where_ : written at (10 ∷ (quoted_text t ++ 10 ∷ []) ++ body) ≡ written (at + 1) (quoted_text t ++ 10 ∷ body) =
    ap (λ b. written at (10 ∷ b)) shape ∙ blank_written at 10 (quoted_text t ++ 10 ∷ body) refl in
    let b = quoted_written (at + 1) t (10 ∷ body) h in
    let token = b.token in
    let left : Stream → Option (List ℕ) × Stream = λ s. (Some t, s) in
    (place + 1, ap comment_at where_ ∙ rw (token, comment_at) (ap left (b.left ∙ blank_written place 10 body refl)))

-- ---- the whole
lines_shape : (t p s c b : List ℕ) → (((((t ++ p) ++ s) ++ 10 ∷ []) ++ c) ++ b) ++ 10 ∷ [] ≡ t ++ (p ++ (s ++ (10 ∷ c ++ (b ++ 10 ∷ []))))
lines_shape t p s c b =
    let last : List ℕ = b ++ 10 ∷ [] in
    append_assoc ((((t ++ p) ++ s) ++ 10 ∷ []) ++ c) b (10 ∷ [])
    ∙ append_assoc (((t ++ p) ++ s) ++ 10 ∷ []) c last
    ∙ append_assoc ((t ++ p) ++ s) (10 ∷ []) (c ++ last)
    ∙ append_assoc (t ++ p) s (10 ∷ c ++ last)
    ∙ append_assoc t p (s ++ (10 ∷ c ++ last))

file_read : (n : Nfg) (at : ℕ) → IsWritable n → file_at (written at (canonical n)) ≡ Ok n
unfolding file_at
file_read n at h =
    let body : List ℕ = payoffs_text n.payoffs ++ 10 ∷ [] in
    let lines : List ℕ = 10 ∷ comment_text n.comment ++ body in
    let strategies : List ℕ = strategies_text n.strategies ++ lines in
    let players : List ℕ = braced (names_text n.players) ++ strategies in
    let title = title_read n.title players h.title at in
    let named_ = players_read n.players strategies h.players title.0 in
    let played = strategies_read n.strategies lines h.strategies named_.0 in
    let comment = comment_read n.comment n.payoffs played.0 h.comment h.payoffs in
    let paid = body_read n.payoffs (profiles_of n.strategies) h.whole h.payoffs comment.0 in
    let title_is = title.1 in
    let named_is = named_.1 in
    let played_is = played.1 in
    let comment_is = comment.1 in
    let paid_is = paid.1 in
    let end_is = ap end_at (blank_written paid.0 10 [] refl) ∙ end_passed (paid.0 + 1) in
    ap (λ l. file_at (written at (codes "NFG 1 R " ++ l))) (lines_shape (quoted_text n.title) (braced (names_text n.players)) (strategies_text n.strategies) (comment_text n.comment) (payoffs_text n.payoffs))
    ∙ rw (title_is, named_is, played_is, comment_is, paid_is, end_is) refl

pub nfg_again : (n : Nfg) → IsWritable n → nfg_of (canonical n) ≡ Ok n
unfolding nfg_of
nfg_again n h = ap file_at (whole_text (canonical n)) ∙ file_read n 0 h

-- a text that was written, where memory sufficed
pub written_again : {E : Type 0} (r : Result (List ℕ) E) (n : Nfg) → IfOk r (λ t. t ≡ canonical n) → IfOk r (λ t. IsWritable n → nfg_of t ≡ Ok n)
written_again (Ok t) n h = λ k. ap nfg_of h ∙ nfg_again n k
written_again (Err e) n h = tt
