-- Runs of bytes and the tokens after them.
use Rattle.std.proofs.Common.{◌≡◌, ℕ, zero, suc, ◌+◌, ◌-◌, ◌<◌, ◌≤◌, ◌==◌, ◌&&◌, Bool, true, false, not, cond, if◌then◌else◌, List, [], ◌∷◌, ◌++◌, length, take, drop, get_or, Option, Some, None, refl, sym, ◌∙◌, ap, arith, append_assoc, length-drop, ◌||◌}
use Rattle.std.specs.Option.{option_map}
use Rattle.std.specs.List.{prefix_len}
use Rattle.std.proofs.lemmas.List.{append-nil, nil_from_length, drop_more, take_more, drop_all}
use Rattle.std.proofs.lemmas.Bool.{true≢false}
use Rattle.std.proofs.lemmas.List.Sums.{prefix_len_stops}
use Rattle.token_text.specs.Tokens.{Kind, open_brace, close_brace, word, ended, quoted_kind, Stream, stream_from, first_or, next, rest, Token, is_blank, is_word_byte, quoted_bytes, after_quoted, kind_at, bytes_after, tokens_from}

-- what is found behind the bytes xs
abbrev pub behind : List ℕ → Option (List ℕ × List ℕ) → Option (List ℕ × List ℕ)
behind xs o = option_map (λ (r : List ℕ × List ℕ). (xs ++ r.0, r.1)) o

behind_more : (xs : List ℕ) (b : ℕ) (o : Option (List ℕ × List ℕ)) → behind xs (option_map (λ (r : List ℕ × List ℕ). (b ∷ r.0, r.1)) o) ≡ behind (xs ++ b ∷ []) o
behind_more xs b None = refl
behind_more xs b (Some r) = ap (λ l. Some (l, r.1)) (sym (append_assoc xs (b ∷ []) r.0))

pub behind_none : (o : Option (List ℕ × List ℕ)) → behind [] o ≡ o
behind_none None = refl
behind_none (Some r) = refl

abbrev pub closes : ℕ → ℕ → Bool
closes before b = (b == 34) && not (before == 92)

quoted_skip : (before b : ℕ) (bs : List ℕ) → closes before b ≡ false → quoted_bytes before (b ∷ bs) ≡ option_map (λ (r : List ℕ × List ℕ). (b ∷ r.0, r.1)) (quoted_bytes b bs)
quoted_skip before b bs h = rw h refl

quoted_stop : (before b : ℕ) (bs : List ℕ) → closes before b ≡ true → quoted_bytes before (b ∷ bs) ≡ Some ([], bs)
quoted_stop before b bs h = rw h refl

-- one more byte of a quoted text
pub quoted_more : (bytes : List ℕ) (i before b : ℕ) → i < length bytes → b ≡ get_or bytes i 0 → closes before b ≡ false → quoted_bytes 34 bytes ≡ behind (take i bytes) (quoted_bytes before (drop i bytes)) → quoted_bytes 34 bytes ≡ behind (take (i + 1) bytes) (quoted_bytes b (drop (i + 1) bytes))
quoted_more bytes i before b l e h k =
    let m : drop i bytes ≡ b ∷ drop (i + 1) bytes = rw e (drop_more bytes i 0 l) in
    let t : take (i + 1) bytes ≡ take i bytes ++ b ∷ [] = rw e (take_more bytes i 0 l) in
    k ∙ ap (λ d. behind (take i bytes) (quoted_bytes before d)) m
    ∙ ap (behind (take i bytes)) (quoted_skip before b (drop (i + 1) bytes) h)
    ∙ behind_more (take i bytes) b (quoted_bytes b (drop (i + 1) bytes))
    ∙ ap (λ x. behind x (quoted_bytes b (drop (i + 1) bytes))) (sym t)

-- the quote that closes it
pub quoted_closed : (bytes : List ℕ) (i before b : ℕ) → i < length bytes → b ≡ get_or bytes i 0 → closes before b ≡ true → quoted_bytes 34 bytes ≡ behind (take i bytes) (quoted_bytes before (drop i bytes)) → quoted_bytes 34 bytes ≡ Some (take i bytes, drop (i + 1) bytes)
quoted_closed bytes i before b l e h k =
    let m : drop i bytes ≡ b ∷ drop (i + 1) bytes = rw e (drop_more bytes i 0 l) in
    let n : take i bytes ++ [] ≡ take i bytes = append-nil (take i bytes) in
    k ∙ ap (λ d. behind (take i bytes) (quoted_bytes before d)) m
    ∙ ap (behind (take i bytes)) (quoted_stop before b (drop (i + 1) bytes) h)
    ∙ ap (λ x. Some (x, drop (i + 1) bytes)) n

-- no quote closes it
pub quoted_open : (bytes : List ℕ) (i before : ℕ) → length bytes ≤ i → quoted_bytes 34 bytes ≡ behind (take i bytes) (quoted_bytes before (drop i bytes)) → quoted_bytes 34 bytes ≡ None
quoted_open bytes i before l k = k ∙ ap (λ d. behind (take i bytes) (quoted_bytes before d)) (drop_all i bytes l)

after_more : (b : ℕ) (o : Option (List ℕ × List ℕ)) → after_quoted (option_map (λ (r : List ℕ × List ℕ). (b ∷ r.0, r.1)) o) ≡ after_quoted o
after_more b None = refl
after_more b (Some r) = refl

quoted_short : (before : ℕ) (bs : List ℕ) → length (after_quoted (quoted_bytes before bs)) ≤ length bs
quoted_short before [] = omega arith
quoted_short before (b ∷ bs) =
    elim (closes before b) as (λ v. length (after_quoted (if v then Some ([], bs) else option_map (λ (r : List ℕ × List ℕ). (b ∷ r.0, r.1)) (quoted_bytes b bs))) ≤ suc (length bs)) [
      | true ↦ omega arith
      | false ↦ rw (after_more b (quoted_bytes b bs)) (omega (arith, quoted_short b bs))
    ]

drop_short : (n : ℕ) (bs : List ℕ) → length (drop n bs) ≤ length bs
drop_short n bs = grind (arith, length-drop)

pub after_short : (b : ℕ) (bs : List ℕ) → length (bytes_after b bs) ≤ length bs
after_short b bs =
    let q : length (after_quoted (quoted_bytes 34 bs)) ≤ length bs = quoted_short 34 bs in
    let w : length (drop (length (take (prefix_len is_word_byte bs) bs)) bs) ≤ length bs = drop_short _ bs in
    elim ((b == 123) || (b == 125)) as (λ v. length (if v then bs else if b == 34 then after_quoted (quoted_bytes 34 bs) else drop (length (take (prefix_len is_word_byte bs) bs)) bs) ≤ length bs) [
      | true ↦ omega arith
      | false ↦ elim (b == 34) as (λ v. length (if v then after_quoted (quoted_bytes 34 bs) else drop (length (take (prefix_len is_word_byte bs) bs)) bs) ≤ length bs) [ true ↦ q | false ↦ w ]
    ]

-- the first number of `tokens_from` is large enough or larger
pub tokens_enough : (n m at : ℕ) (bytes : List ℕ) → length bytes ≤ n → length bytes ≤ m → tokens_from n at bytes ≡ tokens_from m at bytes
unfolding tokens_from
tokens_enough zero zero at bytes p q = refl
tokens_enough zero (suc m) at [] p q = refl
tokens_enough zero (suc m) at (b ∷ bs) p q = absurd (omega arith)
tokens_enough (suc n) zero at [] p q = refl
tokens_enough (suc n) zero at (b ∷ bs) p q = absurd (omega arith)
tokens_enough (suc n) (suc m) at [] p q = refl
tokens_enough (suc n) (suc m) at (b ∷ bs) p q =
    let s : length (bytes_after b bs) ≤ length bs = after_short b bs in
    let e1 : tokens_from n (at + 1) bs ≡ tokens_from m (at + 1) bs = tokens_enough n m (at + 1) bs (omega arith) (omega arith) in
    let e2 : tokens_from n (at + 1 + (length bs - length (bytes_after b bs))) (bytes_after b bs) ≡ tokens_from m (at + 1 + (length bs - length (bytes_after b bs))) (bytes_after b bs) = tokens_enough n m _ (bytes_after b bs) (omega arith) (omega arith) in
    ap (λ x. if is_blank b then x else record { at = at; kind = kind_at b bs } ∷ tokens_from n (at + 1 + (length bs - length (bytes_after b bs))) (bytes_after b bs)) e1
    ∙ ap (λ x. if is_blank b then tokens_from m (at + 1) bs else record { at = at; kind = kind_at b bs } ∷ x) e2

-- blanks are skipped
pub tokens_behind_blanks : (at : ℕ) (bytes : List ℕ) (k : ℕ) → k ≡ prefix_len is_blank bytes → tokens_from (length bytes) at bytes ≡ tokens_from (length (drop k bytes)) (at + k) (drop k bytes)
unfolding tokens_from
tokens_behind_blanks at [] k e = rw e refl
tokens_behind_blanks at (b ∷ bs) k e =
    let p : ℕ = prefix_len is_blank bs in
    let Rest : List Token = record { at = at; kind = kind_at b bs } ∷ tokens_from (length bs) (at + 1 + (length bs - length (bytes_after b bs))) (bytes_after b bs) in
    let by : (v : Bool) → is_blank b ≡ v → k ≡ cond v (1 + p) 0 → (if v then tokens_from (length bs) (at + 1) bs else Rest) ≡ tokens_from (length (drop k (b ∷ bs))) (at + k) (drop k (b ∷ bs)) =
    λ v. elim v as (λ v. is_blank b ≡ v → k ≡ cond v (1 + p) 0 → (if v then tokens_from (length bs) (at + 1) bs else Rest) ≡ tokens_from (length (drop k (b ∷ bs))) (at + k) (drop k (b ∷ bs))) [
      | true ↦ λ h g.
          let s : k ≡ suc p = omega arith in
          let a : at + suc p ≡ at + 1 + p = omega arith in
          rw (s, a) (tokens_behind_blanks (at + 1) bs p refl)
      | false ↦ λ h g.
          let a : at + 0 ≡ at = omega arith in
          rw (g, a, h) refl
    ] in
    by (is_blank b) refl e

-- a token that begins with no blank
pub tokens_first : (at b : ℕ) (bs : List ℕ) → is_blank b ≡ false → tokens_from (suc (length bs)) at (b ∷ bs) ≡ record { at = at; kind = kind_at b bs } ∷ tokens_from (length (bytes_after b bs)) (at + 1 + (length bs - length (bytes_after b bs))) (bytes_after b bs)
unfolding tokens_from
tokens_first at b bs h =
    rw h (ap (λ x. record { at = at; kind = kind_at b bs } ∷ x) (tokens_enough (length bs) (length (bytes_after b bs)) _ (bytes_after b bs) (after_short b bs) (omega arith)))

-- no token is left behind blanks alone
pub next_none : (at : ℕ) (bytes rest : List ℕ) → rest ≡ drop (prefix_len is_blank bytes) bytes → length rest ≡ 0 → tokens_from (length bytes) at bytes ≡ []
unfolding tokens_from
next_none at bytes rest e z =
    let k : ℕ = prefix_len is_blank bytes in
    let n : drop k bytes ≡ [] = sym e ∙ nil_from_length rest z in
    tokens_behind_blanks at bytes k refl ∙ ap (λ x. tokens_from (length x) (at + k) x) n

first_is : (at : ℕ) (rest after : List ℕ) → 0 < length rest → is_blank (get_or rest 0 0) ≡ false → after ≡ bytes_after (get_or rest 0 0) (drop 1 rest)
    → tokens_from (length rest) at rest ≡ record { at = at; kind = kind_at (get_or rest 0 0) (drop 1 rest) } ∷ tokens_from (length after) (at + (length rest - length after)) after
first_is at [] after l h e = absurd (omega arith)
first_is at (b ∷ bs) after l h e =
    let s : length (bytes_after b bs) ≤ length bs = after_short b bs in
    let a : at + 1 + (length bs - length (bytes_after b bs)) ≡ at + (suc (length bs) - length (bytes_after b bs)) = omega arith in
    rw e (tokens_first at b bs h ∙ ap (λ x. record { at = at; kind = kind_at b bs } ∷ tokens_from (length (bytes_after b bs)) x (bytes_after b bs)) a)

-- the first token and the bytes after it
pub next_some : (at : ℕ) (bytes rest after : List ℕ) → rest ≡ drop (prefix_len is_blank bytes) bytes → 0 < length rest → after ≡ bytes_after (get_or rest 0 0) (drop 1 rest)
    → tokens_from (length bytes) at bytes ≡ record { at = at + (length bytes - length rest); kind = kind_at (get_or rest 0 0) (drop 1 rest) } ∷ tokens_from (length after) (at + (length bytes - length rest) + (length rest - length after)) after
next_some at bytes rest after e l f =
    let k : ℕ = prefix_len is_blank bytes in
    let n : length rest ≡ length bytes - k = ap length e ∙ length-drop k bytes in
    let i : k < length bytes = omega arith in
    let g : get_or rest 0 0 ≡ get_or bytes k 0 = ap (λ x. get_or x 0 0) (e ∙ drop_more bytes k 0 i) in
    let h : is_blank (get_or rest 0 0) ≡ false = ap is_blank g ∙ prefix_len_stops is_blank bytes 0 i in
    let a : at + k ≡ at + (length bytes - length rest) = omega arith in
    tokens_behind_blanks at bytes k refl ∙ ap (λ x. tokens_from (length x) (at + k) x) (sym e) ∙ ap (λ x. tokens_from (length rest) x rest) a ∙ first_is (at + (length bytes - length rest)) rest after l h f

abbrev is_end : Kind → Bool
is_end ended = true
is_end _ = false

quoted_goes_on : (o : Option (List ℕ × List ℕ)) → is_end (quoted_kind o) ≡ false
quoted_goes_on None = refl
quoted_goes_on (Some r) = refl

-- a byte begins a token
pub kind_is_no_end : (b : ℕ) (bs : List ℕ) → kind_at b bs ≡ ended → ⊥
kind_is_no_end b bs e =
    let Word : Kind = word (b ∷ take (prefix_len is_word_byte bs) bs) in
    let Quoted : Kind = quoted_kind (quoted_bytes 34 bs) in
    let third : is_end (if b == 34 then Quoted else Word) ≡ false = elim (b == 34) as (λ v. is_end (if v then Quoted else Word) ≡ false) [ true ↦ quoted_goes_on (quoted_bytes 34 bs) | false ↦ refl ] in
    let second : is_end (if b == 125 then close_brace else if b == 34 then Quoted else Word) ≡ false =
    elim (b == 125) as (λ v. is_end (if v then close_brace else if b == 34 then Quoted else Word) ≡ false) [ true ↦ refl | false ↦ third ] in
    let first : is_end (kind_at b bs) ≡ false =
    elim (b == 123) as (λ v. is_end (if v then open_brace else if b == 125 then close_brace else if b == 34 then Quoted else Word) ≡ false) [ true ↦ refl | false ↦ second ] in
    true≢false (sym (ap is_end e) ∙ first)

-- ---- the next token of a stream, and what is left behind it
pub end_next : (at place : ℕ) (bytes : List ℕ) → tokens_from (length bytes) at bytes ≡ [] → place ≡ at + length bytes → record { at = place; kind = ended } ≡ next (stream_from at bytes)
unfolding next
end_next at place bytes e p =
    let end : Token = record { at = at + length bytes; kind = ended } in
    let wanted : ℕ → Token = λ n. record { at = n; kind = ended } in
    ap wanted p ∙ sym (ap (first_or end) e)

pub end_rest : (at place : ℕ) (bytes behind : List ℕ) → tokens_from (length bytes) at bytes ≡ [] → length behind ≡ 0 → place ≡ at + length bytes → stream_from place behind ≡ rest (stream_from at bytes)
unfolding rest tokens_from
end_rest at place bytes behind e z p =
    let n : behind ≡ [] = nil_from_length behind z in
    let q : place + 0 ≡ at + length bytes = omega arith in
    let end : ℕ → Stream = λ n. record { tokens = []; end = n } in
    let left : List Token → Stream = λ ts. record { tokens = drop 1 ts; end = at + length bytes } in
    ap (stream_from place) n ∙ ap end q ∙ sym (ap left e)

pub token_next : (at : ℕ) (bytes : List ℕ) (t : Token) (ts : List Token) → tokens_from (length bytes) at bytes ≡ t ∷ ts → t ≡ next (stream_from at bytes)
unfolding next
token_next at bytes t ts e =
    let end : Token = record { at = at + length bytes; kind = ended } in
    sym (ap (first_or end) e)

pub token_rest : (at place : ℕ) (bytes after : List ℕ) (t : Token) (ts : List Token) → tokens_from (length bytes) at bytes ≡ t ∷ ts → ts ≡ tokens_from (length after) place after
    → place + length after ≡ at + length bytes → stream_from place after ≡ rest (stream_from at bytes)
unfolding rest
token_rest at place bytes after t ts e f p =
    let left : List Token → Stream = λ ts. record { tokens = drop 1 ts; end = at + length bytes } in
    let end : ℕ → Stream = λ n. record { tokens = tokens_from (length after) place after; end = n } in
    let behind : List Token → Stream = λ ts. record { tokens = ts; end = at + length bytes } in
    ap end p ∙ ap behind (sym f) ∙ sym (ap left e)
