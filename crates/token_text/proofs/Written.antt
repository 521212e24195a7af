-- A text that is written from the left on: the token that it begins with, its place, and what is left behind it.
use Rattle.std.proofs.Common.{◌≡◌, ◌≢◌, ℕ, zero, suc, ◌+◌, ◌-◌, ◌<◌, ◌≤◌, ◌==◌, ◌&&◌, ◌||◌, Bool, true, false, not, cond, if◌then◌else◌, List, [], ◌∷◌, ◌++◌, length, take, drop, Option, Some, None, refl, sym, ◌∙◌, ap, subst, arith, append_assoc, length-append}
use Rattle.std.specs.Option.{option_map}
use Rattle.std.specs.List.{prefix_len}
use Rattle.std.proofs.lemmas.Bool.{true≢false}
use Rattle.std.proofs.lemmas.Bool.Decides.{nat_tests}
use Rattle.token_text.specs.Tokens.{Token, Kind, open_brace, close_brace, quoted, word, ended, quoted_kind, after_quoted, quoted_bytes, unescaped, begins_with_quote, is_blank, is_word_byte, kind_at, bytes_after, Stream, stream_from, stream_of, tokens_from, next, rest}
use Rattle.token_text.specs.Quoted.{escaped, quoted_text, last_or, IsText}
use Rattle.token_text.proofs.Lexing.{after_short, tokens_first, token_next, token_rest, end_next}

-- The tokens of bytes that stand behind `at` others, to the end of the text.
unfoldable pub written : ℕ → List ℕ → Stream
written at bytes = stream_from at bytes

-- The bytes begin with this token, and so many stand before those behind it.
pub record Begins (at : ℕ) (bytes : List ℕ) (kind : Kind) (place : ℕ) (behind : List ℕ) : Type 0 where
  pub token : next (written at bytes) ≡ record { at = at; kind = kind }
  pub left : rest (written at bytes) ≡ written place behind

pub whole_text : (bytes : List ℕ) → stream_of bytes ≡ written 0 bytes
unfolding stream_of written
whole_text bytes = refl

abbrev stream : List Token → ℕ → Stream
stream ts n = record { tokens = ts; end = n }

same_stream : (ts us : List Token) (n m : ℕ) → ts ≡ us → n ≡ m → stream ts n ≡ stream us m
same_stream ts us n m e f = ap (stream ts) f ∙ ap (λ ts. stream ts m) e

-- a blank is no token
pub blank_written : (at b : ℕ) (bytes : List ℕ) → is_blank b ≡ true → written at (b ∷ bytes) ≡ written (at + 1) bytes
unfolding written tokens_from
blank_written at b bytes h =
    let Rest : List Token = record { at = at; kind = kind_at b bytes } ∷ tokens_from (length bytes) (at + 1 + (length bytes - length (bytes_after b bytes))) (bytes_after b bytes) in
    same_stream (tokens_from (length (b ∷ bytes)) at (b ∷ bytes)) (tokens_from (length bytes) (at + 1) bytes) (at + length (b ∷ bytes)) (at + 1 + length bytes)
    (ap (λ v. if v then tokens_from (length bytes) (at + 1) bytes else Rest) h) (omega arith)

-- behind the last byte
pub end_written : (at : ℕ) → next (written at []) ≡ record { at = at; kind = ended }
unfolding written tokens_from
end_written at = sym (end_next at at [] refl (omega arith))

-- the token that begins with a byte
begins : (at b place : ℕ) (bs after : List ℕ) (k : Kind) → is_blank b ≡ false → kind_at b bs ≡ k → bytes_after b bs ≡ after → place + length after ≡ at + suc (length bs) → Begins at (b ∷ bs) k place after
unfolding written
begins at b place bs after k h e f p =
    let s : length (bytes_after b bs) ≤ length bs = after_short b bs in
    let l : length (bytes_after b bs) ≡ length after = ap length f in
    let q : at + 1 + (length bs - length (bytes_after b bs)) ≡ place = omega arith in
    let t : Token = record { at = at; kind = kind_at b bs } in
    let ts : List Token = tokens_from (length (bytes_after b bs)) (at + 1 + (length bs - length (bytes_after b bs))) (bytes_after b bs) in
    let same : ts ≡ tokens_from (length after) place after = ap (λ n. tokens_from (length (bytes_after b bs)) n (bytes_after b bs)) q ∙ ap (λ xs. tokens_from (length xs) place xs) f in
    let kinds : Kind → Token = λ k. record { at = at; kind = k } in
    record {
      token = sym (token_next at (b ∷ bs) t ts (tokens_first at b bs h)) ∙ ap kinds e;
      left = sym (token_rest at place (b ∷ bs) after t ts (tokens_first at b bs h) same p);
    }

pub open_written : (at : ℕ) (bytes : List ℕ) → Begins at (123 ∷ bytes) open_brace (at + 1) bytes
open_written at bytes = begins at 123 (at + 1) bytes bytes open_brace refl refl refl (omega arith)

pub close_written : (at : ℕ) (bytes : List ℕ) → Begins at (125 ∷ bytes) close_brace (at + 1) bytes
close_written at bytes = begins at 125 (at + 1) bytes bytes close_brace refl refl refl (omega arith)

-- ---- a quoted text
quote_is : (b : ℕ) → (b == 34) ≡ true → b ≡ 34
quote_is b h = grind (arith, nat_tests)

not_backslash : (b : ℕ) → b ≢ 92 → (b == 92) ≡ false
not_backslash b h = grind (arith, nat_tests)

-- the quote behind it is the first that closes it
quoted_whole : (before : ℕ) (t after : List ℕ) → last_or before t ≢ 92 → quoted_bytes before (escaped t ++ 34 ∷ after) ≡ Some (escaped t, after)
quoted_whole before [] after h =
    ap (λ v. if not v then Some ([], after) else option_map (λ (r : List ℕ × List ℕ). (34 ∷ r.0, r.1)) (quoted_bytes 34 after)) (not_backslash before h)
quoted_whole before (b ∷ bs) after h =
    let Piece : Bool → List ℕ = λ v. if v then 92 ∷ 34 ∷ [] else b ∷ [] in
    let by : (v : Bool) → (b == 34) ≡ v → quoted_bytes before ((Piece v ++ escaped bs) ++ 34 ∷ after) ≡ Some (Piece v ++ escaped bs, after) =
    λ v. elim v as (λ v. (b == 34) ≡ v → quoted_bytes before ((Piece v ++ escaped bs) ++ 34 ∷ after) ≡ Some (Piece v ++ escaped bs, after)) [
      | true ↦ λ e.
          let l : last_or 34 bs ≢ 92 = subst (λ b. last_or b bs ≢ 92) (quote_is b e) h in
          let more : ℕ → Option (List ℕ × List ℕ) → Option (List ℕ × List ℕ) = λ b. option_map (λ (r : List ℕ × List ℕ). (b ∷ r.0, r.1)) in
          ap (λ o. more 92 (more 34 o)) (quoted_whole 34 bs after l)
      | false ↦ λ e.
          let Next : Option (List ℕ × List ℕ) = option_map (λ (r : List ℕ × List ℕ). (b ∷ r.0, r.1)) (quoted_bytes b (escaped bs ++ 34 ∷ after)) in
          ap (λ v. if v && not (before == 92) then Some ([], escaped bs ++ 34 ∷ after) else Next) e
          ∙ ap (option_map (λ (r : List ℕ × List ℕ). (b ∷ r.0, r.1))) (quoted_whole b bs after h)
    ] in
    by (b == 34) refl

begins_plain : (t : List ℕ) → begins_with_quote (escaped t) ≡ false
begins_plain [] = refl
begins_plain (b ∷ bs) =
    let by : (v : Bool) → (b == 34) ≡ v → begins_with_quote ((if v then 92 ∷ 34 ∷ [] else b ∷ []) ++ escaped bs) ≡ false =
    λ v. elim v as (λ v. (b == 34) ≡ v → begins_with_quote ((if v then 92 ∷ 34 ∷ [] else b ∷ []) ++ escaped bs) ≡ false) [
      | true ↦ λ e. refl
      | false ↦ λ e. e
    ] in
    by (b == 34) refl

and_false : (a b : Bool) → b ≡ false → (a && b) ≡ false
and_false true b h = h
and_false false b h = refl

kept : (b : ℕ) (bs : List ℕ) → begins_with_quote bs ≡ false → unescaped (b ∷ bs) ≡ b ∷ unescaped bs
kept b bs h = ap (λ v. if v then unescaped bs else b ∷ unescaped bs) (and_false (b == 92) (begins_with_quote bs) h)

-- a text that is escaped reads as itself
pub unescaped_again : (t : List ℕ) → unescaped (escaped t) ≡ t
unescaped_again [] = refl
unescaped_again (b ∷ bs) =
    let Piece : Bool → List ℕ = λ v. if v then 92 ∷ 34 ∷ [] else b ∷ [] in
    let by : (v : Bool) → (b == 34) ≡ v → unescaped (Piece v ++ escaped bs) ≡ b ∷ bs =
    λ v. elim v as (λ v. (b == 34) ≡ v → unescaped (Piece v ++ escaped bs) ≡ b ∷ bs) [
      | true ↦ λ e. ap (λ xs. 34 ∷ xs) (unescaped_again bs) ∙ ap (λ b. b ∷ bs) (sym (quote_is b e))
      | false ↦ λ e. kept b (escaped bs) (begins_plain bs) ∙ ap (λ xs. b ∷ xs) (unescaped_again bs)
    ] in
    by (b == 34) refl

pub quoted_written : (at : ℕ) (t bytes : List ℕ) → IsText t → Begins at (quoted_text t ++ bytes) (quoted t) (at + length (quoted_text t)) bytes
quoted_written at t bytes h =
    let inner : List ℕ = (escaped t ++ 34 ∷ []) ++ bytes in
    let e : quoted_bytes 34 inner ≡ Some (escaped t, bytes) = ap (quoted_bytes 34) (append_assoc (escaped t) (34 ∷ []) bytes) ∙ quoted_whole 34 t bytes h in
    let n : at + length (34 ∷ escaped t ++ 34 ∷ []) + length bytes ≡ at + suc (length inner) = omega (arith, length-append (escaped t ++ 34 ∷ []) bytes) in
    begins at 34 (at + length (quoted_text t)) inner bytes (quoted t) refl (ap quoted_kind e ∙ ap quoted (unescaped_again t)) (ap after_quoted e) n

-- ---- a word
abbrev pub are_word_bytes : List ℕ → Bool
are_word_bytes [] = true
are_word_bytes (b ∷ bs) = is_word_byte b && are_word_bytes bs

abbrev pub is_word : List ℕ → Bool
is_word [] = false
is_word (b ∷ bs) = is_word_byte b && are_word_bytes bs

-- no word goes on into the bytes
abbrev pub ends_word : List ℕ → Bool
ends_word [] = true
ends_word (b ∷ bs) = not (is_word_byte b)

pub both : (a b : Bool) → (a && b) ≡ true → (a ≡ true) × (b ≡ true)
both true b h = (refl, h)
both false b h = absurd (true≢false (sym h))

not_true : (b : Bool) → not b ≡ true → b ≡ false
not_true true h = absurd (true≢false (sym h))
not_true false h = refl

-- the run of a word's bytes
run_is : (w after : List ℕ) → are_word_bytes w ≡ true → ends_word after ≡ true → take (prefix_len is_word_byte (w ++ after)) (w ++ after) ≡ w
run_is [] [] h k = refl
run_is [] (b ∷ bs) h k = ap (λ v. take (cond v (1 + prefix_len is_word_byte bs) 0) (b ∷ bs)) (not_true (is_word_byte b) k)
run_is (b ∷ bs) after h k =
    let p = both (is_word_byte b) (are_word_bytes bs) h in
    let n : 1 + prefix_len is_word_byte (bs ++ after) ≡ suc (prefix_len is_word_byte (bs ++ after)) = omega arith in
    ap (λ v. take (cond v (1 + prefix_len is_word_byte (bs ++ after)) 0) (b ∷ bs ++ after)) p.0
    ∙ ap (λ m. take m (b ∷ bs ++ after)) n
    ∙ ap (λ xs. b ∷ xs) (run_is bs after p.1 k)

drop_front : (w after : List ℕ) → drop (length w) (w ++ after) ≡ after
drop_front [] after = refl
drop_front (b ∷ bs) after = drop_front bs after

none_of : (p q r s : Bool) → not (p || q || r || s) ≡ true → (p ≡ false) × (q ≡ false) × (r ≡ false) × (s ≡ false)
none_of true q r s h = absurd (true≢false (sym h))
none_of false true r s h = absurd (true≢false (sym h))
none_of false false true s h = absurd (true≢false (sym h))
none_of false false false true h = absurd (true≢false (sym h))
none_of false false false false h = (refl, refl, refl, refl)

pub word_written : (at : ℕ) (w bytes : List ℕ) → is_word w ≡ true → ends_word bytes ≡ true → Begins at (w ++ bytes) (word w) (at + length w) bytes
word_written at [] bytes h k = absurd (true≢false (sym h))
word_written at (b ∷ bs) bytes h k =
    let p = both (is_word_byte b) (are_word_bytes bs) h in
    let o = none_of (is_blank b) (b == 123) (b == 125) (b == 34) p.0 in
    let inner : List ℕ = bs ++ bytes in
    let run : take (prefix_len is_word_byte inner) inner ≡ bs = run_is bs bytes p.1 k in
    let Quoted : Kind = quoted_kind (quoted_bytes 34 inner) in
    let Word : Kind = word (b ∷ take (prefix_len is_word_byte inner) inner) in
    let kinds : kind_at b inner ≡ word (b ∷ bs) =
    ap (λ v. if v then open_brace else if b == 125 then close_brace else if b == 34 then Quoted else Word) o.1
    ∙ ap (λ v. if v then close_brace else if b == 34 then Quoted else Word) o.2
    ∙ ap (λ v. if v then Quoted else Word) o.3
    ∙ ap (λ xs. word (b ∷ xs)) run in
    let Behind : List ℕ = drop (length (take (prefix_len is_word_byte inner) inner)) inner in
    let After : List ℕ = after_quoted (quoted_bytes 34 inner) in
    let after : bytes_after b inner ≡ bytes =
    ap (λ v. if v || (b == 125) then inner else if b == 34 then After else Behind) o.1
    ∙ ap (λ v. if v then inner else if b == 34 then After else Behind) o.2
    ∙ ap (λ v. if v then After else Behind) o.3
    ∙ ap (λ xs. drop (length xs) inner) run
    ∙ drop_front bs bytes in
    begins at b (at + length (b ∷ bs)) inner bytes (word (b ∷ bs)) o.0 kinds after (omega (arith, length-append bs bytes))
