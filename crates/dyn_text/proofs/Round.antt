-- The canonical text of transitions is a file that has them.
use Rattle.std.proofs.Common.{◌≡◌, ◌≢◌, ℕ, zero, suc, ◌+◌, ◌-◌, ◌<◌, ◌≤◌, ◌^◌, Bool, true, false, if◌then◌else◌, List, [], ◌∷◌, ◌++◌, length, Option, Some, None, Result, Ok, Err, All, IfOk, refl, sym, ◌∙◌, ap, subst, arith, append_assoc, codes, decimal, lit<}
use Rattle.std.specs.List.{flat_map}
use Rattle.std.specs.Option.{option_map}
use Rattle.std.specs.Str.{is_utf8}
use Rattle.token_text.specs.Tokens.{Token, Kind, open_brace, close_brace, quoted, word, ended, Stream, next, rest, stream_of}
use Rattle.token_text.specs.Quoted.{quoted_text, IsText}
use Rattle.token_text.proofs.Written.{written, Begins, ends_word, whole_text, blank_written, open_written, close_written, word_written}
use Rattle.nfg_text.specs.declared.fault.NfgFault.{NfgFault}
use Rattle.nfg_text.specs.declared.what.What.TheVariants.{Whole}
use Rattle.nfg_text.specs.Wanted.{◌>>=◌, bad, whole_in, limited, exact_at, quoted_at, open_at, close_at, end_at, many_at, behind, bad_past}
use Rattle.nfg_text.specs.Canonical.{braced, counts_text}
use Rattle.nfg_text.proofs.Decimals.{whole_again, limited_again, decimal_word}
use Rattle.nfg_text.proofs.Loops.{many_end, behind_none}
use Rattle.nfg_text.proofs.Written.{IsRead, IsPassed, read_blank, passed_blank, open_passed, close_passed, quoted_read, exact_passed, end_passed, all_first, all_others, items_end, many_read, many_closed, braced_append}
use Rattle.dyn_text.specs.declared.transitions.Dyn.{Dyn}
use Rattle.dyn_text.specs.declared.transitions.DynState.{DynState}
use Rattle.dyn_text.specs.Grammar.{dyn_of, file_at, states_at, states_past, full_at, state_at, state_or_close_at, successors_at, successor_or_close_at, successor_as, file_name_at, name_as, name_of}
use Rattle.dyn_text.specs.Canonical.{canonical, state_line}
use Rattle.dyn_text.specs.Writable.{IsWritable, IsState}
use Rattle.dyn_text.proofs.Steps.{item_shorter}

-- ---- successors
abbrev IsSmall : ℕ → Type 0
IsSmall n = n ≤ 4294967295

successor_read : (n : ℕ) (after : List ℕ) → IsSmall n → ends_word after ≡ true → IsRead successor_or_close_at (decimal n ++ after) (Some n) after
unfolding successor_or_close_at
successor_read n after k e at =
    let few : 4294967295 < 10 ^ 36 = lit< tt in
    let wide : 4294967295 < 10 ^ 64 = lit< tt in
    let fits : n < 10 ^ 64 = omega arith in
    let short : n < 10 ^ 36 = omega arith in
    let w : List ℕ = decimal n in
    let b = word_written at w after (decimal_word n fits) e in
    let t : Token = record { at = at; kind = word w } in
    let value : successor_as t (whole_in (word w)) ≡ Ok n =
    ap (λ (o : Option ℕ). successor_as t (option_map (λ (n : ℕ). (n, length w)) o)) (whole_again n fits) ∙ limited_again Whole 4294967295 at n k short fits in
    let place : ℕ = at + length w in
    let step : Result ℕ NfgFault → Result (Option ℕ × Stream) NfgFault = λ r. r >>= λ n. Ok (Some n, rest (written at (w ++ after))) in
    let token = b.token in
    let left : Stream → Result (Option ℕ × Stream) NfgFault = λ s. Ok (Some n, s) in
    let first : Token → Result (Option ℕ × Stream) NfgFault = λ u. successor_as u (whole_in (word w)) >>= λ n. Ok (Some n, rest (written at (w ++ after))) in
    (place, rw (token, successor_or_close_at) (ap first b.token ∙ ap step value ∙ ap left b.left))

blank_successor : (n : ℕ) (after : List ℕ) → IsSmall n → ends_word after ≡ true → IsRead successor_or_close_at ((32 ∷ decimal n) ++ after) (Some n) after
blank_successor n after k e = read_blank successor_or_close_at (decimal n ++ after) (Some n) after (successor_read n after k e)

successors_closed : (after : List ℕ) (at : ℕ) → successor_or_close_at (written at (32 ∷ 125 ∷ after)) ≡ Ok (None, written (at + 1 + 1) after)
unfolding successor_or_close_at
successors_closed after at =
    let b = close_written (at + 1) after in
    let token = b.token in
    let left : Stream → Result (Option ℕ × Stream) NfgFault = λ s. Ok (None, s) in
    ap successor_or_close_at (blank_written at 32 (125 ∷ after) refl) ∙ rw (token, successor_or_close_at) (ap left b.left)

-- each takes a token at least
room_for : (ns : List ℕ) (tail : List ℕ) (at : ℕ) → ends_word tail ≡ true → All IsSmall ns → length ns ≤ length (written at (counts_text ns ++ tail)).tokens
room_for [] tail at e a = omega arith
room_for (n ∷ ns) tail at e a =
    let more : List ℕ = counts_text ns ++ tail in
    let s : Stream = written at (((32 ∷ decimal n) ++ counts_text ns) ++ tail) in
    let first = blank_successor n more (all_first IsSmall n ns a) (items_end (λ n. 32 ∷ decimal n) ns tail (λ n after. refl) e) at in
    let here : successor_or_close_at s ≡ Ok (Some n, written first.0 more) = ap (λ b. successor_or_close_at (written at b)) (append_assoc (32 ∷ decimal n) (counts_text ns) tail) ∙ first.1 in
    let t : Stream = written first.0 more in
    let shorter : length t.tokens < length s.tokens = item_shorter s t n here in
    let others : length ns ≤ length t.tokens = room_for ns tail first.0 e (all_others IsSmall n ns a) in
    let all : suc (length ns) ≤ length s.tokens = omega arith in
    all

successors_read : (ns after : List ℕ) → All IsSmall ns → IsRead successors_at (counts_text ns ++ 32 ∷ 125 ∷ after) ns after
unfolding successors_at
successors_read ns after a at =
    let tail : List ℕ = 32 ∷ 125 ∷ after in
    let s : Stream = written at (counts_text ns ++ tail) in
    let enough : length ns ≤ length s.tokens = room_for ns tail at refl a in
    let room : ℕ = length s.tokens - length ns in
    let whole_room : suc (length s.tokens) ≡ length ns + suc room = omega arith in
    let all : Result (List ℕ × Stream) NfgFault = many_at successor_or_close_at bad_past (suc (length s.tokens)) s in
    let start : all ≡ behind [] all = behind_none all in
    let p = many_read (λ n. 32 ∷ decimal n) IsSmall successor_or_close_at bad_past tail all ns [] (suc (length s.tokens)) (suc room) at
    (λ n rest h e. blank_successor n rest h e) (λ n rest. refl) refl whole_room a start in
    (p.0 + 1 + 1, many_end successor_or_close_at bad_past all (suc room) room ns (written p.0 tail) (written (p.0 + 1 + 1) after) p.1 refl (successors_closed after p.0))

-- ---- a state
file_read : (t after : List ℕ) → IsText t → is_utf8 t ≡ true → IsRead file_name_at (quoted_text t ++ after) t after
unfolding file_name_at
file_read t after h u at =
    let s : Stream = written at (quoted_text t ++ after) in
    let p = quoted_read t after h at in
    let utf8 : Bool → Result (List ℕ × Stream) NfgFault = λ v. name_as (next s) (if v then Some t else None) >>= λ name. Ok (name, written p.0 after) in
    let text_is = p.1 in
    (p.0, rw text_is (ap utf8 u))

four_texts : (a b c d after : List ℕ) → (((a ++ b) ++ c) ++ d) ++ after ≡ a ++ (b ++ (c ++ (d ++ after)))
four_texts a b c d after =
    append_assoc ((a ++ b) ++ c) d after ∙ append_assoc (a ++ b) c (d ++ after) ∙ append_assoc a b (c ++ (d ++ after))

-- the bytes of a state's line and those behind it
abbrev line_before : DynState → List ℕ → List ℕ
line_before x after = 123 ∷ 32 ∷ quoted_text x.name ++ (32 ∷ quoted_text x.file ++ (32 ∷ 123 ∷ counts_text x.next ++ 32 ∷ 125 ∷ 32 ∷ 125 ∷ 10 ∷ after))

line_is : (x : DynState) (after : List ℕ) → state_line x ++ after ≡ line_before x after
line_is x after =
    ap (λ l. 123 ∷ 32 ∷ l) (four_texts (quoted_text x.name) (32 ∷ quoted_text x.file) (braced (counts_text x.next)) (codes " }\n") after)
    ∙ ap (λ l. 123 ∷ 32 ∷ quoted_text x.name ++ (32 ∷ quoted_text x.file ++ l)) (braced_append (counts_text x.next) (32 ∷ 125 ∷ 10 ∷ after))

line_read : (x : DynState) (after : List ℕ) → IsState x → IsRead state_at (line_before x after) x after
unfolding state_at
line_read x after h at =
    let closing : List ℕ = 32 ∷ 125 ∷ 10 ∷ after in
    let counts : List ℕ = counts_text x.next ++ 32 ∷ 125 ∷ closing in
    let third : List ℕ = 32 ∷ 123 ∷ counts in
    let second : List ℕ = 32 ∷ quoted_text x.file ++ third in
    let a = open_passed (32 ∷ quoted_text x.name ++ second) at in
    let name = read_blank quoted_at (quoted_text x.name ++ second) x.name second (quoted_read x.name second h.name) a.0 in
    let file = read_blank file_name_at (quoted_text x.file ++ third) x.file third (file_read x.file third h.file h.utf8) name.0 in
    let b = passed_blank open_at (123 ∷ counts) counts (open_passed counts) file.0 in
    let followers = successors_read x.next closing h.next b.0 in
    let c = passed_blank close_at (125 ∷ 10 ∷ after) (10 ∷ after) (close_passed (10 ∷ after)) followers.0 in
    let a_is = a.1 in
    let name_is = name.1 in
    let file_is = file.1 in
    let b_is = b.1 in
    let followers_is = followers.1 in
    let c_is : close_at (written followers.0 closing) ≡ Ok (written (c.0 + 1) after) = c.1 ∙ ap (λ s. Ok s) (blank_written c.0 10 after refl) in
    (c.0 + 1, rw (a_is, name_is, file_is, b_is, followers_is, c_is) refl)

state_read : (x : DynState) (after : List ℕ) → IsState x → IsRead state_at (state_line x ++ after) x after
state_read x after h at = let p = line_read x after h at in (p.0, ap (λ b. state_at (written at b)) (line_is x after) ∙ p.1)

-- ---- states
another_read : (x : DynState) (after : List ℕ) → IsState x → IsRead state_or_close_at (state_line x ++ after) (Some x) after
unfolding state_or_close_at
another_read x after h at =
    let p = line_read x after h at in
    let token = (open_written at (32 ∷ quoted_text x.name ++ (32 ∷ quoted_text x.file ++ (32 ∷ 123 ∷ counts_text x.next ++ 32 ∷ 125 ∷ 32 ∷ 125 ∷ 10 ∷ after)))).token in
    let step : Result (DynState × Stream) NfgFault → Result (Option DynState × Stream) NfgFault = λ r. r >>= λ x. Ok (Some x.0, x.1) in
    (p.0, ap (λ b. state_or_close_at (written at b)) (line_is x after) ∙ rw (token, state_or_close_at) (ap step p.1))

states_closed : (after : List ℕ) (at : ℕ) → state_or_close_at (written at (125 ∷ after)) ≡ Ok (None, written (at + 1) after)
unfolding state_or_close_at
states_closed after at =
    let b = close_written at after in
    let token = b.token in
    let left : Stream → Result (Option DynState × Stream) NfgFault = λ s. Ok (None, s) in
    rw (token, state_or_close_at) (ap left b.left)

full_closed : (after : List ℕ) (at : ℕ) → full_at (written at (125 ∷ after)) ≡ Ok (written (at + 1) after)
unfolding full_at
full_closed after at =
    let b = close_written at after in
    let token = b.token in
    let left : Stream → Result Stream NfgFault = λ s. Ok s in
    rw (token, full_at) (ap left b.left)

past_closed : (after : List ℕ) (at : ℕ) → states_past (written at (125 ∷ after)) ≡ Ok ([], written (at + 1) after)
past_closed after at =
    let step : Result Stream NfgFault → Result (List DynState × Stream) NfgFault = λ r. r >>= λ a. Ok ([], a) in
    ap step (full_closed after at)

more_states : (x : DynState) (xs : List DynState) (after : List ℕ) (at : ℕ) → length xs ≤ 63 → All IsState xs
    → (place : ℕ) × (behind (x ∷ []) (many_at state_or_close_at states_past 63 (written at (flat_map state_line xs ++ 125 ∷ after))) ≡ Ok (x ∷ xs, written place after))
more_states x xs after at l a =
    let tail : List ℕ = 125 ∷ after in
    let room : ℕ = 63 - length xs in
    let enough : 63 ≡ length xs + room = omega arith in
    let all : Result (List DynState × Stream) NfgFault = behind (x ∷ []) (many_at state_or_close_at states_past 63 (written at (flat_map state_line xs ++ tail))) in
    let p = many_read state_line IsState state_or_close_at states_past tail all xs (x ∷ []) 63 room at
    (λ x rest h e. another_read x rest h) (λ x rest. refl) refl enough a refl in
    (p.0 + 1, many_closed state_or_close_at states_past all (x ∷ xs) room (written p.0 tail) (written (p.0 + 1) after) (states_closed after p.0) (past_closed after p.0) p.1)

states_read : (xs : List DynState) (after : List ℕ) → 0 < length xs → length xs ≤ 64 → All IsState xs → IsRead states_at (flat_map state_line xs ++ 125 ∷ after) xs after
unfolding states_at
states_read [] after l m a at = absurd (omega arith)
states_read (x ∷ xs) after l m a at =
    let more : List ℕ = flat_map state_line xs ++ 125 ∷ after in
    let first = state_read x more (all_first IsState x xs a) at in
    let others = more_states x xs after first.0 (omega arith) (all_others IsState x xs a) in
    let first_is : state_at (written at ((state_line x ++ flat_map state_line xs) ++ 125 ∷ after)) ≡ Ok (x, written first.0 more) =
    ap (λ b. state_at (written at b)) (append_assoc (state_line x) (flat_map state_line xs) (125 ∷ after)) ∙ first.1 in
    let others_is = others.1 in
    (others.0, rw first_is others_is)

-- ---- the whole
whole_read : (d : Dyn) (at : ℕ) → IsWritable d → file_at (written at (canonical d)) ≡ Ok d
unfolding file_at
whole_read d at h =
    let lines : List ℕ = flat_map state_line d.states ++ codes "}\n" in
    let title_ : List ℕ = quoted_text d.title ++ (codes " {\n" ++ lines) in
    let dyn = exact_passed (codes "DYN") (codes " 1 " ++ title_) refl refl at in
    let one = passed_blank (exact_at (codes "1")) (codes "1 " ++ title_) (32 ∷ title_) (exact_passed (codes "1") (32 ∷ title_) refl refl) dyn.0 in
    let title = read_blank quoted_at title_ d.title (codes " {\n" ++ lines) (quoted_read d.title (codes " {\n" ++ lines) h.title) one.0 in
    let open_ = passed_blank open_at (codes "{\n" ++ lines) (10 ∷ lines) (open_passed (10 ∷ lines)) title.0 in
    let states = states_read d.states (10 ∷ []) h.some h.most h.states (open_.0 + 1) in
    let dyn_is = dyn.1 in
    let one_is = one.1 in
    let title_is = title.1 in
    let open_is : open_at (written title.0 (codes " {\n" ++ lines)) ≡ Ok (written (open_.0 + 1) lines) = open_.1 ∙ ap (λ s. Ok s) (blank_written open_.0 10 lines refl) in
    let states_is = states.1 in
    let end_is = ap end_at (blank_written states.0 10 [] refl) ∙ end_passed (states.0 + 1) in
    let shape : ((quoted_text d.title ++ codes " {\n") ++ flat_map state_line d.states) ++ codes "}\n" ≡ title_ =
    append_assoc (quoted_text d.title ++ codes " {\n") (flat_map state_line d.states) (codes "}\n") ∙ append_assoc (quoted_text d.title) (codes " {\n") lines in
    ap (λ l. file_at (written at (codes "DYN 1 " ++ l))) shape ∙ rw (dyn_is, one_is, title_is, open_is, states_is, end_is) refl

pub dyn_again : (d : Dyn) → IsWritable d → dyn_of (canonical d) ≡ Ok d
unfolding dyn_of
dyn_again d h = ap file_at (whole_text (canonical d)) ∙ whole_read d 0 h

-- a text that was written, where memory sufficed
pub written_again : {E : Type 0} (r : Result (List ℕ) E) (d : Dyn) → IfOk r (λ t. t ≡ canonical d) → IfOk r (λ t. IsWritable d → dyn_of t ≡ Ok d)
written_again (Ok t) d h = λ k. ap dyn_of h ∙ dyn_again d k
written_again (Err e) d h = tt
