-- What is written is read, part by part: a value, and the bytes behind it are left.
use Rattle.std.proofs.Common.{◌≡◌, ◌≢◌, ℕ, zero, suc, ◌+◌, ◌*◌, ◌<◌, ◌≤◌, ◌^◌, ◌==◌, Bool, true, false, not, if◌then◌else◌, List, [], ◌∷◌, ◌++◌, length, get_or, Option, Some, None, Result, Ok, Err, All, refl, sym, ◌∙◌, ap, subst, arith, append_assoc, codes, decimal}
use Rattle.std.specs.List.{flat_map}
use Rattle.std.specs.Str.{bytes_eq}
use Rattle.std.proofs.lemmas.List.{append-nil}
use Rattle.std.proofs.lemmas.Slice.Eq.{bytes_eq-Decides}
use Rattle.pay_frac.specs.Ratio.{Ratio}
use Rattle.pay_frac.specs.Number.{number_of}
use Rattle.token_text.specs.Tokens.{Token, Kind, open_brace, close_brace, quoted, word, ended, Stream, next, rest}
use Rattle.token_text.specs.Quoted.{quoted_text, IsText}
use Rattle.token_text.proofs.Written.{written, Begins, is_word, ends_word, blank_written, end_written, open_written, close_written, quoted_written, word_written}
use Rattle.nfg_text.specs.declared.fault.NfgFault.{NfgFault}
use Rattle.nfg_text.specs.Wanted.{◌>>=◌, bad, or_bad, is_open, is_close, is_end, quoted_in, word_in, same_word, number_as, open_at, close_at, end_at, quoted_at, exact_at, number_at, many_at, times_at, behind}
use Rattle.nfg_text.specs.Canonical.{ratio_text, braced}
use Rattle.nfg_text.specs.Writable.{IsShort}
use Rattle.nfg_text.proofs.Loops.{many_more, many_end, many_past}
use Rattle.nfg_text.proofs.Decimals.{number_again, ratio_word}

-- a part with a value, wherever it stands
abbrev pub IsRead : {A : Type 0} → (Stream → Result (A × Stream) NfgFault) → List ℕ → A → List ℕ → Type 0
IsRead item bytes x after = (at : ℕ) → (place : ℕ) × (item (written at bytes) ≡ Ok (x, written place after))

-- a part without a value
abbrev pub IsPassed : (Stream → Result Stream NfgFault) → List ℕ → List ℕ → Type 0
IsPassed item bytes after = (at : ℕ) → (place : ℕ) × (item (written at bytes) ≡ Ok (written place after))

-- ---- blanks
pub read_blank : {A : Type 0} (item : Stream → Result (A × Stream) NfgFault) (bytes : List ℕ) (x : A) (after : List ℕ) → IsRead item bytes x after → IsRead item (32 ∷ bytes) x after
read_blank item bytes x after h at = let p = h (at + 1) in (p.0, ap item (blank_written at 32 bytes refl) ∙ p.1)

pub passed_blank : (item : Stream → Result Stream NfgFault) (bytes after : List ℕ) → IsPassed item bytes after → IsPassed item (32 ∷ bytes) after
passed_blank item bytes after h at = let p = h (at + 1) in (p.0, ap item (blank_written at 32 bytes refl) ∙ p.1)

-- the same blank behind a part
pub read_to_blank : {A : Type 0} (item : Stream → Result (A × Stream) NfgFault) (bytes : List ℕ) (x : A) (after : List ℕ) → IsRead item bytes x (32 ∷ after) → IsRead item bytes x after
read_to_blank item bytes x after h at = let p = h at in (p.0 + 1, p.1 ∙ ap (λ s. Ok (x, s)) (blank_written p.0 32 after refl))

-- ---- single tokens
pub open_passed : (after : List ℕ) → IsPassed open_at (123 ∷ after) after
unfolding open_at
open_passed after at =
    let h = open_written at after in
    let s : Stream = written at (123 ∷ after) in
    let step : Token → Result Stream NfgFault = λ t. if is_open t.kind then Ok (rest s) else bad t in
    let left : Stream → Result Stream NfgFault = λ s. Ok s in
    (at + 1, ap step h.token ∙ ap left h.left)

pub close_passed : (after : List ℕ) → IsPassed close_at (125 ∷ after) after
unfolding close_at
close_passed after at =
    let h = close_written at after in
    let s : Stream = written at (125 ∷ after) in
    let step : Token → Result Stream NfgFault = λ t. if is_close t.kind then Ok (rest s) else bad t in
    let left : Stream → Result Stream NfgFault = λ s. Ok s in
    (at + 1, ap step h.token ∙ ap left h.left)

pub quoted_read : (t after : List ℕ) → IsText t → IsRead quoted_at (quoted_text t ++ after) t after
unfolding quoted_at
quoted_read t after k at =
    let h = quoted_written at t after k in
    let s : Stream = written at (quoted_text t ++ after) in
    let step : Token → Result (List ℕ × Stream) NfgFault = λ u. or_bad u (quoted_in u.kind) >>= λ t. Ok (t, rest s) in
    let left : Stream → Result (List ℕ × Stream) NfgFault = λ s. Ok (t, s) in
    (at + length (quoted_text t), ap step h.token ∙ ap left h.left)

pub exact_passed : (w after : List ℕ) → is_word w ≡ true → ends_word after ≡ true → IsPassed (exact_at w) (w ++ after) after
unfolding exact_at
exact_passed w after k e at =
    let h = word_written at w after k e in
    let s : Stream = written at (w ++ after) in
    let step : Token → Result Stream NfgFault = λ u. same_word u w (word_in u.kind) >>= λ w. Ok (rest s) in
    let same : Bool → Result Stream NfgFault = λ v. (if v then Ok w else bad (record { at = at; kind = word w })) >>= λ (w : List ℕ). Ok (rest s) in
    let left : Stream → Result Stream NfgFault = λ s. Ok s in
    (at + length w, ap step h.token ∙ ap same ((bytes_eq-Decides w w).1 refl) ∙ ap left h.left)

pub number_read : (r : Ratio) (after : List ℕ) → IsShort r → ends_word after ≡ true → IsRead number_at (ratio_text r ++ after) r after
unfolding number_at
number_read r after k e at =
    let w : List ℕ = ratio_text r in
    let h = word_written at w after (ratio_word r k) e in
    let s : Stream = written at (w ++ after) in
    let t : Token = record { at = at; kind = word w } in
    let step : Token → Result (Ratio × Stream) NfgFault = λ u. or_bad u (word_in u.kind) >>= λ w. number_as u (number_of w) >>= λ r. Ok (r, rest s) in
    let left : Stream → Result (Ratio × Stream) NfgFault = λ s. Ok (r, s) in
    (at + length w, ap step h.token ∙ ap (λ n. number_as t n >>= λ r. Ok (r, rest s)) (number_again r k) ∙ ap left h.left)

pub end_passed : (at : ℕ) → end_at (written at []) ≡ Ok (rest (written at []))
unfolding end_at
end_passed at =
    let s : Stream = written at [] in
    let step : Token → Result Stream NfgFault = λ t. if is_end t.kind then Ok (rest s) else bad t in
    ap step (end_written at)

-- ---- items one after another
-- each is read behind whatever ends a word, and begins with what ends one
pub record Items {A : Type 0} (text : A → List ℕ) (P : A → Type 0) (item : Stream → Result (A × Stream) NfgFault) : Type 0 where
  pub each : (x : A) (after : List ℕ) → P x → ends_word after ≡ true → IsRead item (text x ++ after) x after
  pub starts : (x : A) (after : List ℕ) → ends_word (text x ++ after) ≡ true

pub all_first : {A : Type 0} (P : A → Type 0) (x : A) (xs : List A) → All P (x ∷ xs) → P x
all_first P x xs h = h 0 x (omega arith)

pub all_others : {A : Type 0} (P : A → Type 0) (x : A) (xs : List A) → All P (x ∷ xs) → All P xs
all_others P x xs h = λ k d l. h (suc k) d (omega arith)

pub items_end : {A : Type 0} (text : A → List ℕ) (xs : List A) (tail : List ℕ) → ((x : A) (after : List ℕ) → ends_word (text x ++ after) ≡ true) → ends_word tail ≡ true → ends_word (flat_map text xs ++ tail) ≡ true
items_end text [] tail h e = e
items_end text (x ∷ xs) tail h e = ap ends_word (append_assoc (text x) (flat_map text xs) tail) ∙ h x (flat_map text xs ++ tail)

pub times_first : {A : Type 0} (item : Stream → Result (A × Stream) NfgFault) (n m : ℕ) (x : A) (xs : List A) (s t u : Stream)
    → n ≡ suc m → item s ≡ Ok (x, t) → times_at item m t ≡ Ok (xs, u) → times_at item n s ≡ Ok (x ∷ xs, u)
unfolding times_at
times_first {A = A} item n m x xs s t u e p q =
    ap (λ k. times_at item k s) e
    ∙ ap (λ (r : Result (A × Stream) NfgFault). r >>= λ x. times_at item m x.1 >>= λ more. Ok (x.0 ∷ more.0, more.1)) p
    ∙ ap (λ (r : Result (List A × Stream) NfgFault). r >>= λ more. Ok (x ∷ more.0, more.1)) q

pub times_none : {A : Type 0} (item : Stream → Result (A × Stream) NfgFault) (n : ℕ) (s : Stream) → n ≡ 0 → times_at item n s ≡ Ok ([], s)
unfolding times_at
times_none item n s e = ap (λ k. times_at item k s) e

pub times_read : {A : Type 0} (text : A → List ℕ) (P : A → Type 0) (item : Stream → Result (A × Stream) NfgFault) (tail : List ℕ) (xs : List A) (n : ℕ)
    → Items text P item → ends_word tail ≡ true → n ≡ length xs → All P xs → IsRead (times_at item n) (flat_map text xs ++ tail) xs tail
times_read text P item tail [] n i e l a at = (at, times_none item n (written at tail) l)
times_read text P item tail (x ∷ xs) n i e l a at =
    let more : List ℕ = flat_map text xs ++ tail in
    let first = i.each x more (all_first P x xs a) (items_end text xs tail i.starts e) at in
    let others = times_read text P item tail xs (length xs) i e refl (all_others P x xs a) first.0 in
    let here : item (written at ((text x ++ flat_map text xs) ++ tail)) ≡ Ok (x, written first.0 more) = ap (λ b. item (written at b)) (append_assoc (text x) (flat_map text xs) tail) ∙ first.1 in
    (others.0, times_first item n (length xs) x xs (written at ((text x ++ flat_map text xs) ++ tail)) (written first.0 more) (written others.0 tail) l here others.1)

-- items up to what follows the last, behind those before
pub many_read : {A : Type 0} (text : A → List ℕ) (P : A → Type 0) (item : Stream → Result (Option A × Stream) NfgFault) (past : Stream → Result (List A × Stream) NfgFault) (tail : List ℕ)
    (all : Result (List A × Stream) NfgFault) (xs before : List A) (n room at : ℕ)
    → ((x : A) (after : List ℕ) → P x → ends_word after ≡ true → IsRead item (text x ++ after) (Some x) after)
    → ((x : A) (after : List ℕ) → ends_word (text x ++ after) ≡ true)
    → ends_word tail ≡ true → n ≡ length xs + room → All P xs
    → all ≡ behind before (many_at item past n (written at (flat_map text xs ++ tail)))
    → (place : ℕ) × (all ≡ behind (before ++ xs) (many_at item past room (written place tail)))
many_read text P item past tail all [] before n room at each starts e l a h =
    let m : n ≡ room = omega arith in
    (at, h ∙ ap (λ k. behind before (many_at item past k (written at tail))) m ∙ ap (λ l. behind l (many_at item past room (written at tail))) (sym (append-nil before)))
many_read text P item past tail all (x ∷ xs) before n room at each starts e l a h =
    let more : List ℕ = flat_map text xs ++ tail in
    let first = each x more (all_first P x xs a) (items_end text xs tail starts e) at in
    let s : Stream = written at ((text x ++ flat_map text xs) ++ tail) in
    let here : item s ≡ Ok (Some x, written first.0 more) = ap (λ b. item (written at b)) (append_assoc (text x) (flat_map text xs) tail) ∙ first.1 in
    let one : n ≡ suc (length xs + room) = omega arith in
    let next_one = many_more item past all n (length xs + room) before (before ++ x ∷ []) x s (written first.0 more) h one here refl in
    let others = many_read text P item past tail all xs (before ++ x ∷ []) (length xs + room) room first.0 each starts e refl (all_others P x xs a) next_one in
    (others.0, others.1 ∙ ap (λ l. behind l (many_at item past room (written others.0 tail))) (append_assoc before (x ∷ []) xs))

-- the end, where there is room and where there is none
pub many_closed : {A : Type 0} (item : Stream → Result (Option A × Stream) NfgFault) (past : Stream → Result (List A × Stream) NfgFault) (all : Result (List A × Stream) NfgFault) (xs : List A) (room : ℕ) (s t : Stream)
    → item s ≡ Ok (None, t) → past s ≡ Ok ([], t) → all ≡ behind xs (many_at item past room s) → all ≡ Ok (xs, t)
many_closed item past all xs zero s t p q h = many_past item past all 0 xs s h refl ∙ ap (behind xs) q ∙ ap (λ l. Ok (l, t)) (append-nil xs)
many_closed item past all xs (suc room) s t p q h = many_end item past all (suc room) room xs s t h refl p

-- ---- braces, each behind a blank
pub braced_append : (inner after : List ℕ) → braced inner ++ after ≡ 32 ∷ 123 ∷ inner ++ 32 ∷ 125 ∷ after
braced_append inner after = ap (λ xs. 32 ∷ 123 ∷ xs) (append_assoc inner (32 ∷ 125 ∷ []) after)
