-- A whole number takes a token at least, and what stands behind the last item that there is room for.
use Rattle.std.proofs.Common.{◌≡◌, ℕ, List, [], Option, Some, None, Result, Ok, Err, refl, sym, ap, ◌∙◌}
use Rattle.std.proofs.lemmas.Option.{none-some}
use Rattle.std.proofs.lemmas.List.{append-nil}
use Rattle.token_text.specs.Tokens.{Kind, open_brace, close_brace, quoted, word, unclosed, ended, Stream, next, rest}
use Rattle.nfg_text.specs.declared.fault.NfgFault.{NfgFault}
use Rattle.nfg_text.specs.declared.fault.NfgFault.TheVariants.{Bad}
use Rattle.nfg_text.specs.Wanted.{◌>>=◌, bad, is_end, whole_in, behind}
use Rattle.nfg_text.proofs.Shorter.{Shorter, bind_ok, ok_err, rest_of}
use Rattle.selfgen_check.specs.declared.written.Written.{Written}
use Rattle.selfgen_check.specs.Grammar.{whole_as, whole_or_close_at, entries_end_at, entries_past, pairs_end_at, pairs_past}

abbrev item_of : Result (Option ℕ × Stream) NfgFault → Option ℕ
item_of (Ok r) = r.0
item_of (Err e) = None

pub item_shorter : (s t : Stream) (n : ℕ) → whole_or_close_at s ≡ Ok (Some n, t) → Shorter t s
unfolding whole_or_close_at
item_shorter s t n h =
    let Item : Type 0 = Option ℕ × Stream in
    let by : (k : Kind) → is_end k ≡ is_end (next s).kind → (elim k as (λ _. Result Item NfgFault) [
      | close_brace ↦ Ok (None, rest s)
      | word w ↦ whole_as (next s) (whole_in (word w)) >>= λ n. Ok (Some n, rest s)
      | _ ↦ bad (next s)
    ]) ≡ Ok (Some n, t) → Shorter t s =
    λ k. elim k as (λ k. is_end k ≡ is_end (next s).kind → (elim k as (λ _. Result Item NfgFault) [
      | close_brace ↦ Ok (None, rest s)
      | word w ↦ whole_as (next s) (whole_in (word w)) >>= λ n. Ok (Some n, rest s)
      | _ ↦ bad (next s)
    ]) ≡ Ok (Some n, t) → Shorter t s) [
      | close_brace ↦ λ g e. absurd (none-some n (ap item_of e))
      | word w ↦ λ g e.
          let b = bind_ok (whole_as (next s) (whole_in (word w))) (λ n. Ok (Some n, rest s)) (Some n, t) e in
          rest_of s (Some b.0) (Some n, t) b.2 (sym g)
      | open_brace ↦ λ g e. absurd (ok_err (Some n, t) (Bad (next s).at) e)
      | quoted u ↦ λ g e. absurd (ok_err (Some n, t) (Bad (next s).at) e)
      | unclosed ↦ λ g e. absurd (ok_err (Some n, t) (Bad (next s).at) e)
      | ended ↦ λ g e. absurd (ok_err (Some n, t) (Bad (next s).at) e)
    ] in
    by (next s).kind refl h

-- the close brace behind items that were read
past_end : {A : Type 0} (items : List A) (t : Stream) (has : Result Stream NfgFault) → has ≡ Ok t → behind items (has >>= λ a. Ok ([], a)) ≡ Ok (items, t)
past_end {A = A} items t has h =
    let more : Result Stream NfgFault → Result (List A × Stream) NfgFault = λ r. behind items (r >>= λ a. Ok ([], a)) in
    ap more h ∙ ap (λ l. Ok (l, t)) (append-nil items)

pub entries_end : (entries : List Written) (s t : Stream) → entries_end_at s ≡ Ok t → behind entries (entries_past s) ≡ Ok (entries, t)
entries_end entries s t h = past_end entries t (entries_end_at s) h

pub pairs_end : (pairs : List (ℕ × ℕ)) (s t : Stream) → pairs_end_at s ≡ Ok t → behind pairs (pairs_past s) ≡ Ok (pairs, t)
pairs_end pairs s t h = past_end pairs t (pairs_end_at s) h
