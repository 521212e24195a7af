-- A move takes a token at least.
use Rattle.std.proofs.Common.{◌≡◌, ℕ, Bool, true, false, nat_lt, if◌then◌else◌, List, Option, Some, None, Result, Ok, Err, refl, sym, ap, subst, arith, codes}
use Rattle.std.specs.Str.{bytes_eq}
use Rattle.std.specs.Prelude.{pos}
use Rattle.std.proofs.lemmas.Option.{none-some}
use Rattle.token_text.specs.Tokens.{Token, Kind, open_brace, close_brace, quoted, word, unclosed, ended, Stream, next, rest}
use Rattle.nfg_text.specs.declared.fault.NfgFault.{NfgFault}
use Rattle.nfg_text.specs.declared.fault.NfgFault.TheVariants.{Bad, Limit}
use Rattle.nfg_text.specs.declared.what.What.{What}
use Rattle.nfg_text.specs.declared.what.What.TheVariants.{Digits}
use Rattle.nfg_text.specs.Wanted.{◌>>=◌, bad, is_end, whole_in, limited}
use Rattle.nfg_text.proofs.Shorter.{Shorter, bind_ok, left, ok_err, rest_of, taken}
use Rattle.schedule_core.specs.declared.moves.Move.{Move}
use Rattle.schedule_core.specs.declared.moves.Move.TheVariants.{Load, Lower, Clear}
use Rattle.schedule_core.specs.Schedules.{ranged_as, ranged_at, load_at, lower_at, clear_at, move_at, move_or_close_at}

-- ---- a number within its limits
under : {A : Type 0} (b : Bool) (x : A) (r : Result A NfgFault) (e : NfgFault) → (if b then Err e else r) ≡ Ok x → (b ≡ false) × (r ≡ Ok x)
under true x r e h = absurd (ok_err x e h)
under false x r e h = (refl, h)

pub limited_keeps : (what : What) (most at n d v : ℕ) → limited what most at (n, d) ≡ Ok v → v ≡ n
limited_keeps what most at n d v h =
    let a = under (nat_lt 36 d) v (if nat_lt most n then Err (Limit what (pos n) at) else Ok n) (Limit Digits (pos d) at) h in
    let b = under (nat_lt most n) v (Ok n) (Limit what (pos n) at) a.1 in
    same v b.1
  where
    same : (v : ℕ) → ◌≡◌ {A = Result ℕ NfgFault} (Ok n) (Ok v) → v ≡ n
    same v e = cc

-- ---- what is read takes a token
no_number : (t : Token) (least bound : ℕ) (k : Kind) (n : ℕ) → ranged_as least bound t (whole_in k) ≡ Ok n → is_end k ≡ true → ⊥
no_number t least bound ended n h e = ok_err n (Bad t.at) h
no_number t least bound open_brace n h e = absurd (cc)
no_number t least bound close_brace n h e = absurd (cc)
no_number t least bound (quoted u) n h e = absurd (cc)
no_number t least bound (word u) n h e = absurd (cc)
no_number t least bound unclosed n h e = absurd (cc)

going_on : (b : Bool) → (b ≡ true → ⊥) → b ≡ false
going_on true h = absurd (h refl)
going_on false h = refl

ranged_shorter : (least bound : ℕ) (s : Stream) (r : ℕ × Stream) → ranged_at least bound s ≡ Ok r → Shorter r.1 s
unfolding ranged_at
ranged_shorter least bound s r h =
    let b = bind_ok (ranged_as least bound (next s) (whole_in (next s).kind)) (λ n. Ok (n, rest s)) r h in
    rest_of s b.0 r b.2 (going_on (is_end (next s).kind) (no_number (next s) least bound (next s).kind b.0 b.1))

two_shorter : (a b : ℕ) (x y : ℕ) (make : ℕ → ℕ → Move) (s : Stream) (r : Move × Stream)
    → (ranged_at a b s >>= λ w. ranged_at x y w.1 >>= λ row. Ok (make w.0 row.0, row.1)) ≡ Ok r → Shorter r.1 s
two_shorter a b x y make s r h =
    let f = bind_ok (ranged_at a b s) (λ w. ranged_at x y w.1 >>= λ row. Ok (make w.0 row.0, row.1)) r h in
    let g = bind_ok (ranged_at x y f.0.1) (λ row. Ok (make f.0.0 row.0, row.1)) r f.2 in
    let end : g.0.1 ≡ r.1 = ap left g.2 in
    let p = ranged_shorter a b s f.0 f.1 in
    let q = ranged_shorter x y f.0.1 g.0 g.1 in
    subst (λ t. Shorter t s) end (omega arith)

load_shorter : (workers rows : ℕ) (s : Stream) (r : Move × Stream) → load_at workers rows s ≡ Ok r → Shorter r.1 s
unfolding load_at
load_shorter workers rows s r h = two_shorter 0 workers 0 rows (λ w row. Load w row) s r h

lower_shorter : (workers rows : ℕ) (s : Stream) (r : Move × Stream) → lower_at workers rows s ≡ Ok r → Shorter r.1 s
unfolding lower_at
lower_shorter workers rows s r h = two_shorter 0 workers 0 rows (λ w row. Lower w row) s r h

clear_shorter : (rows : ℕ) (s : Stream) (r : Move × Stream) → clear_at rows s ≡ Ok r → Shorter r.1 s
unfolding clear_at
clear_shorter rows s r h = two_shorter 0 1 0 rows (λ w row. Clear row) s r h

by_name : (workers rows : ℕ) (t : Token) (s : Stream) (a b c : Bool) (r : Move × Stream)
    → (if a then load_at workers rows s else if b then lower_at workers rows s else if c then clear_at rows s else bad t) ≡ Ok r → Shorter r.1 s
by_name workers rows t s true b c r h = load_shorter workers rows s r h
by_name workers rows t s false true c r h = lower_shorter workers rows s r h
by_name workers rows t s false false true r h = clear_shorter rows s r h
by_name workers rows t s false false false r h = absurd (ok_err r (Bad t.at) h)

move_shorter : (workers rows : ℕ) (t : Token) (name : List ℕ) (s : Stream) (r : Move × Stream) → move_at workers rows t name s ≡ Ok r → Shorter r.1 s
move_shorter workers rows t name s r h = by_name workers rows t s (bytes_eq name (codes "load")) (bytes_eq name (codes "lower")) (bytes_eq name (codes "clear")) r h

abbrev item_of : Result (Option Move × Stream) NfgFault → Option Move
item_of (Ok r) = r.0
item_of (Err e) = None

pub item_shorter : (workers rows : ℕ) (s t : Stream) (m : Move) → move_or_close_at workers rows s ≡ Ok (Some m, t) → Shorter t s
unfolding move_or_close_at
item_shorter workers rows s t m h =
    let Item : Type 0 = Option Move × Stream in
    let by : (k : Kind) → is_end k ≡ is_end (next s).kind → (elim k as (λ _. Result Item NfgFault) [
      | close_brace ↦ Ok (None, rest s)
      | word name ↦ move_at workers rows (next s) name (rest s) >>= λ m. Ok (Some m.0, m.1)
      | _ ↦ bad (next s)
    ]) ≡ Ok (Some m, t) → Shorter t s =
    λ k. elim k as (λ k. is_end k ≡ is_end (next s).kind → (elim k as (λ _. Result Item NfgFault) [
      | close_brace ↦ Ok (None, rest s)
      | word name ↦ move_at workers rows (next s) name (rest s) >>= λ m. Ok (Some m.0, m.1)
      | _ ↦ bad (next s)
    ]) ≡ Ok (Some m, t) → Shorter t s) [
      | close_brace ↦ λ g e. absurd (none-some m (ap item_of e))
      | word name ↦ λ g e.
          let b = bind_ok (move_at workers rows (next s) name (rest s)) (λ m. Ok (Some m.0, m.1)) (Some m, t) e in
          let end : b.0.1 ≡ t = ap left b.2 in
          let p = move_shorter workers rows (next s) name (rest s) b.0 b.1 in
          let q = taken s (sym g) in
          subst (λ t. Shorter t s) end (omega arith)
      | open_brace ↦ λ g e. absurd (ok_err (Some m, t) (Bad (next s).at) e)
      | quoted u ↦ λ g e. absurd (ok_err (Some m, t) (Bad (next s).at) e)
      | unclosed ↦ λ g e. absurd (ok_err (Some m, t) (Bad (next s).at) e)
      | ended ↦ λ g e. absurd (ok_err (Some m, t) (Bad (next s).at) e)
    ] in
    by (next s).kind refl h
