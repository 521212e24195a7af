-- Each part takes a token at least.
use Rattle.std.proofs.Common.{◌≡◌, ℕ, ◌<◌, Bool, true, false, if◌then◌else◌, List, [], ◌∷◌, length, drop, Option, Some, None, Result, Ok, Err, refl, sym, ap, subst, arith}
use Rattle.std.proofs.lemmas.Bool.{true≢false}
use Rattle.std.proofs.lemmas.Option.{none-some}
use Rattle.pay_frac.specs.Ratio.{Ratio}
use Rattle.pay_frac.specs.Number.{number_of}
use Rattle.token_text.specs.Tokens.{Token, Kind, open_brace, close_brace, quoted, word, unclosed, ended, Stream, first_or, next, rest}
use Rattle.nfg_text.specs.declared.outcomes.Outcome.{Outcome}
use Rattle.nfg_text.specs.declared.fault.NfgFault.{NfgFault}
use Rattle.nfg_text.specs.declared.fault.NfgFault.TheVariants.{Bad}
use Rattle.nfg_text.specs.Wanted.{◌>>=◌, bad, or_bad, is_open, is_close, is_end, quoted_in, word_in, open_at, close_at, quoted_at, number_at, number_as}
use Rattle.nfg_text.specs.Grammar.{outcome_at, outcome_or_close_at}

pub ok_err : {A : Type 0} (x : A) (e : NfgFault) → Err e ≡ Ok x → ⊥
ok_err x e h = cc

-- the tokens behind what is read
abbrev pub left : {A : Type 0} → Result (A × Stream) NfgFault → Stream
left (Ok r) = r.1
left (Err e) = record { tokens = []; end = 0 }

pub bind_ok : {A B : Type 0} (has : Result A NfgFault) (f : A → Result B NfgFault) (y : B) → (has >>= f) ≡ Ok y → (x : A) × (has ≡ Ok x) × (f x ≡ Ok y)
bind_ok (Ok x) f y h = (x, refl, h)
bind_ok (Err e) f y h = absurd (ok_err y e h)

pub chosen_ok : {A : Type 0} (b : Bool) (x y : A) (e : NfgFault) → (if b then Ok x else Err e) ≡ Ok y → (b ≡ true) × (x ≡ y)
chosen_ok true x y e h = (refl, cc)
chosen_ok false x y e h = absurd (ok_err y e h)

taken_list : (ts : List Token) (end : ℕ) → is_end (first_or (record { at = end; kind = ended }) ts).kind ≡ false → length (drop 1 ts) < length ts
taken_list [] end h = absurd (true≢false h)
taken_list (t ∷ ts) end h = omega arith

-- a token that isn't the end is taken
pub taken : (s : Stream) → is_end (next s).kind ≡ false → length (rest s).tokens < length s.tokens
unfolding next rest
taken s h = taken_list s.tokens s.end h

no_end : (k : Kind) (b : Bool) → is_end k ≡ b → (b ≡ true → ⊥) → is_end k ≡ false
no_end k true h n = absurd (n refl)
no_end k false h n = h

open_goes_on : (k : Kind) → is_open k ≡ true → is_end k ≡ false
open_goes_on open_brace h = refl
open_goes_on close_brace h = refl
open_goes_on (quoted t) h = refl
open_goes_on (word w) h = refl
open_goes_on unclosed h = refl
open_goes_on ended h = absurd (true≢false (sym h))

close_goes_on : (k : Kind) → is_close k ≡ true → is_end k ≡ false
close_goes_on open_brace h = refl
close_goes_on close_brace h = refl
close_goes_on (quoted t) h = refl
close_goes_on (word w) h = refl
close_goes_on unclosed h = refl
close_goes_on ended h = absurd (true≢false (sym h))

quoted_goes_on : (k : Kind) (t : List ℕ) → quoted_in k ≡ Some t → is_end k ≡ false
quoted_goes_on open_brace t h = refl
quoted_goes_on close_brace t h = refl
quoted_goes_on (quoted u) t h = refl
quoted_goes_on (word w) t h = refl
quoted_goes_on unclosed t h = refl
quoted_goes_on ended t h = absurd (none-some t h)

pub word_goes_on : (k : Kind) (w : List ℕ) → word_in k ≡ Some w → is_end k ≡ false
word_goes_on open_brace w h = refl
word_goes_on close_brace w h = refl
word_goes_on (quoted u) w h = refl
word_goes_on (word v) w h = refl
word_goes_on unclosed w h = refl
word_goes_on ended w h = absurd (none-some w h)

abbrev pub Shorter : Stream → Stream → Type 0
Shorter t s = length t.tokens < length s.tokens

pub or_bad_ok : {A : Type 0} (t : Token) (o : Option A) (x : A) → or_bad t o ≡ Ok x → o ≡ Some x
or_bad_ok t None x h = absurd (ok_err x (Bad t.at) h)
or_bad_ok t (Some y) x h = cc

pub open_shorter : (s t : Stream) → open_at s ≡ Ok t → Shorter t s
unfolding open_at
open_shorter s t h =
    let p = chosen_ok (is_open (next s).kind) (rest s) t (Bad (next s).at) h in
    subst (λ t. Shorter t s) p.1 (taken s (open_goes_on (next s).kind p.0))

pub close_shorter : (s t : Stream) → close_at s ≡ Ok t → Shorter t s
unfolding close_at
close_shorter s t h =
    let p = chosen_ok (is_close (next s).kind) (rest s) t (Bad (next s).at) h in
    subst (λ t. Shorter t s) p.1 (taken s (close_goes_on (next s).kind p.0))

pub rest_of : {A : Type 0} (s : Stream) (x : A) (r : A × Stream) → ◌≡◌ {A = Result (A × Stream) NfgFault} (Ok (x, rest s)) (Ok r) → is_end (next s).kind ≡ false → Shorter r.1 s
rest_of s x r h k = subst (λ t. Shorter t s) (ap left h) (taken s k)

pub quoted_shorter : (s : Stream) (r : List ℕ × Stream) → quoted_at s ≡ Ok r → Shorter r.1 s
unfolding quoted_at
quoted_shorter s r h =
    let b = bind_ok (or_bad (next s) (quoted_in (next s).kind)) (λ t. Ok (t, rest s)) r h in
    rest_of s b.0 r b.2 (quoted_goes_on (next s).kind b.0 (or_bad_ok (next s) (quoted_in (next s).kind) b.0 b.1))

pub number_shorter : (s : Stream) (r : Ratio × Stream) → number_at s ≡ Ok r → Shorter r.1 s
unfolding number_at
number_shorter s r h =
    let b = bind_ok (or_bad (next s) (word_in (next s).kind)) (λ w. number_as (next s) (number_of w) >>= λ r. Ok (r, rest s)) r h in
    let d = bind_ok (number_as (next s) (number_of b.0)) (λ r. Ok (r, rest s)) r b.2 in
    rest_of s d.0 r d.2 (word_goes_on (next s).kind b.0 (or_bad_ok (next s) (word_in (next s).kind) b.0 b.1))

pub outcome_shorter : (s : Stream) (r : Outcome × Stream) → outcome_at s ≡ Ok r → Shorter r.1 s
unfolding outcome_at
outcome_shorter s r h =
    let fourth : Ratio → Ratio × Stream → Result (Outcome × Stream) NfgFault = λ x second. close_at second.1 >>= λ b. Ok (record { first = x; second = second.0 }, b) in
    let third : Ratio × Stream → Result (Outcome × Stream) NfgFault = λ first. number_at first.1 >>= λ second. fourth first.0 second in
    let a = bind_ok (open_at s) (λ a. quoted_at a >>= λ name. number_at name.1 >>= third) r h in
    let b = bind_ok (quoted_at a.0) (λ name. number_at name.1 >>= third) r a.2 in
    let c = bind_ok (number_at b.0.1) third r b.2 in
    let d = bind_ok (number_at c.0.1) (fourth c.0.0) r c.2 in
    let e = bind_ok (close_at d.0.1) (λ b. Ok (record { first = c.0.0; second = d.0.0 }, b)) r d.2 in
    let end : e.0 ≡ r.1 = ap left e.2 in
    let p = open_shorter s a.0 a.1 in
    let q = quoted_shorter a.0 b.0 b.1 in
    let u = number_shorter b.0.1 c.0 c.1 in
    let v = number_shorter c.0.1 d.0 d.1 in
    let w = close_shorter d.0.1 e.0 e.1 in
    subst (λ t. Shorter t s) end (omega arith)

abbrev item_of : Result (Option Outcome × Stream) NfgFault → Option Outcome
item_of (Ok r) = r.0
item_of (Err e) = None

pub item_shorter : (s t : Stream) (o : Outcome) → outcome_or_close_at s ≡ Ok (Some o, t) → Shorter t s
unfolding outcome_or_close_at
item_shorter s t o h =
    let Item : Type 0 = Option Outcome × Stream in
    let by : (k : Kind) → (elim k as (λ _. Result Item NfgFault) [
      | close_brace ↦ Ok (None, rest s)
      | open_brace ↦ outcome_at s >>= λ o. Ok (Some o.0, o.1)
      | _ ↦ bad (next s)
    ]) ≡ Ok (Some o, t) → Shorter t s =
    λ k. elim k as (λ k. (elim k as (λ _. Result Item NfgFault) [
      | close_brace ↦ Ok (None, rest s)
      | open_brace ↦ outcome_at s >>= λ o. Ok (Some o.0, o.1)
      | _ ↦ bad (next s)
    ]) ≡ Ok (Some o, t) → Shorter t s) [
      | close_brace ↦ λ e. absurd (none-some o (ap item_of e))
      | open_brace ↦ λ e.
          let b = bind_ok (outcome_at s) (λ o. Ok (Some o.0, o.1)) (Some o, t) e in
          let end : b.0.1 ≡ t = ap left b.2 in
          subst (λ t. Shorter t s) end (outcome_shorter s b.0 b.1)
      | quoted u ↦ λ e. absurd (ok_err (Some o, t) (Bad (next s).at) e)
      | word u ↦ λ e. absurd (ok_err (Some o, t) (Bad (next s).at) e)
      | unclosed ↦ λ e. absurd (ok_err (Some o, t) (Bad (next s).at) e)
      | ended ↦ λ e. absurd (ok_err (Some o, t) (Bad (next s).at) e)
    ] in
    by (next s).kind h
