-- What is read has the shape that it must have.
use Rattle.std.specs.Prelude.{codes, pos, nat_lt, if◌then◌else◌}
use Rattle.std.proofs.Common.{◌≡◌, ℕ, zero, suc, ◌^◌, ◌<◌, ◌≤◌, Bool, true, false, List, [], ◌∷◌, length, get_or, Option, Some, None, Result, Ok, Err, refl, sym, ap, subst, arith}
use Rattle.std.proofs.lemmas.Option.{none-some}
use Rattle.std.proofs.lemmas.Bool.Decides.{nat_tests}
use Rattle.pay_frac.specs.Ratio.{Ratio}
use Rattle.token_text.specs.Tokens.{Token, Kind, open_brace, close_brace, quoted, word, unclosed, ended, Stream, next, rest, stream_of}
use Rattle.nfg_text.specs.declared.what.What.{What}
use Rattle.nfg_text.specs.declared.fault.NfgFault.{NfgFault}
use Rattle.nfg_text.specs.declared.fault.NfgFault.TheVariants.{Bad}
use Rattle.nfg_text.specs.Wanted.{◌>>=◌, bad, open_at, close_at, end_at, exact_at, number_at, whole_in, limited, many_at, times_at}
use Rattle.nfg_text.proofs.Shorter.{bind_ok, ok_err}
use Rattle.game_model.specs.Game.{DynamicGame, states}
use Rattle.selfgen_check.specs.declared.written.Written.{Written}
use Rattle.selfgen_check.specs.Grammar.{whole_as, whole_at, weight_as, weight_at, point_at, profile_at, pair_or_close_at, pairs_end_at, pairs_past, lottery_at, wholes_at, entry_at, entry_or_close_at, entries_end_at, entries_past, state_at, file_at, written_of}
use Rattle.selfgen_check.specs.Shapes.{nothing_written, IsWritten, AreWritten, AllWritten}

same_ok : {A : Type 0} (x y : A) → ◌≡◌ {A = Result A NfgFault} (Ok x) (Ok y) → x ≡ y
same_ok x y h = cc

abbrev AllAt : {A : Type 0} → (A → Type 0) → A → List A → Type 0
AllAt P d xs = (k : ℕ) → k < length xs → P (get_or xs k d)

all_none : {A : Type 0} (P : A → Type 0) (d : A) → AllAt P d []
all_none P d k l = absurd (omega arith)

all_cons : {A : Type 0} (P : A → Type 0) (d x : A) (xs : List A) → P x → AllAt P d xs → AllAt P d (x ∷ xs)
all_cons P d x xs p all zero l = p
all_cons P d x xs p all (suc k) l = all k (omega arith)

-- so many items
times_all : {A : Type 0} (item : Stream → Result (A × Stream) NfgFault) (P : A → Type 0) (d : A) → ((s : Stream) (r : A × Stream) → item s ≡ Ok r → P r.0)
    → (n : ℕ) (s : Stream) (r : List A × Stream) → times_at item n s ≡ Ok r → (length r.0 ≡ n) × AllAt P d r.0
unfolding times_at
times_all item P d one zero s r h = subst (λ r. (length r.0 ≡ 0) × AllAt P d r.0) (same_ok ([], s) r h) (refl, all_none P d)
times_all {A = A} item P d one (suc n) s r h =
    let b = bind_ok (item s) (λ x. times_at item n x.1 >>= λ more. Ok (x.0 ∷ more.0, more.1)) r h in
    let m = bind_ok (times_at item n b.0.1) (λ more. Ok (b.0.0 ∷ more.0, more.1)) r b.2 in
    let others = times_all item P d one n b.0.1 m.0 m.1 in
    subst (λ r. (length r.0 ≡ suc n) × AllAt P d r.0) (same_ok (b.0.0 ∷ m.0.0, m.0.1) r m.2) (ap suc others.0, all_cons P d b.0.0 m.0.0 (one s b.0 b.1) others.1)

abbrev Few : {A : Type 0} → (A → Type 0) → A → ℕ → List A → Type 0
Few P d room xs = (length xs ≤ room) × AllAt P d xs

-- up to so many items
many_step : {A : Type 0} (item : Stream → Result (Option A × Stream) NfgFault) (past : Stream → Result (List A × Stream) NfgFault) (P : A → Type 0) (d : A) (room : ℕ) (s t : Stream) (r : List A × Stream)
    → ((a : A) → item s ≡ Ok (Some a, t) → P a) → ((q : List A × Stream) → many_at item past room t ≡ Ok q → Few P d room q.0)
    → (o : Option A) → item s ≡ Ok (o, t) → (elim o as (λ _. Result (List A × Stream) NfgFault) [
      | None ↦ Ok ([], t)
      | Some a ↦ many_at item past room t >>= λ more. Ok (a ∷ more.0, more.1)
    ]) ≡ Ok r → Few P d (suc room) r.0
many_step item past P d room s t r one others None e h = subst (λ r. Few P d (suc room) r.0) (same_ok ([], t) r h) (omega arith, all_none P d)
many_step item past P d room s t r one others (Some a) e h =
    let m = bind_ok (many_at item past room t) (λ more. Ok (a ∷ more.0, more.1)) r h in
    let f = others m.0 m.1 in
    subst (λ r. Few P d (suc room) r.0) (same_ok (a ∷ m.0.0, m.0.1) r m.2) (omega (arith, f.0), all_cons P d a m.0.0 (one a e) f.1)

many_all : {A : Type 0} (item : Stream → Result (Option A × Stream) NfgFault) (past : Stream → Result (List A × Stream) NfgFault) (P : A → Type 0) (d : A)
    → ((s t : Stream) (a : A) → item s ≡ Ok (Some a, t) → P a) → ((s : Stream) (r : List A × Stream) → past s ≡ Ok r → r.0 ≡ [])
    → (room : ℕ) (s : Stream) (r : List A × Stream) → many_at item past room s ≡ Ok r → Few P d room r.0
unfolding many_at
many_all item past P d one none zero s r h = subst (λ xs. Few P d 0 xs) (sym (none s r h)) (omega arith, all_none P d)
many_all {A = A} item past P d one none (suc room) s r h =
    let step : Option A × Stream → Result (List A × Stream) NfgFault = λ x. elim x.0 as (λ _. Result (List A × Stream) NfgFault) [
      | None ↦ Ok ([], x.1)
      | Some a ↦ many_at item past room x.1 >>= λ more. Ok (a ∷ more.0, more.1)
    ] in
    let b = bind_ok (item s) step r h in
    many_step item past P d room s b.0.1 r (λ a e. one s b.0.1 a e) (λ q e. many_all item past P d one none room b.0.1 q e) b.0.0 b.1 b.2

past_none : {A : Type 0} (has : Result Stream NfgFault) (r : List A × Stream) → (has >>= λ a. Ok ([], a)) ≡ Ok r → r.0 ≡ []
past_none {A = A} has r h =
    let b = bind_ok has (λ a. Ok ([], a)) r h in
    sym (ap (λ (r : List A × Stream). r.0) (same_ok ([], b.0) r b.2))

refused : {A : Type 0} (b : Bool) (e : NfgFault) (x : Result A NfgFault) (y : A) → (if b then Err e else x) ≡ Ok y → (b ≡ false) × (x ≡ Ok y)
refused true e x y h = absurd (ok_err y e h)
refused false e x y h = (refl, h)

limited_small : (what : What) (most at : ℕ) (n : ℕ × ℕ) (v : ℕ) → limited what most at n ≡ Ok v → v ≤ most
limited_small what most at n v h =
    let a = refused (nat_lt 36 n.1) _ _ v h in
    let b = refused (nat_lt most n.0) _ _ v a.1 in
    let e : n.0 ≡ v = same_ok n.0 v b.1 in
    let f : nat_lt most n.0 ≡ false = b.0 in
    grind (arith, nat_tests)

weight_as_small : (t : Token) (o : Option (ℕ × ℕ)) (v : ℕ) → weight_as t o ≡ Ok v → v ≤ 2 ^ 83
weight_as_small t None v h = absurd (ok_err v (Bad t.at) h)
weight_as_small t (Some n) v h = limited_small _ (2 ^ 83) t.at n v h

weight_small : (s : Stream) (r : ℕ × Stream) → weight_at s ≡ Ok r → r.0 ≤ 2 ^ 83
unfolding weight_at
weight_small s r h =
    let b = bind_ok (weight_as (next s) (whole_in (next s).kind)) (λ n. Ok (n, rest s)) r h in
    subst (λ (r : ℕ × Stream). r.0 ≤ 2 ^ 83) (same_ok (b.0, rest s) r b.2) (weight_as_small (next s) (whole_in (next s).kind) b.0 b.1)

abbrev pair_of : Result (Option (ℕ × ℕ) × Stream) NfgFault → Option (ℕ × ℕ)
pair_of (Ok r) = r.0
pair_of (Err e) = None

abbrev IsLight : ℕ × ℕ → Type 0
IsLight o = o.1 ≤ 2 ^ 83

some_same : (x y : ℕ × ℕ) → Some x ≡ Some y → x ≡ y
some_same x y h = cc

pair_small : (s t : Stream) (o : ℕ × ℕ) → pair_or_close_at s ≡ Ok (Some o, t) → IsLight o
unfolding pair_or_close_at
pair_small s t o h =
    let Item : Type 0 = Option (ℕ × ℕ) × Stream in
    let by : (k : Kind) → (elim k as (λ _. Result Item NfgFault) [
      | close_brace ↦ Ok (None, rest s)
      | word w ↦ whole_as (next s) (whole_in (word w)) >>= λ n. weight_at (rest s) >>= λ m. Ok (Some (n, m.0), m.1)
      | _ ↦ bad (next s)
    ]) ≡ Ok (Some o, t) → IsLight o =
    λ k. elim k as (λ k. (elim k as (λ _. Result Item NfgFault) [
      | close_brace ↦ Ok (None, rest s)
      | word w ↦ whole_as (next s) (whole_in (word w)) >>= λ n. weight_at (rest s) >>= λ m. Ok (Some (n, m.0), m.1)
      | _ ↦ bad (next s)
    ]) ≡ Ok (Some o, t) → IsLight o) [
      | close_brace ↦ λ e. absurd (none-some o (ap pair_of e))
      | word w ↦ λ e.
          let b = bind_ok (whole_as (next s) (whole_in (word w))) (λ n. weight_at (rest s) >>= λ m. Ok (Some (n, m.0), m.1)) (Some o, t) e in
          let m = bind_ok (weight_at (rest s)) (λ m. Ok (Some (b.0, m.0), m.1)) (Some o, t) b.2 in
          subst IsLight (some_same (b.0, m.0.0) o (ap pair_of m.2)) (weight_small (rest s) m.0 m.1)
      | open_brace ↦ λ e. absurd (ok_err (Some o, t) (Bad (next s).at) e)
      | quoted u ↦ λ e. absurd (ok_err (Some o, t) (Bad (next s).at) e)
      | unclosed ↦ λ e. absurd (ok_err (Some o, t) (Bad (next s).at) e)
      | ended ↦ λ e. absurd (ok_err (Some o, t) (Bad (next s).at) e)
    ] in
    by (next s).kind h

lottery_small : (s : Stream) (r : List (ℕ × ℕ) × Stream) → lottery_at s ≡ Ok r → Few IsLight (0, 0) 4 r.0
unfolding lottery_at
lottery_small s r h =
    let b = bind_ok (open_at s) (λ a. many_at pair_or_close_at pairs_past 4 a) r h in
    many_all pair_or_close_at pairs_past IsLight (0, 0) pair_small (λ s r e. past_none (pairs_end_at s) r e) 4 b.0 r b.2

point_long : (players : ℕ) (s : Stream) (r : List Ratio × Stream) → point_at players s ≡ Ok r → length r.0 ≡ players
unfolding point_at
point_long players s r h =
    let close : List Ratio × Stream → Result (List Ratio × Stream) NfgFault = λ parts. close_at parts.1 >>= λ b. Ok (parts.0, b) in
    let a = bind_ok (open_at s) (λ a. times_at number_at players a >>= close) r h in
    let b = bind_ok (times_at number_at players a.0) close r a.2 in
    let c = bind_ok (close_at b.0.1) (λ e. Ok (b.0.0, e)) r b.2 in
    let all = times_all number_at (λ x. Unit {0}) (record { num = pos 0; den = pos 1 }) (λ s r e. tt) players a.0 b.0 b.1 in
    subst (λ (r : List Ratio × Stream). length r.0 ≡ players) (same_ok (b.0.0, c.0) r c.2) all.0

profile_long : (players : ℕ) (s : Stream) (r : List ℕ × Stream) → profile_at players s ≡ Ok r → length r.0 ≡ players
unfolding profile_at
profile_long players s r h =
    let close : List ℕ × Stream → Result (List ℕ × Stream) NfgFault = λ parts. close_at parts.1 >>= λ b. Ok (parts.0, b) in
    let a = bind_ok (open_at s) (λ a. times_at whole_at players a >>= close) r h in
    let b = bind_ok (times_at whole_at players a.0) close r a.2 in
    let c = bind_ok (close_at b.0.1) (λ e. Ok (b.0.0, e)) r b.2 in
    let all = times_all whole_at (λ x. Unit {0}) 0 (λ s r e. tt) players a.0 b.0 b.1 in
    subst (λ (r : List ℕ × Stream). length r.0 ≡ players) (same_ok (b.0.0, c.0) r c.2) all.0

entry_written : (players : ℕ) (s : Stream) (r : Written × Stream) → entry_at players s ≡ Ok r → IsWritten players r.0
unfolding entry_at
entry_written players s r h =
    let Read : Type 0 = Result (Written × Stream) NfgFault in
    let last : List Ratio → List ℕ → List (ℕ × ℕ) → List ℕ × Stream → Read = λ p a l punish. close_at punish.1 >>= λ c. Ok (record { point = p; profile = a; lottery = l; punish = punish.0 }, c) in
    let fifth : List Ratio → List ℕ → List (ℕ × ℕ) → Stream → Read = λ p a l b. wholes_at b >>= last p a l in
    let fourth : List Ratio → List ℕ → List (ℕ × ℕ) × Stream → Read = λ p a lottery. open_at lottery.1 >>= fifth p a lottery.0 in
    let third : List Ratio → List ℕ × Stream → Read = λ p profile. lottery_at profile.1 >>= fourth p profile.0 in
    let second : List Ratio × Stream → Read = λ point. profile_at players point.1 >>= third point.0 in
    let a = bind_ok (open_at s) (λ a. point_at players a >>= second) r h in
    let b = bind_ok (point_at players a.0) second r a.2 in
    let c = bind_ok (profile_at players b.0.1) (third b.0.0) r b.2 in
    let d = bind_ok (lottery_at c.0.1) (fourth b.0.0 c.0.0) r c.2 in
    let e = bind_ok (open_at d.0.1) (fifth b.0.0 c.0.0 d.0.0) r d.2 in
    let f = bind_ok (wholes_at e.0) (last b.0.0 c.0.0 d.0.0) r e.2 in
    let made : List ℕ → Written = λ punish. record { point = b.0.0; profile = c.0.0; lottery = d.0.0; punish = punish } in
    let g = bind_ok (close_at f.0.1) (λ x. Ok (made f.0.0, x)) r f.2 in
    let l = lottery_small c.0.1 d.0 d.1 in
    let shape : IsWritten players (made f.0.0) = record {
      parts = point_long players a.0 b.0 b.1;
      strategies = profile_long players b.0.1 c.0 c.1;
      few_outcomes = l.0;
      weights_small = l.1;
    } in
    subst (λ (r : Written × Stream). IsWritten players r.0) (same_ok (made f.0.0, g.0) r g.2) shape

abbrev entry_of : Result (Option Written × Stream) NfgFault → Option Written
entry_of (Ok r) = r.0
entry_of (Err e) = None

same_entry : (x y : Written) → Some x ≡ Some y → x ≡ y
same_entry x y h = cc

item_written : (players : ℕ) (s t : Stream) (w : Written) → entry_or_close_at players s ≡ Ok (Some w, t) → IsWritten players w
unfolding entry_or_close_at
item_written players s t w h =
    let Item : Type 0 = Option Written × Stream in
    let by : (k : Kind) → (elim k as (λ _. Result Item NfgFault) [
      | close_brace ↦ Ok (None, rest s)
      | open_brace ↦ entry_at players s >>= λ x. Ok (Some x.0, x.1)
      | _ ↦ bad (next s)
    ]) ≡ Ok (Some w, t) → IsWritten players w =
    λ k. elim k as (λ k. (elim k as (λ _. Result Item NfgFault) [
      | close_brace ↦ Ok (None, rest s)
      | open_brace ↦ entry_at players s >>= λ x. Ok (Some x.0, x.1)
      | _ ↦ bad (next s)
    ]) ≡ Ok (Some w, t) → IsWritten players w) [
      | close_brace ↦ λ e. absurd (none-some w (ap entry_of e))
      | open_brace ↦ λ e.
          let b = bind_ok (entry_at players s) (λ x. Ok (Some x.0, x.1)) (Some w, t) e in
          subst (IsWritten players) (same_entry b.0.0 w (ap entry_of b.2)) (entry_written players s b.0 b.1)
      | quoted u ↦ λ e. absurd (ok_err (Some w, t) (Bad (next s).at) e)
      | word u ↦ λ e. absurd (ok_err (Some w, t) (Bad (next s).at) e)
      | unclosed ↦ λ e. absurd (ok_err (Some w, t) (Bad (next s).at) e)
      | ended ↦ λ e. absurd (ok_err (Some w, t) (Bad (next s).at) e)
    ] in
    by (next s).kind h

state_written : (players : ℕ) (s : Stream) (r : List Written × Stream) → state_at players s ≡ Ok r → AreWritten players r.0
unfolding state_at
state_written players s r h =
    let b = bind_ok (open_at s) (λ a. many_at (entry_or_close_at players) entries_past 65535 a) r h in
    let f = many_all (entry_or_close_at players) entries_past (IsWritten players) nothing_written (item_written players) (λ s r e. past_none (entries_end_at s) r e) 65535 b.0 r b.2 in
    record { few = f.0; each_one = f.1 }

file_written : (players count : ℕ) (s : Stream) (x : List (List Written)) → file_at players count s ≡ Ok x → AllWritten players count x
unfolding file_at
file_written players count s x h =
    let Read : Type 0 = Result (List (List Written)) NfgFault in
    let fifth : List (List Written) → Stream → Read = λ x d. end_at d >>= λ e. Ok x in
    let fourth : List (List Written) × Stream → Read = λ states. close_at states.1 >>= fifth states.0 in
    let third : Stream → Read = λ c. times_at (state_at players) count c >>= fourth in
    let second : Stream → Read = λ b. open_at b >>= third in
    let a = bind_ok (exact_at (codes "SGC") s) (λ a. exact_at (codes "1") a >>= second) x h in
    let b = bind_ok (exact_at (codes "1") a.0) second x a.2 in
    let c = bind_ok (open_at b.0) third x b.2 in
    let d = bind_ok (times_at (state_at players) count c.0) fourth x c.2 in
    let e = bind_ok (close_at d.0.1) (fifth d.0.0) x d.2 in
    let f = bind_ok (end_at e.0) (λ z. Ok d.0.0) x e.2 in
    let all = times_all (state_at players) (AreWritten players) [] (state_written players) count c.0 d.0 d.1 in
    subst (AllWritten players count) (same_ok d.0.0 x f.2) (record { one_each = all.0; each_state = all.1 })

pub text_written : (g : DynamicGame) (bytes : List ℕ) (x : List (List Written)) → written_of g bytes ≡ Ok x → AllWritten g.players (states g) x
unfolding written_of
text_written g bytes x h = file_written g.players (states g) (stream_of bytes) x h
