-- What is read keeps the form of a game.
use Rattle.std.proofs.Common.{lit<, lit≤, ◌≡◌, ℕ, zero, suc, ◌+◌, ◌*◌, ◌<◌, ◌≤◌, ◌==◌, nat_lt, Bool, true, false, if◌then◌else◌, List, [], ◌∷◌, ◌++◌, length, get_or, Option, Some, None, Result, Ok, Err, refl, sym, ap, subst, ◌∙◌, arith}
use Rattle.std.specs.Prelude.{pos}
use Rattle.std.specs.List.{All}
use Rattle.std.proofs.lemmas.Bool.{eqb-false, ltb-false}
use Rattle.std.proofs.lemmas.List.Elements.{All-nil, All-cons}
use Rattle.std.proofs.lemmas.Nat.Gcd.{dvd_refl, dvd-zero}
use Rattle.std.proofs.lemmas.Option.{none-some}
use Rattle.std.proofs.lemmas.Int.{ints}
use Rattle.pay_frac.specs.Ratio.{Ratio}
use Rattle.pay_frac.specs.declared.numbers.NumberFault.{NumberFault}
use Rattle.pay_frac.specs.declared.numbers.NumberFault.TheVariants.{NotNumber, Beyond}
use Rattle.pay_frac.specs.Number.{number_of}
use Rattle.pay_frac.proofs.Exactly.{number_short}
use Rattle.token_text.specs.Tokens.{Token, Kind, open_brace, close_brace, quoted, word, unclosed, ended, Stream, next, rest, stream_of}
use Rattle.nfg_text.specs.declared.nfg.Nfg.{Nfg}
use Rattle.nfg_text.specs.declared.nfg.Strategies.{Strategies}
use Rattle.nfg_text.specs.declared.nfg.Strategies.TheVariants.{Counts, Names}
use Rattle.nfg_text.specs.declared.outcomes.Outcome.{Outcome}
use Rattle.nfg_text.specs.declared.what.What.TheVariants.{Digits, Strategies as StrategiesLimit}
use Rattle.nfg_text.specs.declared.fault.NfgFault.{NfgFault}
use Rattle.nfg_text.specs.declared.fault.NfgFault.TheVariants.{Bad, Limit}
use Rattle.nfg_text.specs.Wanted.{◌>>=◌, bad, or_bad, open_at, close_at, end_at, quoted_at, word_in, whole_in, number_as, number_at, limited, many_at, times_at, behind, bad_past}
use Rattle.nfg_text.specs.Grammar.{title_at, player_at, two_at, players_at, count_as, count_at, counts_at, full_at, sixteen_past, name_or_close_at, names_at, both_names_at, strategies_at, counts_of, profiles_of, comment_at, outcome_at, outcome_or_close_at, outcomes_at, nothing, outcome_of, choice_as, choice_at, payoffs_of, choices_at, chosen_at, body_at, file_at, nfg_of}
use Rattle.nfg_text.specs.ReadGame.{IsShortNumber, IsReadGame}
use Rattle.nfg_text.proofs.Shorter.{bind_ok, ok_err}

-- the value of what was read
abbrev value_or : {A : Type 0} → A → Result (A × Stream) NfgFault → A
value_or d (Ok r) = r.0
value_or d (Err e) = d

abbrev read_as : {A : Type 0} → A → Result A NfgFault
read_as x = Ok x

same_read : {A : Type 0} (x y : A) → read_as x ≡ Ok y → x ≡ y
same_read x y h = cc

passed_test : {A : Type 0} (b : Bool) (e : NfgFault) (r : Result A NfgFault) (y : A) → (if b then Err e else r) ≡ Ok y → (b ≡ false) × (r ≡ Ok y)
passed_test true e r y h = absurd (ok_err y e h)
passed_test false e r y h = (refl, h)

-- ---- numbers
number_as_ok : (t : Token) (has : Result Ratio NumberFault) (r : Ratio) → number_as t has ≡ Ok r → has ≡ Ok r
number_as_ok t (Ok x) r h = ap (λ z. Ok z) (same_read x r h)
number_as_ok t (Err NotNumber) r h = absurd (ok_err r (Bad t.at) h)
number_as_ok t (Err (Beyond d)) r h = absurd (ok_err r (Limit Digits (pos d) t.at) h)

short_of : (w : List ℕ) (r : Ratio) → number_of w ≡ Ok r → IsShortNumber r
short_of w r h = let k = number_short w r h in record { lowest = k.0; num_short = k.1; den_short = k.2 }

number_ok : (s t : Stream) (r : Ratio) → number_at s ≡ Ok (r, t) → IsShortNumber r
unfolding number_at
number_ok s t r h =
    let w = bind_ok (or_bad (next s) (word_in (next s).kind)) (λ w. number_as (next s) (number_of w) >>= λ r. Ok (r, rest s)) (r, t) h in
    let n = bind_ok (number_as (next s) (number_of w.0)) (λ r. Ok (r, rest s)) (r, t) w.2 in
    let e : n.0 ≡ r = ap (value_or r) n.2 in
    subst IsShortNumber e (short_of w.0 n.0 (number_as_ok (next s) (number_of w.0) n.0 n.1))

zero_short : IsShortNumber (record { num = pos 0; den = pos 1 })
zero_short = record {
  lowest = record { positive = omega (arith, ints); coprime = (dvd-zero 1, dvd_refl 1, λ d p q. q); num_fits = lit< tt; den_fits = lit< tt };
  num_short = lit≤ tt;
  den_short = lit≤ tt;
}

-- ---- lists
times_ok : {A : Type 0} (P : A → Type 0) (item : Stream → Result (A × Stream) NfgFault) → ((s t : Stream) (a : A) → item s ≡ Ok (a, t) → P a)
    → (n : ℕ) (s t : Stream) (xs : List A) → times_at item n s ≡ Ok (xs, t) → (length xs ≡ n) × All P xs
unfolding times_at
times_ok P item each zero s t xs h =
    let e : [] ≡ xs = ap (value_or []) h in
    (ap length (sym e), subst (All P) e (All-nil P))
times_ok P item each (suc n) s t xs h =
    let x = bind_ok (item s) (λ x. times_at item n x.1 >>= λ more. Ok (x.0 ∷ more.0, more.1)) (xs, t) h in
    let more = bind_ok (times_at item n x.0.1) (λ more. Ok (x.0.0 ∷ more.0, more.1)) (xs, t) x.2 in
    let others = times_ok P item each n x.0.1 more.0.1 more.0.0 more.1 in
    let e : x.0.0 ∷ more.0.0 ≡ xs = ap (value_or []) more.2 in
    (ap length (sym e) ∙ ap suc others.0, subst (All P) e (All-cons P x.0.0 more.0.0 (each s x.0.1 x.0.0 x.1) others.1))

-- an item or none, and what follows
abbrev After : {A : Type 0} → (Stream → Result (Option A × Stream) NfgFault) → (Stream → Result (List A × Stream) NfgFault) → ℕ → Option A → Stream → Result (List A × Stream) NfgFault
After {A = A} item past room o u = elim o as (λ _. Result (List A × Stream) NfgFault) [
  | None ↦ Ok ([], u)
  | Some a ↦ many_at item past room u >>= λ more. Ok (a ∷ more.0, more.1)
]

abbrev Kept : {A : Type 0} → (A → Type 0) → ℕ → List A → Type 0
Kept P room xs = (length xs ≤ room) × All P xs

after_ok : {A : Type 0} (P : A → Type 0) (item : Stream → Result (Option A × Stream) NfgFault) (past : Stream → Result (List A × Stream) NfgFault)
    → (room : ℕ) (o : Option A) (u t : Stream) (xs : List A) → ((a : A) → o ≡ Some a → P a) → ((v : Stream) (ys : List A) → many_at item past room u ≡ Ok (ys, v) → Kept P room ys)
    → After item past room o u ≡ Ok (xs, t) → Kept P (suc room) xs
after_ok P item past room None u t xs here others h =
    let e : [] ≡ xs = ap (value_or []) h in
    (subst (λ ys. length ys ≤ suc room) e (omega arith), subst (All P) e (All-nil P))
after_ok P item past room (Some a) u t xs here others h =
    let more = bind_ok (many_at item past room u) (λ more. Ok (a ∷ more.0, more.1)) (xs, t) h in
    let rest = others more.0.1 more.0.0 more.1 in
    let e : a ∷ more.0.0 ≡ xs = ap (value_or []) more.2 in
    let l : length more.0.0 ≤ room = rest.0 in
    (subst (λ ys. length ys ≤ suc room) e (omega arith), subst (All P) e (All-cons P a more.0.0 (here a refl) rest.1))

many_ok : {A : Type 0} (P : A → Type 0) (item : Stream → Result (Option A × Stream) NfgFault) (past : Stream → Result (List A × Stream) NfgFault)
    → ((s t : Stream) (a : A) → item s ≡ Ok (Some a, t) → P a) → ((s t : Stream) (xs : List A) → past s ≡ Ok (xs, t) → [] ≡ xs)
    → (room : ℕ) (s t : Stream) (xs : List A) → many_at item past room s ≡ Ok (xs, t) → Kept P room xs
unfolding many_at
many_ok P item past each none zero s t xs h =
    let e = none s t xs h in
    (subst (λ ys. length ys ≤ 0) e (omega arith), subst (All P) e (All-nil P))
many_ok P item past each none (suc room) s t xs h =
    let x = bind_ok (item s) (λ x. After item past room x.0 x.1) (xs, t) h in
    after_ok P item past room x.0.0 x.0.1 t xs
    (λ a e. each s x.0.1 a (x.1 ∙ ap (λ o. Ok (o, x.0.1)) e))
    (λ v ys k. many_ok P item past each none room x.0.1 v ys k)
    x.2

-- ---- numbers of strategies
count_as_ok : (t : Token) (w : Option (ℕ × ℕ)) (n : ℕ) → count_as t w ≡ Ok n → (1 ≤ n) × (n ≤ 16)
count_as_ok t None n h = absurd (ok_err n (Bad t.at) h)
count_as_ok t (Some w) n h =
    let a = passed_test (w.0 == 0) (Bad t.at) (limited StrategiesLimit 16 t.at w) n h in
    let b = passed_test (nat_lt 36 w.1) (Limit Digits (pos w.1) t.at) (if nat_lt 16 w.0 then Err (Limit StrategiesLimit (pos w.0) t.at) else Ok w.0) n a.1 in
    let c = passed_test (nat_lt 16 w.0) (Limit StrategiesLimit (pos w.0) t.at) (Ok w.0) n b.1 in
    let e : w.0 ≡ n = same_read w.0 n c.1 in
    let some : w.0 ≡ 0 → ⊥ = eqb-false w.0 0 a.0 in
    let few : w.0 ≤ 16 = ltb-false 16 w.0 c.0 in
    (subst (λ k. 1 ≤ k) e (omega arith), subst (λ k. k ≤ 16) e few)

count_ok : (s t : Stream) (n : ℕ) → count_at s ≡ Ok (n, t) → (1 ≤ n) × (n ≤ 16)
unfolding count_at
count_ok s t n h =
    let x = bind_ok (count_as (next s) (whole_in (next s).kind)) (λ n. Ok (n, rest s)) (n, t) h in
    let e : x.0 ≡ n = ap (value_or n) x.2 in
    subst (λ k. (1 ≤ k) × (k ≤ 16)) e (count_as_ok (next s) (whole_in (next s).kind) x.0 x.1)

abbrev Bounded : ℕ → Type 0
Bounded n = (1 ≤ n) × (n ≤ 16)

record GoodCounts (ms : List ℕ) : Type 0 where
  two : length ms ≡ 2
  each : (i : ℕ) → i < 2 → Bounded (get_or ms i 0)

both_counts : (m n : ℕ) → Bounded m → Bounded n → (i : ℕ) → i < 2 → Bounded (get_or (m ∷ n ∷ []) i 0)
both_counts m n p q zero h = p
both_counts m n p q (suc zero) h = q
both_counts m n p q (suc (suc i)) h = absurd (omega arith)

good_counts : (m n : ℕ) → Bounded m → Bounded n → GoodCounts (m ∷ n ∷ [])
good_counts m n p q = record { two = refl; each = both_counts m n p q }

abbrev Good : Strategies → Type 0
Good st = GoodCounts (counts_of st)

counts_ok : (s t : Stream) (st : Strategies) → counts_at s ≡ Ok (st, t) → Good st
unfolding counts_at
counts_ok s t st h =
    let a = bind_ok (count_at s) (λ first. count_at first.1 >>= λ second. close_at second.1 >>= λ a. Ok (Counts (first.0 ∷ second.0 ∷ []), a)) (st, t) h in
    let b = bind_ok (count_at a.0.1) (λ second. close_at second.1 >>= λ c. Ok (Counts (a.0.0 ∷ second.0 ∷ []), c)) (st, t) a.2 in
    let c = bind_ok (close_at b.0.1) (λ c. Ok (Counts (a.0.0 ∷ b.0.0 ∷ []), c)) (st, t) b.2 in
    let e : Counts (a.0.0 ∷ b.0.0 ∷ []) ≡ st = ap (value_or st) c.2 in
    subst Good e (good_counts a.0.0 b.0.0 (count_ok s a.0.1 a.0.0 a.1) (count_ok a.0.1 b.0.1 b.0.0 b.1))

sixteen_none : (s t : Stream) (xs : List (List ℕ)) → sixteen_past s ≡ Ok (xs, t) → [] ≡ xs
sixteen_none s t xs h =
    let a = bind_ok (full_at s) (λ a. Ok ([], a)) (xs, t) h in
    ap (value_or []) a.2

names_ok : (s t : Stream) (ns : List (List ℕ)) → names_at s ≡ Ok (ns, t) → Bounded (length ns)
unfolding names_at
names_ok s t ns h =
    let a = bind_ok (open_at s) (λ a. quoted_at a >>= λ first. behind (first.0 ∷ []) (many_at name_or_close_at sixteen_past 15 first.1)) (ns, t) h in
    let b = bind_ok (quoted_at a.0) (λ first. behind (first.0 ∷ []) (many_at name_or_close_at sixteen_past 15 first.1)) (ns, t) a.2 in
    let c = bind_ok (many_at name_or_close_at sixteen_past 15 b.0.1) (λ more. Ok (b.0.0 ∷ [] ++ more.0, more.1)) (ns, t) b.2 in
    let k = many_ok (λ (n : List ℕ). Unit {0}) name_or_close_at sixteen_past (λ s t a h. tt) sixteen_none 15 b.0.1 c.0.1 c.0.0 c.1 in
    let l : length c.0.0 ≤ 15 = k.0 in
    let e : b.0.0 ∷ c.0.0 ≡ ns = ap (value_or []) c.2 in
    subst (λ xs. Bounded (length xs)) e (omega arith, omega arith)

both_names_ok : (s t : Stream) (st : Strategies) → both_names_at s ≡ Ok (st, t) → Good st
unfolding both_names_at
both_names_ok s t st h =
    let a = bind_ok (names_at s) (λ first. names_at first.1 >>= λ second. close_at second.1 >>= λ a. Ok (Names (first.0 ∷ second.0 ∷ []), a)) (st, t) h in
    let b = bind_ok (names_at a.0.1) (λ second. close_at second.1 >>= λ c. Ok (Names (a.0.0 ∷ second.0 ∷ []), c)) (st, t) a.2 in
    let c = bind_ok (close_at b.0.1) (λ c. Ok (Names (a.0.0 ∷ b.0.0 ∷ []), c)) (st, t) b.2 in
    let e : Names (a.0.0 ∷ b.0.0 ∷ []) ≡ st = ap (value_or st) c.2 in
    subst Good e (good_counts (length a.0.0) (length b.0.0) (names_ok s a.0.1 a.0.0 a.1) (names_ok a.0.1 b.0.1 b.0.0 b.1))

abbrev StrategiesBy : Stream → Kind → Result (Strategies × Stream) NfgFault
StrategiesBy a k = elim k as (λ _. Result (Strategies × Stream) NfgFault) [
  | word w ↦ counts_at a
  | open_brace ↦ both_names_at a
  | _ ↦ bad (next a)
]

strategies_by : (a : Stream) (k : Kind) (t : Stream) (st : Strategies) → StrategiesBy a k ≡ Ok (st, t) → Good st
strategies_by a (word w) t st h = counts_ok a t st h
strategies_by a open_brace t st h = both_names_ok a t st h
strategies_by a close_brace t st h = absurd (ok_err (st, t) (Bad (next a).at) h)
strategies_by a (quoted u) t st h = absurd (ok_err (st, t) (Bad (next a).at) h)
strategies_by a unclosed t st h = absurd (ok_err (st, t) (Bad (next a).at) h)
strategies_by a ended t st h = absurd (ok_err (st, t) (Bad (next a).at) h)

strategies_ok : (s t : Stream) (st : Strategies) → strategies_at s ≡ Ok (st, t) → Good st
unfolding strategies_at
strategies_ok s t st h =
    let a = bind_ok (open_at s) (λ a. StrategiesBy a (next a).kind) (st, t) h in
    strategies_by a.0 (next a.0).kind t st a.2

-- ---- payoffs by outcomes
abbrev GoodOutcome : Outcome → Type 0
GoodOutcome o = IsShortNumber o.first × IsShortNumber o.second

outcome_ok : (s t : Stream) (o : Outcome) → outcome_at s ≡ Ok (o, t) → GoodOutcome o
unfolding outcome_at
outcome_ok s t o h =
    let a = bind_ok (open_at s) (λ a. quoted_at a >>= λ name. number_at name.1 >>= λ first. number_at first.1 >>= λ second. close_at second.1 >>= λ b. Ok (record { first = first.0; second = second.0 }, b)) (o, t) h in
    let b = bind_ok (quoted_at a.0) (λ name. number_at name.1 >>= λ first. number_at first.1 >>= λ second. close_at second.1 >>= λ b. Ok (record { first = first.0; second = second.0 }, b)) (o, t) a.2 in
    let c = bind_ok (number_at b.0.1) (λ first. number_at first.1 >>= λ second. close_at second.1 >>= λ b. Ok (record { first = first.0; second = second.0 }, b)) (o, t) b.2 in
    let d = bind_ok (number_at c.0.1) (λ second. close_at second.1 >>= λ b. Ok (record { first = c.0.0; second = second.0 }, b)) (o, t) c.2 in
    let f = bind_ok (close_at d.0.1) (λ b. Ok (record { first = c.0.0; second = d.0.0 }, b)) (o, t) d.2 in
    let e : record { first = c.0.0; second = d.0.0 } ≡ o = ap (value_or o) f.2 in
    subst GoodOutcome e (number_ok b.0.1 c.0.1 c.0.0 c.1, number_ok c.0.1 d.0.1 d.0.0 d.1)

abbrev option_or : {A : Type 0} → A → Result (Option A × Stream) NfgFault → A
option_or d (Ok (Some a, s)) = a
option_or d (Ok (None, s)) = d
option_or d (Err e) = d

none_item : (o : Outcome) → None ≡ Some o → ⊥
none_item o h = absurd (none-some o h)

some_item : (s t : Stream) (o : Outcome) (k : Kind) → (elim k as (λ _. Result (Option Outcome × Stream) NfgFault) [
  | close_brace ↦ Ok (None, rest s)
  | open_brace ↦ outcome_at s >>= λ o. Ok (Some o.0, o.1)
  | _ ↦ bad (next s)
]) ≡ Ok (Some o, t) → GoodOutcome o
some_item s t o open_brace h =
    let a = bind_ok (outcome_at s) (λ o. Ok (Some o.0, o.1)) (Some o, t) h in
    let e : a.0.0 ≡ o = ap (option_or o) a.2 in
    subst GoodOutcome e (outcome_ok s a.0.1 a.0.0 a.1)
some_item s t o close_brace h = absurd (none_item o (ap (value_or (Some o)) h))
some_item s t o (quoted u) h = absurd (ok_err (Some o, t) (Bad (next s).at) h)
some_item s t o (word w) h = absurd (ok_err (Some o, t) (Bad (next s).at) h)
some_item s t o unclosed h = absurd (ok_err (Some o, t) (Bad (next s).at) h)
some_item s t o ended h = absurd (ok_err (Some o, t) (Bad (next s).at) h)

item_ok : (s t : Stream) (o : Outcome) → outcome_or_close_at s ≡ Ok (Some o, t) → GoodOutcome o
unfolding outcome_or_close_at
item_ok s t o h = some_item s t o (next s).kind h

past_none : (s t : Stream) (xs : List Outcome) → bad_past {A = List Outcome × Stream} s ≡ Ok (xs, t) → [] ≡ xs
past_none s t xs h =
    let both : List Outcome × Stream = (xs, t) in
    absurd (ok_err both (Bad (next s).at) h)

outcomes_ok : (s t : Stream) (os : List Outcome) → outcomes_at s ≡ Ok (os, t) → All GoodOutcome os
unfolding outcomes_at
outcomes_ok s t os h = (many_ok GoodOutcome outcome_or_close_at bad_past item_ok past_none (suc (length s.tokens)) s t os h).1

chosen_outcome : (os : List Outcome) (k : ℕ) → All GoodOutcome os → k ≤ length os → GoodOutcome (outcome_of os k)
chosen_outcome os k all l = (All-cons GoodOutcome nothing os (zero_short, zero_short) all) k nothing (omega arith)

choice_as_ok : (os : List Outcome) (t : Token) (w : Option (ℕ × ℕ)) (o : Outcome) → All GoodOutcome os → choice_as os t w ≡ Ok o → GoodOutcome o
choice_as_ok os t None o all h = absurd (ok_err o (Bad t.at) h)
choice_as_ok os t (Some w) o all h =
    let a = passed_test (nat_lt (length os) w.0) (Bad t.at) (if nat_lt 36 w.1 then Err (Limit Digits (pos w.1) t.at) else Ok (outcome_of os w.0)) o h in
    let b = passed_test (nat_lt 36 w.1) (Limit Digits (pos w.1) t.at) (Ok (outcome_of os w.0)) o a.1 in
    let e : outcome_of os w.0 ≡ o = same_read (outcome_of os w.0) o b.1 in
    subst GoodOutcome e (chosen_outcome os w.0 all (ltb-false (length os) w.0 a.0))

choice_ok : (os : List Outcome) → All GoodOutcome os → (s t : Stream) (o : Outcome) → choice_at os s ≡ Ok (o, t) → GoodOutcome o
unfolding choice_at
choice_ok os all s t o h =
    let a = bind_ok (choice_as os (next s) (whole_in (next s).kind)) (λ o. Ok (o, rest s)) (o, t) h in
    let e : a.0 ≡ o = ap (value_or o) a.2 in
    subst GoodOutcome e (choice_as_ok os (next s) (whole_in (next s).kind) a.0 all a.1)

abbrev GoodPayoffs : ℕ → List Ratio → Type 0
GoodPayoffs n ps = (length ps ≡ 2 * n) × All IsShortNumber ps

payoffs_good : (os : List Outcome) → All GoodOutcome os → GoodPayoffs (length os) (payoffs_of os)
payoffs_good [] all = (refl, All-nil IsShortNumber)
payoffs_good (o ∷ os) all =
    let here = all 0 o (omega arith) in
    let others = payoffs_good os (λ k d l. all (suc k) d (omega arith)) in
    let n : length (payoffs_of os) ≡ 2 * length os = others.0 in
    (omega arith, All-cons IsShortNumber o.first (o.second ∷ payoffs_of os) here.0 (All-cons IsShortNumber o.second (payoffs_of os) here.1 others.1))

choices_ok : (os : List Outcome) → All GoodOutcome os → (n : ℕ) (s t : Stream) (ps : List Ratio) → choices_at os n s ≡ Ok (ps, t) → GoodPayoffs n ps
unfolding choices_at
choices_ok os all n s t ps h =
    let a = bind_ok (times_at (choice_at os) n s) (λ chosen. Ok (payoffs_of chosen.0, chosen.1)) (ps, t) h in
    let k = times_ok GoodOutcome (choice_at os) (choice_ok os all) n s a.0.1 a.0.0 a.1 in
    let e : payoffs_of a.0.0 ≡ ps = ap (value_or ps) a.2 in
    subst (GoodPayoffs n) e (subst (λ m. GoodPayoffs m (payoffs_of a.0.0)) k.0 (payoffs_good a.0.0 k.1))

chosen_payoffs_ok : (n : ℕ) (s t : Stream) (ps : List Ratio) → chosen_at n s ≡ Ok (ps, t) → GoodPayoffs n ps
unfolding chosen_at
chosen_payoffs_ok n s t ps h =
    let a = bind_ok (open_at s) (λ a. outcomes_at a >>= λ os. choices_at os.0 n os.1) (ps, t) h in
    let b = bind_ok (outcomes_at a.0) (λ os. choices_at os.0 n os.1) (ps, t) a.2 in
    choices_ok b.0.0 (outcomes_ok a.0 b.0.1 b.0.0 b.1) n b.0.1 t ps b.2

body_by : (n : ℕ) (s t : Stream) (ps : List Ratio) (k : Kind) → (elim k as (λ _. Result (List Ratio × Stream) NfgFault) [
  | open_brace ↦ chosen_at n s
  | _ ↦ times_at number_at (2 * n) s
]) ≡ Ok (ps, t) → GoodPayoffs n ps
body_by n s t ps open_brace h = chosen_payoffs_ok n s t ps h
body_by n s t ps close_brace h = times_ok IsShortNumber number_at number_ok (2 * n) s t ps h
body_by n s t ps (quoted u) h = times_ok IsShortNumber number_at number_ok (2 * n) s t ps h
body_by n s t ps (word w) h = times_ok IsShortNumber number_at number_ok (2 * n) s t ps h
body_by n s t ps unclosed h = times_ok IsShortNumber number_at number_ok (2 * n) s t ps h
body_by n s t ps ended h = times_ok IsShortNumber number_at number_ok (2 * n) s t ps h

body_ok : (n : ℕ) (s t : Stream) (ps : List Ratio) → body_at n s ≡ Ok (ps, t) → GoodPayoffs n ps
unfolding body_at
body_ok n s t ps h = body_by n s t ps (next s).kind h

players_ok : (s t : Stream) (ns : List (List ℕ)) → players_at s ≡ Ok (ns, t) → length ns ≡ 2
unfolding players_at
players_ok s t ns h =
    let a = bind_ok (open_at s) (λ a. player_at 0 a >>= λ first. player_at 1 first.1 >>= λ second. two_at second.1 >>= λ b. Ok (first.0 ∷ second.0 ∷ [], b)) (ns, t) h in
    let b = bind_ok (player_at 0 a.0) (λ first. player_at 1 first.1 >>= λ second. two_at second.1 >>= λ b. Ok (first.0 ∷ second.0 ∷ [], b)) (ns, t) a.2 in
    let c = bind_ok (player_at 1 b.0.1) (λ second. two_at second.1 >>= λ d. Ok (b.0.0 ∷ second.0 ∷ [], d)) (ns, t) b.2 in
    let d = bind_ok (two_at c.0.1) (λ d. Ok (b.0.0 ∷ c.0.0 ∷ [], d)) (ns, t) c.2 in
    let e : b.0.0 ∷ c.0.0 ∷ [] ≡ ns = ap (value_or []) d.2 in
    ap length (sym e)

-- ---- the whole file
abbrev game : List ℕ → List (List ℕ) → Strategies → Option (List ℕ) → List Ratio → Nfg
game title players strategies comment payoffs = record { title = title; players = players; strategies = strategies; comment = comment; payoffs = payoffs }

file_ok : (s : Stream) (n : Nfg) → file_at s ≡ Ok n → IsReadGame n
unfolding file_at
file_ok s n h =
    let a = bind_ok (title_at s) (λ title. players_at title.1 >>= λ players. strategies_at players.1 >>= λ strategies. body_at (profiles_of strategies.0) (comment_at strategies.1).1 >>= λ payoffs. end_at payoffs.1 >>= λ a. Ok (game title.0 players.0 strategies.0 (comment_at strategies.1).0 payoffs.0)) n h in
    let b = bind_ok (players_at a.0.1) (λ players. strategies_at players.1 >>= λ strategies. body_at (profiles_of strategies.0) (comment_at strategies.1).1 >>= λ payoffs. end_at payoffs.1 >>= λ z. Ok (game a.0.0 players.0 strategies.0 (comment_at strategies.1).0 payoffs.0)) n a.2 in
    let c = bind_ok (strategies_at b.0.1) (λ strategies. body_at (profiles_of strategies.0) (comment_at strategies.1).1 >>= λ payoffs. end_at payoffs.1 >>= λ z. Ok (game a.0.0 b.0.0 strategies.0 (comment_at strategies.1).0 payoffs.0)) n b.2 in
    let d = bind_ok (body_at (profiles_of c.0.0) (comment_at c.0.1).1) (λ payoffs. end_at payoffs.1 >>= λ z. Ok (game a.0.0 b.0.0 c.0.0 (comment_at c.0.1).0 payoffs.0)) n c.2 in
    let f = bind_ok (end_at d.0.1) (λ z. Ok (game a.0.0 b.0.0 c.0.0 (comment_at c.0.1).0 d.0.0)) n d.2 in
    let e : game a.0.0 b.0.0 c.0.0 (comment_at c.0.1).0 d.0.0 ≡ n = same_read (game a.0.0 b.0.0 c.0.0 (comment_at c.0.1).0 d.0.0) n f.2 in
    let counts = strategies_ok b.0.1 c.0.1 c.0.0 c.1 in
    let payoffs = body_ok (profiles_of c.0.0) (comment_at c.0.1).1 d.0.1 d.0.0 d.1 in
    subst IsReadGame e (record {
      two_players = players_ok a.0.1 b.0.1 b.0.0 b.1;
      two_counts = counts.two;
      some_strategy = λ i l. (counts.each i l).0;
      few_strategies = λ i l. (counts.each i l).1;
      payoffs_fit = payoffs.0;
      numbers = payoffs.1;
    })

pub read_game : (bytes : List ℕ) (n : Nfg) → nfg_of bytes ≡ Ok n → IsReadGame n
unfolding nfg_of
read_game bytes n h = file_ok (stream_of bytes) n h
