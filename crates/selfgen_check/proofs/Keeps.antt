-- A correspondence that was read is within the limits of the check.
use Rattle.std.specs.Prelude.{IfOk, nat_lt, if◌then◌else◌, slice_index_or, ℤ, pos, ◌*ℤ◌, unsigned_abs, ◌/◌, ◌%◌}
use Rattle.std.proofs.Common.{◌≡◌, ℕ, zero, suc, ◌+◌, ◌*◌, ◌^◌, ◌<◌, ◌≤◌, Bool, true, false, List, [], ◌∷◌, length, get_or, Result, Ok, Err, refl, sym, ◌∙◌, ap, subst, arith}
use Rattle.std.specs.Int.{IsGcd, ◌∣◌}
use Rattle.std.proofs.Math.Nat.{dvd_refl, dvd-mul_right, div-le_self, mul_comm, mul-div_cancel', mul-le-mul_right}
use Rattle.std.proofs.lemmas.Nat.Gcd.{IsGcd-from_zero, IsGcd-from_mod, IsGcd-swap, dvd_trans}
use Rattle.pay_frac.proofs.Reduce.{divisor_positive}
use Rattle.std.proofs.lemmas.Int.{ints, unsigned_abs-mul}
use Rattle.std.proofs.lemmas.Bool.Decides.{nat_tests}
use Rattle.pay_frac.specs.Ratio.{Ratio}
use Rattle.pay_frac.specs.Number.{euclid}
use Rattle.pay_frac.specs.Whole.{IsLcm}
use Rattle.pay_frac.proofs.Coprime.{multiple}
use Rattle.nfg_text.specs.declared.what.What.{What}
use Rattle.nfg_text.specs.declared.fault.NfgFault.{NfgFault}
use Rattle.nfg_text.specs.declared.fault.NfgFault.TheVariants.{Bad, Limit, NoMemory}
use Rattle.nfg_text.specs.Wanted.{Fails}
use Rattle.game_model.specs.Game.{DynamicGame, IsGame, states, counts, profile_count, payoff_at}
use Rattle.game_model.specs.SelfGeneration.{Entry, no_entry}
use Rattle.selfgen_check.specs.declared.written.Written.{Written}
use Rattle.selfgen_check.specs.declared.text_fault.CorrTextFault.{CorrTextFault}
use Rattle.selfgen_check.specs.Grammar.{written_of}
use Rattle.selfgen_check.specs.Limits.{IsSmallEntry, KeepsLimits}
use Rattle.selfgen_check.specs.Measures.{common_multiple, within, with_part, with_entry, with_state, scaled, scaled_entry, scaled_state, with_payoff, with_payoffs, measured, corr_of}
use Rattle.selfgen_check.specs.Promises.{Promises}
use Rattle.selfgen_check.specs.Shapes.{nothing_written, IsWritten, AllWritten}
use Rattle.selfgen_check.specs.TextFaults.{◌>>=◌, Fails as CorrFails, Gives, told, lifted, folded, each}
use Rattle.selfgen_check.proofs.Shaped.{text_written}

err_ok : {A : Type 0} (x : A) (e : CorrTextFault) → Err e ≡ Ok x → ⊥
err_ok x e h = cc

same_ok : {A : Type 0} (x y : A) → ◌≡◌ {A = Result A CorrTextFault} (Ok x) (Ok y) → x ≡ y
same_ok x y h = cc

pub bind_ok : {A B : Type 0} (said : Result A CorrTextFault) (f : A → Result B CorrTextFault) (y : B) → (said >>= f) ≡ Ok y → (x : A) × (said ≡ Ok x) × (f x ≡ Ok y)
bind_ok (Ok x) f y h = (x, refl, h)
bind_ok (Err e) f y h = absurd (err_ok y e h)

-- what a fold keeps
folded_keeps : {A B : Type 0} (P : B → Type 0) (f : B → A → Result B CorrTextFault) → ((b c : B) (x : A) → P b → f b x ≡ Ok c → P c) → (xs : List A) (b c : B) → P b → folded f b xs ≡ Ok c → P c
folded_keeps P f step [] b c p h = subst P (same_ok b c h) p
folded_keeps P f step (x ∷ xs) b c p h =
    let d = bind_ok (f b x) (λ d. folded f d xs) c h in
    folded_keeps P f step xs d.0 c (step b d.0 x p d.1) d.2

-- a fold that never changes its value passes each item
folded_at : {A B : Type 0} (f : B → A → Result B CorrTextFault) (d : A) → ((b c : B) (x : A) → f b x ≡ Ok c → b ≡ c) → (xs : List A) (b c : B) → folded f b xs ≡ Ok c → (k : ℕ) → k < length xs → f b (get_or xs k d) ≡ Ok b
folded_at f d same [] b c h k l = absurd (omega arith)
folded_at f d same (x ∷ xs) b c h zero l =
    let e = bind_ok (f b x) (λ d. folded f d xs) c h in
    e.1 ∙ ap (λ z. Ok z) (sym (same b e.0 x e.1))
folded_at f d same (x ∷ xs) b c h (suc k) l =
    let e = bind_ok (f b x) (λ d. folded f d xs) c h in
    folded_at f d same xs b c (subst (λ z. folded f z xs ≡ Ok c) (sym (same b e.0 x e.1)) e.2) k (omega arith)

folded_same : {A B : Type 0} (f : B → A → Result B CorrTextFault) → ((b c : B) (x : A) → f b x ≡ Ok c → b ≡ c) → (xs : List A) (b c : B) → folded f b xs ≡ Ok c → b ≡ c
folded_same f same [] b c h = same_ok b c h
folded_same f same (x ∷ xs) b c h =
    let e = bind_ok (f b x) (λ d. folded f d xs) c h in
    same b e.0 x e.1 ∙ folded_same f same xs e.0 c e.2

each_length : {A B : Type 0} (f : A → Result B CorrTextFault) (xs : List A) (ys : List B) → each f xs ≡ Ok ys → length ys ≡ length xs
each_length f [] ys h = ap length (sym (same_ok [] ys h))
each_length f (x ∷ xs) ys h =
    let y = bind_ok (f x) (λ y. each f xs >>= λ ys. Ok (y ∷ ys)) ys h in
    let more = bind_ok (each f xs) (λ ys. Ok (y.0 ∷ ys)) ys y.2 in
    ap length (sym (same_ok (y.0 ∷ more.0) ys more.2)) ∙ ap suc (each_length f xs more.0 more.1)

each_at : {A B : Type 0} (f : A → Result B CorrTextFault) (d : A) (c : B) (xs : List A) (ys : List B) → each f xs ≡ Ok ys → (k : ℕ) → k < length xs → f (get_or xs k d) ≡ Ok (get_or ys k c)
each_at f d c [] ys h k l = absurd (omega arith)
each_at f d c (x ∷ xs) ys h zero l =
    let y = bind_ok (f x) (λ y. each f xs >>= λ ys. Ok (y ∷ ys)) ys h in
    let more = bind_ok (each f xs) (λ ys. Ok (y.0 ∷ ys)) ys y.2 in
    y.1 ∙ ap (λ l. Ok (get_or l 0 c)) (same_ok (y.0 ∷ more.0) ys more.2)
each_at f d c (x ∷ xs) ys h (suc k) l =
    let y = bind_ok (f x) (λ y. each f xs >>= λ ys. Ok (y ∷ ys)) ys h in
    let more = bind_ok (each f xs) (λ ys. Ok (y.0 ∷ ys)) ys y.2 in
    each_at f d c xs more.0 more.1 k (omega arith) ∙ ap (λ l. Ok (get_or l (suc k) c)) (same_ok (y.0 ∷ more.0) ys more.2)

chosen : {A : Type 0} (b : Bool) (e : CorrTextFault) (x y : A) → (if b then Err e else Ok x) ≡ Ok y → (b ≡ false) × (x ≡ y)
chosen true e x y h = absurd (err_ok y e h)
chosen false e x y h = (refl, same_ok x y h)

within_small : (what : What) (most n v : ℕ) → within what most n ≡ Ok v → (n ≤ most) × (n ≡ v)
within_small what most n v h =
    let a = chosen (nat_lt most n) _ n v h in
    let f : nat_lt most n ≡ false = a.0 in
    let l : n ≤ most = grind (arith, nat_tests) in
    (l, a.1)

-- ---- the common denominator
lit_positive : (a : ℕ) → 0 < suc a
lit_positive a = omega arith

euclid_is : (n a b : ℕ) → b ≤ n → IsGcd a b (euclid n a b)
euclid_is zero a b h = IsGcd-from_zero a b (omega arith)
euclid_is (suc n) a zero h = IsGcd-from_zero a 0 refl
euclid_is (suc n) a (suc b) h =
    let l : a % suc b ≤ n = omega arith in
    IsGcd-from_mod a (suc b) (euclid n (suc b) (a % suc b)) (euclid_is n (suc b) (a % suc b) l)

pub least_multiple : (a b : ℕ) → 0 < a → IsLcm a b (common_multiple a b)
unfolding common_multiple
least_multiple a b h =
    let g = euclid b a b in
    let d : IsGcd a b g = euclid_is b a b (omega arith) in
    multiple a b g (divisor_positive b a g h (IsGcd-swap a b g d)) d

divides_multiple : (a b : ℕ) → a ∣ common_multiple a b
unfolding common_multiple
divides_multiple zero b =
    let e : 0 / euclid b 0 b ≡ 0 = omega (arith, div-le_self 0 (euclid b 0 b)) in
    subst (λ n. 0 ∣ n * b) (sym e) (dvd-mul_right 0 b)
divides_multiple (suc a) b =
    let g = euclid b (suc a) b in
    let d : IsGcd (suc a) b g = euclid_is b (suc a) b (omega arith) in
    (multiple (suc a) b g (divisor_positive b (suc a) g (lit_positive a) (IsGcd-swap (suc a) b g d)) d).of_first

record IsCommon (q m : ℕ) : Type 0 where
  small : m ≤ 2 ^ 44
  of_game : q ∣ m

part_kept : (q b c : ℕ) (r : Ratio) → IsCommon q b → with_part b r ≡ Ok c → IsCommon q c
unfolding with_part
part_kept q b c r p h =
    let n = common_multiple b (unsigned_abs r.den) in
    let w = within_small _ (2 ^ 44) n c h in
    record { small = subst (λ c. c ≤ 2 ^ 44) w.1 w.0; of_game = subst (λ c. q ∣ c) w.1 (dvd_trans q p.of_game (divides_multiple b (unsigned_abs r.den))) }

common_kept : (q m : ℕ) (ws : List (List Written)) → q ≤ 2 ^ 44 → folded with_state q ws ≡ Ok m → IsCommon q m
common_kept q m ws l h =
    folded_keeps (IsCommon q) with_state
    (λ b c es p e. folded_keeps (IsCommon q) with_entry (λ b c w p e. folded_keeps (IsCommon q) with_part (λ b c r p e. part_kept q b c r p e) w.point b c p e) es b c p e)
    ws q m (record { small = l; of_game = dvd_refl q }) h

-- ---- parts and payoffs
pub scaled_small : (m : ℕ) (r : Ratio) (z : ℤ) → scaled m r ≡ Ok z → unsigned_abs z ≤ 2 ^ 30
unfolding scaled
scaled_small m r z h =
    let k = m / unsigned_abs r.den in
    let b = bind_ok (within _ (2 ^ 30) (unsigned_abs r.num * k)) (λ n. Ok (r.num *ℤ pos k)) z h in
    let w = within_small _ (2 ^ 30) (unsigned_abs r.num * k) b.0 b.1 in
    let e : r.num *ℤ pos k ≡ z = same_ok (r.num *ℤ pos k) z b.2 in
    subst (λ z. unsigned_abs z ≤ 2 ^ 30) e (subst (λ n. n ≤ 2 ^ 30) (sym (unsigned_abs-mul r.num (pos k))) w.0)

nothing_more : Ratio
nothing_more = record { num = pos 0; den = pos 1 }

entry_small : (g : DynamicGame) (m : ℕ) (w : Written) (e : Entry) → IsWritten g.players w → scaled_entry m w ≡ Ok e → IsSmallEntry g e
entry_small g m w e h k =
    let made : List ℤ → Entry = λ point. record { point = point; profile = w.profile; lottery = w.lottery; punish = w.punish } in
    let b = bind_ok (each (scaled m) w.point) (λ point. Ok (made point)) e k in
    let l : length b.0 ≡ length w.point = each_length (scaled m) w.point b.0 b.1 in
    let shape : IsSmallEntry g (made b.0) = record {
      parts = l ∙ h.parts;
      strategies = h.strategies;
      parts_small = λ i i_lt. let r : i < length w.point = omega (arith, h.parts) in scaled_small m (get_or w.point i nothing_more) (get_or b.0 i (pos 0)) (each_at (scaled m) nothing_more (pos 0) w.point b.0 b.1 i r);
      few_outcomes = h.few_outcomes;
      weights_small = h.weights_small;
    } in
    subst (IsSmallEntry g) (same_ok (made b.0) e b.2) shape

payoff_same : (b c : ℕ) (u : ℤ) → with_payoff b u ≡ Ok c → b ≡ c
payoff_same b c u h = same_ok b c (bind_ok (within _ (2 ^ 30) (unsigned_abs u * b)) (λ n. Ok b) c h).2

payoff_small : (k : ℕ) (u : ℤ) → with_payoff k u ≡ Ok k → unsigned_abs (pos k *ℤ u) ≤ 2 ^ 30
payoff_small k u h =
    let b = bind_ok (within _ (2 ^ 30) (unsigned_abs u * k)) (λ n. Ok k) k h in
    let w = within_small _ (2 ^ 30) (unsigned_abs u * k) b.0 b.1 in
    let e : unsigned_abs (pos k *ℤ u) ≡ k * unsigned_abs u = unsigned_abs-mul (pos k) u in
    subst (λ n. n ≤ 2 ^ 30) (sym e) (omega (arith, w.0))

place_within : (n p a i : ℕ) → a < n → i < p → a * p + i < n * p
place_within n p a i h l = let m : (a + 1) * p ≤ n * p = mul-le-mul_right p (omega arith) in omega arith

payoffs_small : (g : DynamicGame) (k j : ℕ) → IsGame g → folded with_payoffs k g.payoffs ≡ Ok j
    → (s a i : ℕ) → s < states g → a < profile_count (counts g s) → i < g.players → unsigned_abs (pos k *ℤ payoff_at g s a i) ≤ 2 ^ 30
payoffs_small g k j h f s a i known profile player =
    let us = slice_index_or g.payoffs s [] in
    let listed : s < length g.payoffs = omega (arith, h.payoffs_listed) in
    let here = folded_at with_payoffs [] (λ b c us e. folded_same with_payoff payoff_same us b c e) g.payoffs k j f s listed in
    let long : length us ≡ profile_count (counts g s) * g.players = (h.each_state s known).payoffs_fit in
    let within : a * g.players + i < length us = subst (λ n. a * g.players + i < n) (sym long) (place_within (profile_count (counts g s)) g.players a i profile player) in
    payoff_small k (payoff_at g s a i) (folded_at with_payoff (pos 0) payoff_same us k k here (a * g.players + i) within)

lifted_ok : {A : Type 0} (has : Result A NfgFault) (x : A) → lifted has ≡ Ok x → has ≡ Ok x
lifted_ok (Ok y) x h = ap (λ z. Ok z) (same_ok y x h)
lifted_ok (Err e) x h = absurd (err_ok x _ h)

abbrev made : ℕ → List (List Entry) → Promises
made m es = record { common = m; entries = es }

measured_keeps : (g : DynamicGame) (ws : List (List Written)) (c : Promises) → IsGame g → AllWritten g.players (states g) ws → 0 < c.common → measured g ws ≡ Ok c → KeepsLimits g c
unfolding measured
measured_keeps g ws c h shape p k =
    let q = unsigned_abs g.denominator in
    let small : q ≤ 2 ^ 44 = omega (arith, ints, h.denominator_positive, h.denominator_small) in
    let last : ℕ → List (List Entry) → Result Promises CorrTextFault = λ m es. folded with_payoffs (m / q) g.payoffs >>= λ k. Ok (made m es) in
    let a = bind_ok (folded with_state q ws) (λ m. each (scaled_state m) ws >>= last m) c k in
    let m = a.0 in
    let common : IsCommon q m = common_kept q m ws small a.1 in
    let b = bind_ok (each (scaled_state m) ws) (last m) c a.2 in
    let es = b.0 in
    let d = bind_ok (folded with_payoffs (m / q) g.payoffs) (λ k. Ok (made m es)) c b.2 in
    let same : made m es ≡ c = same_ok (made m es) c d.2 in
    let positive : 0 < m = subst (λ (c : Promises). 0 < c.common) (sym same) p in
    let count : length es ≡ length ws = each_length (scaled_state m) ws es b.1 in
    let states_at : (s : ℕ) → s < length ws → scaled_state m (get_or ws s []) ≡ Ok (get_or es s []) = λ s l. each_at (scaled_state m) [] [] ws es b.1 s l in
    let all : KeepsLimits g (made m es) = record {
      positive = positive;
      common_small = common.small;
      multiple = sym (mul_comm (m / q) q ∙ mul-div_cancel' q common.of_game);
      payoffs_small = payoffs_small g (m / q) d.0 h d.1;
      one_list_each = count ∙ shape.one_each;
      few_entries = λ s l.
          let r : s < length ws = omega (arith, shape.one_each) in
          let n = each_length (scaled_entry m) (get_or ws s []) (get_or es s []) (states_at s r) in
          subst (λ n. n ≤ 65535) (sym n) (shape.each_state s r).few;
      small_entries = λ s k l in_list.
          let r : s < length ws = omega (arith, shape.one_each) in
          let n = each_length (scaled_entry m) (get_or ws s []) (get_or es s []) (states_at s r) in
          let t : k < length (get_or ws s []) = subst (λ n. k < n) n in_list in
          entry_small g m (get_or (get_or ws s []) k nothing_written) (get_or (get_or es s []) k no_entry) ((shape.each_state s r).each_one k t)
          (each_at (scaled_entry m) nothing_written no_entry (get_or ws s []) (get_or es s []) (states_at s r) k t);
    } in
    subst (KeepsLimits g) same all

-- what a text has keeps the limits, but for a common denominator of 0
pub corr_keeps : (g : DynamicGame) (bytes : List ℕ) (c : Promises) → IsGame g → 0 < c.common → corr_of g bytes ≡ Ok c → KeepsLimits g c
unfolding corr_of
corr_keeps g bytes c h p k =
    let a = bind_ok (lifted (written_of g bytes)) (measured g) c k in
    measured_keeps g a.0 c h (text_written g bytes a.0 (lifted_ok (written_of g bytes) a.0 a.1)) p a.2

pub answer_keeps : (g : DynamicGame) (bytes : List ℕ) (r : Result Promises CorrTextFault) → IsGame g → Gives r (corr_of g bytes) → IfOk r (λ c. 0 < c.common) → IfOk r (λ c. KeepsLimits g c)
answer_keeps g bytes (Ok c) h e p = corr_keeps g bytes c h p e
answer_keeps g bytes (Err x) h e p = p

-- what was read is measured, and a fault of the form is told
pub read_on : (g : DynamicGame) (bytes : List ℕ) (ws : List (List Written)) → written_of g bytes ≡ Ok ws → corr_of g bytes ≡ measured g ws
unfolding corr_of
read_on g bytes ws h =
    let on : Result (List (List Written)) NfgFault → Result Promises CorrTextFault = λ w. lifted w >>= measured g in
    ap on h

pub gives_read : (g : DynamicGame) (bytes : List ℕ) (ws : List (List Written)) (r : Result Promises CorrTextFault) → written_of g bytes ≡ Ok ws → Gives r (measured g ws) → Gives r (corr_of g bytes)
gives_read g bytes ws r h k = subst (λ (said : Result Promises CorrTextFault). Gives r said) (sym (read_on g bytes ws h)) k

pub fails_read : (g : DynamicGame) (bytes : List ℕ) (e : NfgFault) (f : CorrTextFault) → f ≡ told e → Fails e (written_of g bytes) → CorrFails f (corr_of g bytes)
unfolding corr_of
fails_read g bytes e f same h = subst (λ (f : CorrTextFault). CorrFails f (corr_of g bytes)) (sym same) (by e h)
  where
    on : Result (List (List Written)) NfgFault → Result Promises CorrTextFault
    on w = lifted w >>= measured g

    by : (e : NfgFault) → Fails e (written_of g bytes) → CorrFails (told e) (on (written_of g bytes))
    by (Bad at) h = ap on h
    by (Limit what number at) h = ap on h
    by NoMemory h = tt

pub measured_ok : (g : DynamicGame) (ws : List (List Written)) (q m k : ℕ) (es : List (List Entry)) (c : Promises) → q ≡ unsigned_abs g.denominator → folded with_state q ws ≡ Ok m → each (scaled_state m) ws ≡ Ok es
    → folded with_payoffs (m / q) g.payoffs ≡ Ok k → c ≡ made m es → measured g ws ≡ Ok c
unfolding measured
measured_ok g ws q m k es c same h j l is =
    let d = unsigned_abs g.denominator in
    let third : ℕ → List (List Entry) → Result ℕ CorrTextFault → Result Promises CorrTextFault = λ m es r. r >>= λ k. Ok (made m es) in
    let second : ℕ → Result (List (List Entry)) CorrTextFault → Result Promises CorrTextFault = λ m r. r >>= λ es. third m es (folded with_payoffs (m / d) g.payoffs) in
    let first : Result ℕ CorrTextFault → Result Promises CorrTextFault = λ r. r >>= λ m. second m (each (scaled_state m) ws) in
    let a : folded with_state d ws ≡ Ok m = subst (λ (q : ℕ). folded with_state q ws ≡ Ok m) same h in
    let b : folded with_payoffs (m / d) g.payoffs ≡ Ok k = subst (λ (q : ℕ). folded with_payoffs (m / q) g.payoffs ≡ Ok k) same l in
    ap first a ∙ ap (second m) j ∙ ap (third m es) b ∙ ap (λ (c : Promises). Ok c) (sym is)
