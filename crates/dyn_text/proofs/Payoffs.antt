-- Payoffs over a common denominator, one more at a time.
use Rattle.std.proofs.Common.{◌≡◌, ℕ, zero, suc, ◌+◌, ◌*◌, ◌/◌, ◌^◌, ◌<◌, ◌≤◌, List, [], ◌∷◌, ◌++◌, length, get_or, take, drop, refl, sym, ap, subst, ◌∙◌, arith, append_assoc}
use Rattle.std.specs.Prelude.{ℤ, pos, negsuc, neg_ℤ, ◌<ℤ◌, ◌≤ℤ◌}
use Rattle.std.specs.List.{All, flat_map}
use Rattle.std.specs.Int.RustNames.{int_div, unsigned_abs}
use Rattle.std.proofs.Math.Seq.{get_or-append_seam}
use Rattle.std.proofs.lemmas.Int.{ints, unsigned_abs-mul}
use Rattle.std.proofs.lemmas.List.{get_or_append_left, get_or-append-add, length-append, take_more}
use Rattle.std.proofs.lemmas.List.Elements.{All-append, All-push}
use Rattle.pay_frac.specs.Ratio.{Ratio}
use Rattle.nfg_text.specs.declared.nfg.Nfg.{Nfg}
use Rattle.dyn_text.specs.Assembled.{units}
use Rattle.dyn_text.specs.BuildFaults.{shown, IsSmallPayoff, IsWidePayoff}
use Rattle.dyn_text.proofs.Multiples.{split_at}

-- the quotient of the code
pub quotient_is : (unit : ℕ) (d : ℤ) → pos 0 <ℤ d → int_div (pos unit) d ≡ pos (unit / unsigned_abs d)
quotient_is unit (pos d) h = refl
quotient_is unit (negsuc d) h = absurd (omega (arith, ints))

pub units_size : (unit : ℕ) (r : Ratio) → unsigned_abs (units unit r) ≡ unsigned_abs r.num * (unit / unsigned_abs r.den)
units_size unit r = unsigned_abs-mul r.num (pos (unit / unsigned_abs r.den))

pub between : (z : ℤ) (n : ℕ) → unsigned_abs z ≤ n → (neg_ℤ (pos n) ≤ℤ z) × (z ≤ℤ pos n)
between (pos m) n h = (omega (arith, ints), omega (arith, ints))
between (negsuc m) n h = (omega (arith, ints), omega (arith, ints))

-- one payoff more is small
pub small_more : (unit : ℕ) (ps : List Ratio) (k : ℕ) (r : Ratio) → k < length ps → r ≡ get_or ps k r → All (IsSmallPayoff unit) (take k ps) → IsSmallPayoff unit r → All (IsSmallPayoff unit) (take (k + 1) ps)
small_more unit ps k r h e all here =
    subst (All (IsSmallPayoff unit)) (sym (take_more ps k r h ∙ ap (λ x. take k ps ++ x ∷ []) (sym e))) (All-push (IsSmallPayoff unit) (take k ps) r all here)

pub wide_payoff_at : (unit : ℕ) (ps : List Ratio) (k : ℕ) (r : Ratio) (number : ℤ) → k < length ps → r ≡ get_or ps k r
    → All (IsSmallPayoff unit) (take k ps) → 2 ^ 26 < unsigned_abs (units unit r) → number ≡ shown (unsigned_abs (units unit r)) → IsWidePayoff unit ps number
wide_payoff_at unit ps k r number h e all passes is = record {
  front = take k ps;
  here = r;
  others = drop (suc k) ps;
  split = split_at ps k r h e;
  before = all;
  passes = passes;
  number_is = is;
}

-- the first among some payoffs is the first of all, where those before them are small
pub wide_payoff_in : (unit : ℕ) (xs ys zs : List Ratio) (number : ℤ) → All (IsSmallPayoff unit) xs → IsWidePayoff unit ys number → IsWidePayoff unit (xs ++ (ys ++ zs)) number
wide_payoff_in unit xs ys zs number all w = record {
  front = xs ++ w.front;
  here = w.here;
  others = w.others ++ zs;
  split =
      ap (λ l. xs ++ (l ++ zs)) w.split
      ∙ ap (λ l. xs ++ l) (append_assoc w.front (w.here ∷ w.others) zs)
      ∙ sym (append_assoc xs w.front (w.here ∷ (w.others ++ zs)));
  before = All-append (IsSmallPayoff unit) xs w.front all w.before;
  passes = w.passes;
  number_is = w.number_is;
}

pub payoff_excluded : (unit : ℕ) (ps : List Ratio) (number : ℤ) → All (IsSmallPayoff unit) ps → IsWidePayoff unit ps number → ⊥
payoff_excluded unit ps number all w =
    let whole : All (IsSmallPayoff unit) (w.front ++ w.here ∷ w.others) = subst (All (IsSmallPayoff unit)) w.split all in
    let n : length (w.front ++ w.here ∷ w.others) ≡ length w.front + suc (length w.others) = length-append w.front (w.here ∷ w.others) in
    let here : IsSmallPayoff unit (get_or (w.front ++ w.here ∷ w.others) (length w.front) w.here) = whole (length w.front) w.here (omega arith) in
    let small : unsigned_abs (units unit w.here) ≤ 2 ^ 26 = subst (IsSmallPayoff unit) (get_or-append_seam w.front w.here w.others w.here) here in
    let passes : 2 ^ 26 < unsigned_abs (units unit w.here) = w.passes in
    omega arith

-- ---- parts of lists that were put together
all_left : {A : Type 0} (P : A → Type 0) (xs ys : List A) → All P (xs ++ ys) → All P xs
all_left P xs ys h k d lt =
    let n : length (xs ++ ys) ≡ length xs + length ys = length-append xs ys in
    subst P (get_or_append_left xs ys d k lt) (h k d (omega arith))

all_right : {A : Type 0} (P : A → Type 0) (xs ys : List A) → All P (xs ++ ys) → All P ys
all_right P xs ys h k d lt =
    let n : length (xs ++ ys) ≡ length xs + length ys = length-append xs ys in
    subst P (get_or-append-add xs ys k d) (h (length xs + k) d (omega arith))

pub all_in : {A : Type 0} (P : A → Type 0) (f : Nfg → List A) (games : List Nfg) (s : ℕ) (g : Nfg) → All P (flat_map f games) → s < length games → All P (f (get_or games s g))
all_in P f [] s g h lt = absurd (omega arith)
all_in P f (n ∷ games) zero g h lt = all_left P (f n) (flat_map f games) h
all_in P f (n ∷ games) (suc s) g h lt = all_in P f games s g (all_right P (f n) (flat_map f games) h) (omega arith)
