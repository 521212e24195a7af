-- Least common multiples of denominators, one more at a time.
use Rattle.std.proofs.Common.{◌≡◌, ℕ, zero, suc, ◌+◌, ◌-◌, ◌*◌, ◌/◌, ◌^◌, ◌<◌, ◌≤◌, List, [], ◌∷◌, ◌++◌, length, map, get_or, take, drop, refl, sym, ap, subst, ◌∙◌, arith, append_assoc, ⊎_elim}
use Rattle.std.specs.Prelude.{ℤ}
use Rattle.std.specs.List.{flat_map}
use Rattle.std.specs.Int.{◌∣◌}
use Rattle.std.specs.Int.RustNames.{unsigned_abs}
use Rattle.std.proofs.Math.Nat.{dvd-mul_left, dvd-mul_right, dvd_antisymm, eq-zero_of_zero-dvd, le_of_dvd, mul-div_cancel'}
use Rattle.std.proofs.lemmas.Bool.{cases_lt, cases_eq}
use Rattle.std.proofs.lemmas.List.{append-nil, get_or_append_left, get_or_push, length-append, map-append, map_more, take_more, take-append-drop}
use Rattle.std.proofs.lemmas.List.Concat.{flat_map-append}
use Rattle.pay_frac.specs.Ratio.{Ratio}
use Rattle.pay_frac.specs.Whole.{IsLcm}
use Rattle.pay_frac.proofs.Coprime.{positive_product}
use Rattle.game_model.specs.Game.{Divides, IsLeastCommonMultiple}
use Rattle.nfg_text.specs.declared.nfg.Nfg.{Nfg}
use Rattle.dyn_text.specs.BuildFaults.{shown, IsWideDenominator}

pub to_dvd : (a b : ℕ) → Divides a b → a ∣ b
to_dvd a b (k, e) = subst (λ n. a ∣ n) (sym e) (dvd-mul_right a k)

pub from_dvd : (a b : ℕ) → a ∣ b → Divides a b
from_dvd a b h = (b / a, sym (mul-div_cancel' a h))

divides_le : (a b : ℕ) → 0 < b → Divides a b → a ≤ b
divides_le a b p h = le_of_dvd p (to_dvd a b h)

divides_trans : (a b c : ℕ) → Divides a b → Divides b c → Divides a c
divides_trans a b c (k, e) (l, f) = (k * l, f ∙ ap (λ n. n * l) e ∙ omega arith)

pub lcm_positive : (a d m : ℕ) → 0 < a → 0 < d → IsLcm a d m → 0 < m
lcm_positive a d m p q l =
    ⊎_elim
    (λ (z : m ≡ 0). absurd (
    let e : a * d ≡ 0 = eq-zero_of_zero-dvd (subst (λ n. n ∣ a * d) z (l.least (a * d) (dvd-mul_right a d) (dvd-mul_left d a))) in
    let k : 0 < a * d = positive_product a d p q in
    omega arith))
    (λ (n : m ≡ 0 → ⊥). omega arith)
    (cases_eq m 0)

-- one number more
pub lcm_push : (xs : List ℕ) (b d m : ℕ) → IsLeastCommonMultiple xs b → 0 < d → IsLcm b d m → IsLeastCommonMultiple (xs ++ d ∷ []) m
lcm_push xs b d m so_far p l =
    let n : length (xs ++ d ∷ []) ≡ length xs + 1 = length-append xs (d ∷ []) in
    let of_b : Divides b m = from_dvd b m l.of_first in
    let of_d : Divides d m = from_dvd d m l.of_second in
    record {
      positive = lcm_positive b d m so_far.positive p l;
      multiple = λ i h. ⊎_elim
          (λ (lt : i < length xs). subst (λ k. Divides k m) (sym (get_or_append_left xs (d ∷ []) 0 i lt)) (divides_trans (get_or xs i 0) b m (so_far.multiple i lt) of_b))
          (λ (ge : length xs ≤ i). let e : length xs ≡ i = omega arith in subst (λ k. Divides k m) (sym (get_or_push xs d 0 i e)) of_d)
          (cases_lt i (length xs));
      least = λ c each. from_dvd m c (l.least c
          (to_dvd b c (so_far.least c (λ i h.
          let lt : i < length (xs ++ d ∷ []) = omega arith in
          subst (λ k. Divides k c) (get_or_append_left xs (d ∷ []) 0 i h) (each i lt))))
          (to_dvd d c (
          let lt : length xs < length (xs ++ d ∷ []) = omega arith in
          subst (λ k. Divides k c) (get_or_push xs d 0 (length xs) refl) (each (length xs) lt))));
    }

pub one_multiple : (xs : List ℕ) (a b : ℕ) → IsLeastCommonMultiple xs a → IsLeastCommonMultiple xs b → a ≡ b
one_multiple xs a b h k = dvd_antisymm (to_dvd a b (h.least b k.multiple)) (to_dvd b a (k.least a h.multiple))

-- fewer numbers have no greater multiple
pub front_le : (xs ys : List ℕ) (a b : ℕ) → IsLeastCommonMultiple xs a → IsLeastCommonMultiple (xs ++ ys) b → a ≤ b
front_le xs ys a b h k =
    let n : length (xs ++ ys) ≡ length xs + length ys = length-append xs ys in
    divides_le a b k.positive (h.least b (λ i l.
    let lt : i < length (xs ++ ys) = omega arith in
    subst (λ n. Divides n b) (get_or_append_left xs ys 0 i l) (k.multiple i lt)))

-- where all denominators have a multiple within the limit, no front of them passes it
pub wide_excluded : (dens : List ℕ) (unit : ℕ) (number : ℤ) → IsLeastCommonMultiple dens unit → unit ≤ 2 ^ 40 → IsWideDenominator dens number → ⊥
wide_excluded dens unit number h l w =
    let e : dens ≡ (w.front ++ w.here ∷ []) ++ w.others = w.split ∙ sym (append_assoc w.front (w.here ∷ []) w.others) in
    let k : w.multiple ≤ unit = front_le (w.front ++ w.here ∷ []) w.others w.multiple unit w.multiple_is (subst (λ ds. IsLeastCommonMultiple ds unit) e h) in
    let p : 2 ^ 40 < w.multiple = w.passes in
    omega arith

pub wide_more : (xs ys : List ℕ) (number : ℤ) → IsWideDenominator xs number → IsWideDenominator (xs ++ ys) number
wide_more xs ys number w = record {
  front = w.front;
  here = w.here;
  others = w.others ++ ys;
  split = ap (λ l. l ++ ys) w.split ∙ append_assoc w.front (w.here ∷ w.others) ys;
  before = w.before;
  before_is = w.before_is;
  before_within = w.before_within;
  multiple = w.multiple;
  multiple_is = w.multiple_is;
  passes = w.passes;
  number_is = w.number_is;
}

-- a list at a place
pub split_at : {X : Type 0} (xs : List X) (k : ℕ) (x : X) → k < length xs → x ≡ get_or xs k x → xs ≡ take k xs ++ x ∷ drop (suc k) xs
split_at [] k x h e = absurd (omega arith)
split_at (y ∷ xs) zero x h e = ap (λ z. z ∷ xs) (sym e)
split_at (y ∷ xs) (suc k) x h e = ap (λ zs. y ∷ zs) (split_at xs k x (omega arith) e)

-- ---- within a game
abbrev pub den : Ratio → ℕ
den r = unsigned_abs r.den

pub multiple_more : (before : List ℕ) (ps : List Ratio) (k : ℕ) (r : Ratio) (u m : ℕ) → k < length ps → r ≡ get_or ps k r
    → IsLeastCommonMultiple (before ++ map den (take k ps)) u → 0 < den r → IsLcm u (den r) m → IsLeastCommonMultiple (before ++ map den (take (k + 1) ps)) m
multiple_more before ps k r u m h e so_far p l =
    let more : map den (take (k + 1) ps) ≡ map den (take k ps) ++ den r ∷ [] = map_more den ps k r h ∙ ap (λ q. map den (take k ps) ++ den q ∷ []) (sym e) in
    subst (λ l. IsLeastCommonMultiple l m) (append_assoc before (map den (take k ps)) (den r ∷ []) ∙ ap (λ l. before ++ l) (sym more))
    (lcm_push (before ++ map den (take k ps)) u (den r) m so_far p l)

pub wide_at : (before : List ℕ) (ps : List Ratio) (k : ℕ) (r : Ratio) (u m : ℕ) (number : ℤ) → k < length ps → r ≡ get_or ps k r
    → IsLeastCommonMultiple (before ++ map den (take k ps)) u → u ≤ 2 ^ 40 → 0 < den r → IsLcm u (den r) m → 2 ^ 40 < m → number ≡ shown m → IsWideDenominator (before ++ map den ps) number
wide_at before ps k r u m number h e so_far within p l passes is = record {
  front = before ++ map den (take k ps);
  here = den r;
  others = map den (drop (suc k) ps);
  split =
      ap (λ l. before ++ map den l) (split_at ps k r h e)
      ∙ ap (λ l. before ++ l) (map-append den (take k ps) (r ∷ drop (suc k) ps))
      ∙ sym (append_assoc before (map den (take k ps)) (den r ∷ map den (drop (suc k) ps)));
  before = u;
  before_is = so_far;
  before_within = within;
  multiple = m;
  multiple_is = lcm_push (before ++ map den (take k ps)) u (den r) m so_far p l;
  passes = passes;
  number_is = is;
}

-- ---- over games
pub games_more : {A : Type 0} (f : Nfg → List A) (games : List Nfg) (i : ℕ) (g : Nfg) → i < length games → g ≡ get_or games i g
    → flat_map f (take (i + 1) games) ≡ flat_map f (take i games) ++ f g
games_more f games i g h e =
    ap (flat_map f) (take_more games i g h ∙ ap (λ x. take i games ++ x ∷ []) (sym e))
    ∙ flat_map-append f (take i games) (g ∷ [])
    ∙ ap (λ l. flat_map f (take i games) ++ l) (append-nil (f g))

pub games_all : {A : Type 0} (f : Nfg → List A) (games : List Nfg) (n : ℕ) → flat_map f games ≡ flat_map f (take n games) ++ flat_map f (drop n games)
games_all f games n = ap (flat_map f) (sym (take-append-drop n games)) ∙ flat_map-append f (take n games) (drop n games)
