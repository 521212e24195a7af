-- The steps of the functions that eliminate a variable and go back.
use Rattle.std.proofs.Common.{◌≡◌, ◌≢◌, ℕ, zero, suc, ◌+◌, ◌*◌, ◌<◌, ◌≤◌, ◌^◌, List, [], ◌∷◌, ◌++◌, length, get_or, map, take, Some, refl, sym, ap, subst, ◌∙◌, arith, lit<, lit≤, below_more, ◌⊎◌, inl, inr}
use Rattle.std.specs.Prelude.{ℤ, pos, ◌+ℤ◌, ◌-ℤ◌, ◌*ℤ◌, cond, slice_get}
use Rattle.exact_algebra.specs.Normal.{is_nought}
use Rattle.std.specs.Int.RustNames.{unsigned_abs}
use Rattle.std.proofs.lemmas.List.{get_or_append_left, get_or_at, take_more, map-append}
use Rattle.exact_algebra.specs.Poly.{var, lit, ◌⊖◌, ◌⊗◌}
use Rattle.exact_algebra.proofs.Normal.{ring}
use Rattle.exact_algebra.proofs.Order.{abs_product, abs_difference}
use Rattle.lp_cert.specs.Program.{entry}
use Rattle.lp_cert.proofs.Steps.{got}
use Rattle.lp_core.specs.declared.reduced.Line.{Line}
use Rattle.lp_core.specs.declared.pivot.Pivot.{Pivot}
use Rattle.lp_core.specs.Lines.{along, line_at}
use Rattle.lp_core.specs.Sizes.{AreAtMost, IsSmallLine}
use Rattle.lp_core.specs.Elimination.{IsEliminated, IsLifted, factor_of, way}
use Rattle.lp_core.proofs.Along.{abs_along}
use Rattle.lp_core.proofs.Fits.{at_place, pivot_small, sign_times}
use Rattle.lp_core.proofs.Sums.{factor_cases}

-- a row without the variable stays as it is
pub eliminated_same : (p : Pivot) (x : Line) → entry x.c p.place ≡ pos 0 → IsEliminated p x x
eliminated_same p x h = record {
  entries = λ k l. sym (ap (λ z. factor_at z *ℤ entry x.c k -ℤ (p.sign *ℤ z) *ℤ entry p.line.c k) h ∙ ring (entry x.c k ∷ p.sign ∷ entry p.line.c k ∷ []) (lit (pos 1) ⊗ var 0 ⊖ (var 1 ⊗ lit (pos 0)) ⊗ var 2) (var 0) refl);
  side = sym (ap (λ z. factor_at z *ℤ x.h -ℤ (p.sign *ℤ z) *ℤ p.line.h) h ∙ ring (x.h ∷ p.sign ∷ p.line.h ∷ []) (lit (pos 1) ⊗ var 0 ⊖ (var 1 ⊗ lit (pos 0)) ⊗ var 2) (var 0) refl);
  same = λ e. refl;
}
  where
    factor_at : ℤ → ℤ
    factor_at z = cond (is_nought z) (pos 1) p.size

-- a row with the variable
pub eliminated_other : (p : Pivot) (x y : Line) → (entry x.c p.place ≡ pos 0 → ⊥) → ((k : ℕ) → k < 3 → entry y.c k ≡ p.size *ℤ entry x.c k -ℤ (p.sign *ℤ entry x.c p.place) *ℤ entry p.line.c k)
    → y.h ≡ p.size *ℤ x.h -ℤ (p.sign *ℤ entry x.c p.place) *ℤ p.line.h → IsEliminated p x y
eliminated_other p x y not h k =
    let e : factor_of p x ≡ p.size = by_case (factor_cases p x) in
    record {
      entries = λ i l. h i l ∙ ap (λ z. z *ℤ entry x.c i -ℤ (p.sign *ℤ entry x.c p.place) *ℤ entry p.line.c i) (sym e);
      side = k ∙ ap (λ z. z *ℤ x.h -ℤ (p.sign *ℤ entry x.c p.place) *ℤ p.line.h) (sym e);
      same = λ z. absurd (not z);
    }
  where
    by_case : (factor_of p x ≡ p.size) ⊎ ((factor_of p x ≡ pos 1) × (entry x.c p.place ≡ pos 0)) → factor_of p x ≡ p.size
    by_case (inl e) = e
    by_case (inr e) = absurd (not e.1)

pub factor_small : (p : Pivot) (x : Line) (m : ℕ) → 1 ≤ m → unsigned_abs p.size ≤ m → unsigned_abs (factor_of p x) ≤ m
factor_small p x m l h = by_case (factor_of p x) (factor_cases p x)
  where
    by_case : (f : ℤ) → (f ≡ p.size) ⊎ ((f ≡ pos 1) × (entry x.c p.place ≡ pos 0)) → unsigned_abs f ≤ m
    by_case f (inl e) = subst (λ z. unsigned_abs z ≤ m) (sym e) h
    by_case f (inr e) = subst (λ z. unsigned_abs z ≤ m) (sym e.0) l

-- the size of a row without the variable
pub eliminated_small : (p : Pivot) (x y : Line) (m h : ℕ) → 1 ≤ m → IsSmallLine m h p.line → IsSmallLine m h x → IsEliminated p x y → IsSmallLine (m * m + m * m) (m * h + m * h) y
eliminated_small p x y m h some own small e =
    let f = factor_small p x m some (pivot_small p m h own) in
    let t = sign_times p (entry x.c p.place) m (at_place m p.place x.c p.inside small.entries) in
    let within : (a b c d i : ℤ) (n : ℕ) → i ≡ a *ℤ b -ℤ c *ℤ d → unsigned_abs a ≤ m → unsigned_abs b ≤ n → unsigned_abs c ≤ m → unsigned_abs d ≤ n → unsigned_abs i ≤ m * n + m * n =
    λ a b c d i n is g l u v. subst (λ z. unsigned_abs z ≤ m * n + m * n) (sym is) (abs_difference (a *ℤ b) (c *ℤ d) (m * n) (m * n) (abs_product a b m n g l) (abs_product c d m n u v)) in
    let part : (k : ℕ) → k < 3 → unsigned_abs (entry y.c k) ≤ m * m + m * m =
    λ k l. within (factor_of p x) (entry x.c k) (p.sign *ℤ entry x.c p.place) (entry p.line.c k) (entry y.c k) m (e.entries k l) f (at_place m k x.c l small.entries) t (at_place m k p.line.c l own.entries) in
    record {
      entries = record { first = part 0 (lit< tt); second = part 1 (lit< tt); third = part 2 (lit< tt) };
      side = within (factor_of p x) x.h (p.sign *ℤ entry x.c p.place) p.line.h y.h h e.side f small.side t own.side;
    }

-- ---- the point
pub way_is : (p : Pivot) (num : List ℤ) (den d a : ℤ) → a ≡ along p.line.c num → d ≡ den *ℤ p.line.h -ℤ pos 1 *ℤ a → p.sign *ℤ d ≡ way p num den
way_is p num den d a e h =
    ap (λ z. p.sign *ℤ z) h ∙ ap (λ z. p.sign *ℤ (den *ℤ p.line.h -ℤ pos 1 *ℤ z)) e
    ∙ ring (p.sign ∷ den ∷ p.line.h ∷ along p.line.c num ∷ []) (var 0 ⊗ (var 1 ⊗ var 2 ⊖ lit (pos 1) ⊗ var 3)) (var 0 ⊗ (var 2 ⊗ var 1 ⊖ var 3)) refl

pub product_small : (p : Pivot) (num : List ℤ) → IsSmallLine (2 ^ 10) (2 ^ 80) p.line → AreAtMost (2 ^ 90) num → unsigned_abs (along p.line.c num) ≤ 2 ^ 102
product_small p num h k = let a = abs_along p.line.c num (2 ^ 10) (2 ^ 90) h.entries k in omega (arith, a)

pub difference_small : (p : Pivot) (num : List ℤ) (den a : ℤ) → IsSmallLine (2 ^ 10) (2 ^ 80) p.line → unsigned_abs den ≤ 2 ^ 10 → unsigned_abs a ≤ 2 ^ 102 → unsigned_abs (den *ℤ p.line.h -ℤ pos 1 *ℤ a) ≤ 2 ^ 110
difference_small p num den a h d k =
    let x = abs_product den p.line.h (2 ^ 10) (2 ^ 80) d h.side in
    let y = abs_product (pos 1) a 1 (2 ^ 102) (lit≤ tt) k in
    let z = abs_difference (den *ℤ p.line.h) (pos 1 *ℤ a) (2 ^ 10 * 2 ^ 80) (1 * 2 ^ 102) x y in
    omega (arith, z)

lifted_cases : (j : ℕ) → j < 3 → (s w : ℤ) (num : List ℤ) (a b d : ℤ)
    → (0 ≡ j → a ≡ s *ℤ entry num 0 +ℤ w) → (0 ≢ j → a ≡ s *ℤ entry num 0)
    → (1 ≡ j → b ≡ s *ℤ entry num 1 +ℤ w) → (1 ≢ j → b ≡ s *ℤ entry num 1)
    → (2 ≡ j → d ≡ s *ℤ entry num 2 +ℤ w) → (2 ≢ j → d ≡ s *ℤ entry num 2)
    → (entry (a ∷ b ∷ d ∷ []) j ≡ s *ℤ entry num j +ℤ w) × ((k : ℕ) → k < 3 → k ≢ j → entry (a ∷ b ∷ d ∷ []) k ≡ s *ℤ entry num k)
lifted_cases j l s w num a b d a1 a2 b1 b2 d1 d2 = (moved j l a1 b1 d1, others)
  where
    moved : (j : ℕ) → j < 3 → (0 ≡ j → a ≡ s *ℤ entry num 0 +ℤ w) → (1 ≡ j → b ≡ s *ℤ entry num 1 +ℤ w) → (2 ≡ j → d ≡ s *ℤ entry num 2 +ℤ w) → entry (a ∷ b ∷ d ∷ []) j ≡ s *ℤ entry num j +ℤ w
    moved zero l p q r = p refl
    moved (suc zero) l p q r = q refl
    moved (suc (suc zero)) l p q r = r refl
    moved (suc (suc (suc j))) l p q r = absurd (omega (arith, l))

    others : (k : ℕ) → k < 3 → k ≢ j → entry (a ∷ b ∷ d ∷ []) k ≡ s *ℤ entry num k
    others zero l n = a2 n
    others (suc zero) l n = b2 n
    others (suc (suc zero)) l n = d2 n
    others (suc (suc (suc k))) l n = absurd (omega (arith, l))

pub lifted_vector : (p : Pivot) (num : List ℤ) (den w a b d : ℤ) → w ≡ way p num den
    → (0 ≡ p.place → a ≡ p.size *ℤ entry num 0 +ℤ w) → (0 ≢ p.place → a ≡ p.size *ℤ entry num 0)
    → (1 ≡ p.place → b ≡ p.size *ℤ entry num 1 +ℤ w) → (1 ≢ p.place → b ≡ p.size *ℤ entry num 1)
    → (2 ≡ p.place → d ≡ p.size *ℤ entry num 2 +ℤ w) → (2 ≢ p.place → d ≡ p.size *ℤ entry num 2)
    → IsLifted p num den (a ∷ b ∷ d ∷ [])
lifted_vector p num den w a b d e a1 a2 b1 b2 d1 d2 =
    let h = lifted_cases p.place p.inside p.size w num a b d a1 a2 b1 b2 d1 d2 in
    record { moved = h.0 ∙ ap (λ z. p.size *ℤ entry num p.place +ℤ z) e; others = h.1 }

-- ---- lists that grow
pub each_push : (P : ℕ → Line → Type 0) (xs : List Line) (y : Line) (n : ℕ) → length xs ≡ n → ((i : ℕ) → i < n → P i (line_at xs i)) → P n y → (i : ℕ) → i < n + 1 → P i (line_at (xs ++ y ∷ []) i)
each_push P xs y n e h new =
    let d : Line = record { c = []; h = pos 0 } in
    below_more (λ i. P i (line_at (xs ++ y ∷ []) i)) n
    (λ i l. subst (λ z. P i z) (sym (get_or_append_left xs (y ∷ []) d i (omega (arith, e, l)))) (h i l))
    (subst (λ z. P n z) (sym (get_or_at xs y [] d n e)) new)

pub map_more : {A B : Type 0} (f : A → B) (xs : List A) (i : ℕ) (x : A) → i < length xs → slice_get xs i ≡ Some x → map f (take (i + 1) xs) ≡ map f (take i xs) ++ f x ∷ []
map_more f xs i x l e =
    ap (map f) (take_more xs i x l) ∙ map-append f (take i xs) (get_or xs i x ∷ []) ∙ ap (λ z. map f (take i xs) ++ f z ∷ []) (got xs i x e x)
