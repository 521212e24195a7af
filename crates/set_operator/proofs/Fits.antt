-- Numbers that fit their types.
use Rattle.std.proofs.Common.{◌≡◌, ℕ, zero, suc, ◌+◌, ◌*◌, ◌^◌, ◌<◌, ◌≤◌, List, [], ◌∷◌, length, take, refl, sym, ◌∙◌, ap, subst, arith}
use Rattle.std.specs.Prelude.{ℤ, pos, All, ◌+ℤ◌, ◌*ℤ◌}
use Rattle.std.specs.Int.{w128}
use Rattle.std.specs.Int.RustNames.{FitsSigned, unsigned_abs}
use Rattle.std.proofs.lemmas.List.{get_or_default, get_or-take, length-take}
use Rattle.exact_algebra.specs.Poly.{var, lit, ◌⊕◌}
use Rattle.exact_algebra.proofs.Normal.{ring}
use Rattle.exact_algebra.proofs.Order.{abs_product, abs_sum}
use Rattle.exact_algebra.proofs.Fits.{fits128}
use Rattle.game_model.specs.SelfGeneration.{sum_below}
use Rattle.lp_cert.specs.Program.{entry}

-- the first n of a list are small where they are so by number
pub take_small : (xs : List ℤ) (n m : ℕ) → n ≤ length xs → ((i : ℕ) → i < n → unsigned_abs (entry xs i) ≤ m) → All (λ x. unsigned_abs x ≤ m) (take n xs)
take_small xs n m long each k d within =
    let below : k < n = omega (arith, within, length-take n xs) in
    let inside : k < length xs = omega arith in
    subst (λ x. unsigned_abs x ≤ m) (sym (get_or-take n xs k d below ∙ get_or_default xs k d (pos 0) inside)) (each k below)

-- a sum over two or three players, of terms that are 0 past them
pub three_sum : (f : ℕ → ℤ) (n : ℕ) → 2 ≤ n → n ≤ 3 → ((i : ℕ) → n ≤ i → f i ≡ pos 0) → f 0 +ℤ f 1 +ℤ f 2 ≡ sum_below f n
three_sum f zero low high h = absurd (omega arith)
three_sum f (suc zero) low high h = absurd (omega arith)
three_sum f (suc (suc zero)) low high h =
    ap (λ z. f 0 +ℤ f 1 +ℤ z) (h 2 (omega arith)) ∙ ring (f 0 ∷ f 1 ∷ []) (var 0 ⊕ var 1 ⊕ lit (pos 0)) ((lit (pos 0) ⊕ var 0) ⊕ var 1) refl
three_sum f (suc (suc (suc zero))) low high h =
    ring (f 0 ∷ f 1 ∷ f 2 ∷ []) (var 0 ⊕ var 1 ⊕ var 2) (((lit (pos 0) ⊕ var 0) ⊕ var 1) ⊕ var 2) refl
three_sum f (suc (suc (suc (suc n)))) low high h = absurd (omega arith)

pub product128 : (a b : ℤ) (m n : ℕ) → unsigned_abs a ≤ m → unsigned_abs b ≤ n → m * n < 2 ^ 127 → FitsSigned w128 (a *ℤ b)
product128 a b m n h k l = fits128 (a *ℤ b) (m * n) (abs_product a b m n h k) l

pub sum128 : (a b : ℤ) (m n : ℕ) → unsigned_abs a ≤ m → unsigned_abs b ≤ n → m + n < 2 ^ 127 → FitsSigned w128 (a +ℤ b)
sum128 a b m n h k l = fits128 (a +ℤ b) (m + n) (abs_sum a b m n h k) l

-- three numbers by place
pub by_place : (a b d : ℤ) (f : ℕ → ℤ) → a ≡ f 0 → b ≡ f 1 → d ≡ f 2 → (i : ℕ) → i < 3 → entry (a ∷ b ∷ d ∷ []) i ≡ f i
by_place a b d f p q r zero l = p
by_place a b d f p q r (suc zero) l = q
by_place a b d f p q r (suc (suc zero)) l = r
by_place a b d f p q r (suc (suc (suc i))) l = absurd (omega arith)
