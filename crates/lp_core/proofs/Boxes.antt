-- Boxes of variables among the rows, and the rows that were seen.
use Rattle.std.proofs.Common.{◌≡◌, ◌≢◌, ℕ, zero, suc, ◌+◌, ◌*◌, ◌/◌, ◌<◌, ◌≤◌, List, refl, sym, subst, arith, lit<, ◌⊎◌, inl, inr}
use Rattle.std.specs.Prelude.{ℤ, pos, negsuc, ◌+ℤ◌, ◌*ℤ◌, Bool, true, false, ◌||◌, ◌&&◌, nat_lt, slice_index_or}
use Rattle.std.proofs.lemmas.Bool.Decides.{nat_tests}
use Rattle.lp_cert.specs.Program.{entry, axis}
use Rattle.lp_core.specs.Lines.{is_seen}

-- ---- entries of axes
pub axis_same : (k : ℕ) (s : ℤ) → k < 3 → entry (axis k s) k ≡ s
axis_same zero s l = refl
axis_same (suc zero) s l = refl
axis_same (suc (suc zero)) s l = refl
axis_same (suc (suc (suc k))) s l = absurd (omega (arith, l))

pub axis_other : (k i : ℕ) (s : ℤ) → i ≢ k → entry (axis k s) i ≡ pos 0
axis_other zero zero s n = absurd (n refl)
axis_other zero (suc zero) s n = refl
axis_other zero (suc (suc zero)) s n = refl
axis_other zero (suc (suc (suc i))) s n = refl
axis_other (suc zero) zero s n = refl
axis_other (suc zero) (suc zero) s n = absurd (n refl)
axis_other (suc zero) (suc (suc zero)) s n = refl
axis_other (suc zero) (suc (suc (suc i))) s n = refl
axis_other (suc (suc zero)) zero s n = refl
axis_other (suc (suc zero)) (suc zero) s n = refl
axis_other (suc (suc zero)) (suc (suc zero)) s n = absurd (n refl)
axis_other (suc (suc zero)) (suc (suc (suc i))) s n = refl
axis_other (suc (suc (suc k))) zero s n = refl
axis_other (suc (suc (suc k))) (suc zero) s n = refl
axis_other (suc (suc (suc k))) (suc (suc zero)) s n = refl
axis_other (suc (suc (suc k))) (suc (suc (suc i))) s n = refl

-- the two rows of a box cancel
pub cancel : (k i : ℕ) → k < 3 → i < 3 → pos 1 *ℤ entry (axis k (pos 1)) i +ℤ (pos 1 *ℤ entry (axis k (negsuc 0)) i +ℤ pos 0) ≡ pos 0
cancel zero zero l m = refl
cancel zero (suc zero) l m = refl
cancel zero (suc (suc zero)) l m = refl
cancel (suc zero) zero l m = refl
cancel (suc zero) (suc zero) l m = refl
cancel (suc zero) (suc (suc zero)) l m = refl
cancel (suc (suc zero)) zero l m = refl
cancel (suc (suc zero)) (suc zero) l m = refl
cancel (suc (suc zero)) (suc (suc zero)) l m = refl
cancel (suc (suc (suc k))) i l m = absurd (omega (arith, l))
cancel k (suc (suc (suc i))) l m = absurd (omega (arith, m))

-- ---- rows that were seen
or_true : (a b : Bool) → b ≡ true → a || b ≡ true
or_true true b e = refl
or_true false b e = e

or_first : (a b : Bool) → a ≡ true → a || b ≡ true
or_first true b e = refl
or_first false b e = absurd (grind (arith, e))

pub upper_seen : (live : List Bool) (r k : ℕ) → k < 3 → slice_index_or live k false ≡ true → is_seen live r (2 * k) ≡ true
upper_seen live r zero l e = or_true (nat_lt 0 r) (slice_index_or live 0 false) e
upper_seen live r (suc zero) l e = or_true (nat_lt 2 r) (slice_index_or live 1 false) e
upper_seen live r (suc (suc zero)) l e = or_true (nat_lt 4 r) (slice_index_or live 2 false) e
upper_seen live r (suc (suc (suc k))) l e = absurd (omega (arith, l))

pub lower_seen : (live : List Bool) (r k : ℕ) → k < 3 → slice_index_or live k false ≡ true → is_seen live r (2 * k + 1) ≡ true
lower_seen live r zero l e = or_true (nat_lt 1 r) (slice_index_or live 0 false) e
lower_seen live r (suc zero) l e = or_true (nat_lt 3 r) (slice_index_or live 1 false) e
lower_seen live r (suc (suc zero)) l e = or_true (nat_lt 5 r) (slice_index_or live 2 false) e
lower_seen live r (suc (suc (suc k))) l e = absurd (omega (arith, l))

box_at : (live : List Bool) (l : ℕ) → (nat_lt l 6 && slice_index_or live (l / 2) false) ≡ true
    → (k : ℕ) × (k < 3) × (slice_index_or live k false ≡ true) × ((l ≡ 2 * k) ⊎ (l ≡ 2 * k + 1))
box_at live zero e = (0, lit< tt, e, inl refl)
box_at live (suc zero) e = (0, lit< tt, e, inr refl)
box_at live (suc (suc zero)) e = (1, lit< tt, e, inl refl)
box_at live (suc (suc (suc zero))) e = (1, lit< tt, e, inr refl)
box_at live (suc (suc (suc (suc zero)))) e = (2, lit< tt, e, inl refl)
box_at live (suc (suc (suc (suc (suc zero))))) e = (2, lit< tt, e, inr refl)
box_at live (suc (suc (suc (suc (suc (suc l)))))) e =
    let f : nat_lt (suc (suc (suc (suc (suc (suc l)))))) 6 ≡ false = grind (arith, nat_tests) in
    absurd (none (nat_lt (suc (suc (suc (suc (suc (suc l)))))) 6) (slice_index_or live (suc (suc (suc (suc (suc (suc l))))) / 2) false) f e)
  where
    none : (a b : Bool) → a ≡ false → (a && b) ≡ true → ⊥
    none true b f e = grind (arith, f)
    none false b f e = grind (arith, e)

or_cases : (a b : Bool) → a || b ≡ true → (a ≡ true) ⊎ (b ≡ true)
or_cases true b e = inl refl
or_cases false b e = inr e

-- a row that was seen is one of the first, or of the box of a live variable
pub seen_cases : (live : List Bool) (r l : ℕ) → is_seen live r l ≡ true → (l < r) ⊎ ((k : ℕ) × (k < 3) × (slice_index_or live k false ≡ true) × ((l ≡ 2 * k) ⊎ (l ≡ 2 * k + 1)))
seen_cases live r l e = by_case (or_cases (nat_lt l r) (nat_lt l 6 && slice_index_or live (l / 2) false) e)
  where
    below : nat_lt l r ≡ true → l < r
    below e = grind (arith, nat_tests)

    by_case : (nat_lt l r ≡ true) ⊎ ((nat_lt l 6 && slice_index_or live (l / 2) false) ≡ true) → (l < r) ⊎ ((k : ℕ) × (k < 3) × (slice_index_or live k false ≡ true) × ((l ≡ 2 * k) ⊎ (l ≡ 2 * k + 1)))
    by_case (inl h) = inl (below h)
    by_case (inr h) = inr (box_at live l h)

pub first_seen : (live : List Bool) (r l : ℕ) → l < r → is_seen live r l ≡ true
first_seen live r l h = or_first (nat_lt l r) (nat_lt l 6 && slice_index_or live (l / 2) false) (let e : nat_lt l r ≡ true = grind (arith, nat_tests) in e)

-- one row more
pub seen_more : (live : List Bool) (r l : ℕ) → is_seen live r l ≡ true → is_seen live (r + 1) l ≡ true
seen_more live r l e = by_case (seen_cases live r l e)
  where
    by_case : (l < r) ⊎ ((k : ℕ) × (k < 3) × (slice_index_or live k false ≡ true) × ((l ≡ 2 * k) ⊎ (l ≡ 2 * k + 1))) → is_seen live (r + 1) l ≡ true
    by_case (inl h) = first_seen live (r + 1) l (omega (arith, h))
    by_case (inr (k, l3, live_k, inl e)) = subst (λ n. is_seen live (r + 1) n ≡ true) (sym e) (upper_seen live (r + 1) k l3 live_k)
    by_case (inr (k, l3, live_k, inr e)) = subst (λ n. is_seen live (r + 1) n ≡ true) (sym e) (lower_seen live (r + 1) k l3 live_k)

pub seen_last : (live : List Bool) (r l : ℕ) → is_seen live (r + 1) l ≡ true → (is_seen live r l ≡ true) ⊎ (l ≡ r)
seen_last live r l e = by_case (seen_cases live (r + 1) l e)
  where
    by_case : (l < r + 1) ⊎ ((k : ℕ) × (k < 3) × (slice_index_or live k false ≡ true) × ((l ≡ 2 * k) ⊎ (l ≡ 2 * k + 1))) → (is_seen live r l ≡ true) ⊎ (l ≡ r)
    by_case (inl h) = below (nat_lt l r) refl
      where
        below : (b : Bool) → nat_lt l r ≡ b → (is_seen live r l ≡ true) ⊎ (l ≡ r)
        below true f = inl (first_seen live r l (grind (arith, nat_tests)))
        below false f = inr (let g : r ≤ l = grind (arith, nat_tests) in omega (arith, g, h))
    by_case (inr (k, l3, live_k, inl e)) = inl (subst (λ n. is_seen live r n ≡ true) (sym e) (upper_seen live r k l3 live_k))
    by_case (inr (k, l3, live_k, inr e)) = inl (subst (λ n. is_seen live r n ≡ true) (sym e) (lower_seen live r k l3 live_k))
