-- Sizes from one number of variables to the next, and counts of variables.
use Rattle.std.proofs.Common.{◌≡◌, ℕ, zero, suc, ◌+◌, ◌*◌, ◌<◌, ◌≤◌, ◌^◌, List, [], ◌∷◌, length, refl, sym, ap, subst, ◌∙◌, arith, lit<, lit≤, add-one}
use Rattle.std.specs.Prelude.{ℤ, All, Bool, true, false, slice_index_or, slice_set}
use Rattle.std.specs.Int.RustNames.{unsigned_abs}
use Rattle.lp_core.specs.declared.reduced.Line.{Line}
use Rattle.lp_core.specs.Sizes.{one_if, live_below, level, entry_most, side_most, objective_most, den_most, num_most, dual_most, farkas_most, AreAtMost, AreFew, IsSmallLine}

pub level_is : (live : List Bool) → level live ≡ live_below live 3
unfolding level
level_is live = refl

pub live_below_more : (live : List Bool) (k : ℕ) → live_below live (k + 1) ≡ live_below live k + one_if (slice_index_or live k false)
live_below_more live k = rw add-one refl

pub live_below_next : (live : List Bool) (k : ℕ) → slice_index_or live k false ≡ true → live_below live (k + 1) ≡ live_below live k + 1
live_below_next live k e = live_below_more live k ∙ ap (λ b. live_below live k + one_if b) e

pub live_below_same : (live : List Bool) (k : ℕ) → slice_index_or live k false ≡ false → live_below live (k + 1) ≡ live_below live k
live_below_same live k e = let f : live_below live k + 0 ≡ live_below live k = omega arith in live_below_more live k ∙ ap (λ b. live_below live k + one_if b) e ∙ f

one_small : (b : Bool) → one_if b ≤ 1
one_small true = lit≤ tt
one_small false = lit≤ tt

pub level_few : (live : List Bool) → level live ≤ 3
level_few live = subst (λ n. n ≤ 3) (sym (level_is live)) (omega (arith, one_small (slice_index_or live 0 false), one_small (slice_index_or live 1 false), one_small (slice_index_or live 2 false)))

pub level_some : (live : List Bool) (k : ℕ) → k < 3 → slice_index_or live k false ≡ true → 1 ≤ level live
level_some live zero l e = subst (λ n. 1 ≤ n) (sym (level_is live)) (let f : one_if (slice_index_or live 0 false) ≡ 1 = ap one_if e in omega (arith, f))
level_some live (suc zero) l e = subst (λ n. 1 ≤ n) (sym (level_is live)) (let f : one_if (slice_index_or live 1 false) ≡ 1 = ap one_if e in omega (arith, f))
level_some live (suc (suc zero)) l e = subst (λ n. 1 ≤ n) (sym (level_is live)) (let f : one_if (slice_index_or live 2 false) ≡ 1 = ap one_if e in omega (arith, f))
level_some live (suc (suc (suc k))) l e = absurd (omega (arith, l))

pub level_none : (live : List Bool) → ((k : ℕ) → k < 3 → slice_index_or live k false ≡ false) → level live ≡ 0
level_none live h = level_is live ∙ count _ _ _ (ap one_if (h 0 (lit< tt))) (ap one_if (h 1 (lit< tt))) (ap one_if (h 2 (lit< tt)))
  where
    count : (a b d : ℕ) → a ≡ 0 → b ≡ 0 → d ≡ 0 → 0 + a + b + d ≡ 0
    count a b d e f g = omega (arith, e, f, g)

-- one variable less
pub level_less : (live : List Bool) (k : ℕ) → length live ≡ 3 → k < 3 → slice_index_or live k false ≡ true → level live ≡ suc (level (slice_set live k false))
level_less (a ∷ b ∷ d ∷ []) zero e l h = level_is _ ∙ count (ap one_if h) ∙ ap suc (sym (level_is (false ∷ b ∷ d ∷ [])))
  where
    count : one_if a ≡ 1 → 0 + one_if a + one_if b + one_if d ≡ suc (0 + 0 + one_if b + one_if d)
    count h = omega (arith, h)
level_less (a ∷ b ∷ d ∷ []) (suc zero) e l h = level_is _ ∙ count (ap one_if h) ∙ ap suc (sym (level_is (a ∷ false ∷ d ∷ [])))
  where
    count : one_if b ≡ 1 → 0 + one_if a + one_if b + one_if d ≡ suc (0 + one_if a + 0 + one_if d)
    count h = omega (arith, h)
level_less (a ∷ b ∷ d ∷ []) (suc (suc zero)) e l h = level_is _ ∙ count (ap one_if h) ∙ ap suc (sym (level_is (a ∷ b ∷ false ∷ [])))
  where
    count : one_if d ≡ 1 → 0 + one_if a + one_if b + one_if d ≡ suc (0 + one_if a + one_if b + 0)
    count h = omega (arith, h)
level_less live (suc (suc (suc k))) e l h = absurd (omega (arith, l))
level_less [] k e l h = absurd (omega (arith, e))
level_less (a ∷ []) k e l h = absurd (omega (arith, e))
level_less (a ∷ b ∷ []) k e l h = absurd (omega (arith, e))
level_less (a ∷ b ∷ d ∷ f ∷ live) k e l h = absurd (omega (arith, e))

-- ---- bounds that hold at each level
pub entry_bound : (n : ℕ) → entry_most n ≤ 2 ^ 10
entry_bound zero = lit≤ tt
entry_bound (suc zero) = lit≤ tt
entry_bound (suc (suc zero)) = lit≤ tt
entry_bound (suc (suc (suc n))) = lit≤ tt

pub entry_some : (n : ℕ) → 1 ≤ entry_most n
entry_some zero = lit≤ tt
entry_some (suc zero) = lit≤ tt
entry_some (suc (suc zero)) = lit≤ tt
entry_some (suc (suc (suc n))) = lit≤ tt

pub side_bound : (n : ℕ) → side_most n ≤ 2 ^ 80
side_bound zero = lit≤ tt
side_bound (suc zero) = lit≤ tt
side_bound (suc (suc zero)) = lit≤ tt
side_bound (suc (suc (suc n))) = lit≤ tt

pub objective_bound : (n : ℕ) → objective_most n ≤ 2 ^ 21
objective_bound zero = lit≤ tt
objective_bound (suc zero) = lit≤ tt
objective_bound (suc (suc zero)) = lit≤ tt
objective_bound (suc (suc (suc n))) = lit≤ tt

pub den_bound : (n : ℕ) → den_most n ≤ 2 ^ 10
den_bound zero = lit≤ tt
den_bound (suc zero) = lit≤ tt
den_bound (suc (suc n)) = lit≤ tt

pub den_some : (n : ℕ) → 1 ≤ den_most n
den_some zero = lit≤ tt
den_some (suc zero) = lit≤ tt
den_some (suc (suc n)) = lit≤ tt

pub num_bound : (n : ℕ) → num_most n ≤ 2 ^ 90
num_bound zero = lit≤ tt
num_bound (suc zero) = lit≤ tt
num_bound (suc (suc zero)) = lit≤ tt
num_bound (suc (suc (suc n))) = lit≤ tt

pub num_within : (n : ℕ) → num_most n ≤ 2 ^ 88
num_within zero = lit≤ tt
num_within (suc zero) = lit≤ tt
num_within (suc (suc zero)) = lit≤ tt
num_within (suc (suc (suc n))) = lit≤ tt

pub dual_bound : (n : ℕ) → dual_most n ≤ 2 ^ 20
dual_bound zero = lit≤ tt
dual_bound (suc zero) = lit≤ tt
dual_bound (suc (suc zero)) = lit≤ tt
dual_bound (suc (suc (suc n))) = lit≤ tt

pub farkas_bound : (n : ℕ) → farkas_most n ≤ 2 ^ 20
farkas_bound zero = lit≤ tt
farkas_bound (suc zero) = lit≤ tt
farkas_bound (suc (suc zero)) = lit≤ tt
farkas_bound (suc (suc (suc n))) = lit≤ tt

pub farkas_some : (n : ℕ) → 1 ≤ farkas_most n
farkas_some zero = lit≤ tt
farkas_some (suc zero) = lit≤ tt
farkas_some (suc (suc zero)) = lit≤ tt
farkas_some (suc (suc (suc n))) = lit≤ tt

-- ---- a corner
pub side_num : (n : ℕ) → side_most n ≤ num_most n
side_num zero = lit≤ tt
side_num (suc zero) = lit≤ tt
side_num (suc (suc zero)) = lit≤ tt
side_num (suc (suc (suc n))) = lit≤ tt

pub objective_dual : (n : ℕ) → 1 ≤ n → objective_most n ≤ dual_most n
objective_dual zero l = absurd (omega (arith, l))
objective_dual (suc zero) l = lit≤ tt
objective_dual (suc (suc zero)) l = lit≤ tt
objective_dual (suc (suc (suc n))) l = lit≤ tt

-- ---- an elimination
pub entry_step : (n : ℕ) → n < 3 → entry_most (suc n) * entry_most (suc n) + entry_most (suc n) * entry_most (suc n) ≤ entry_most n
entry_step zero l = lit≤ tt
entry_step (suc zero) l = lit≤ tt
entry_step (suc (suc zero)) l = lit≤ tt
entry_step (suc (suc (suc n))) l = absurd (omega (arith, l))

pub side_step : (n : ℕ) → n < 3 → entry_most (suc n) * side_most (suc n) + entry_most (suc n) * side_most (suc n) ≤ side_most n
side_step zero l = lit≤ tt
side_step (suc zero) l = lit≤ tt
side_step (suc (suc zero)) l = lit≤ tt
side_step (suc (suc (suc n))) l = absurd (omega (arith, l))

pub objective_step : (n : ℕ) → n < 3 → entry_most (suc n) * objective_most (suc n) + objective_most (suc n) * entry_most (suc n) ≤ objective_most n
objective_step zero l = lit≤ tt
objective_step (suc zero) l = lit≤ tt
objective_step (suc (suc zero)) l = lit≤ tt
objective_step (suc (suc (suc n))) l = absurd (omega (arith, l))

-- ---- the way back
pub den_step : (n : ℕ) → n < 3 → entry_most (suc n) * den_most n ≤ den_most (suc n)
den_step zero l = lit≤ tt
den_step (suc zero) l = lit≤ tt
den_step (suc (suc zero)) l = lit≤ tt
den_step (suc (suc (suc n))) l = absurd (omega (arith, l))

pub num_step : (n : ℕ) → n < 3 → entry_most (suc n) * num_most n + (side_most (suc n) * den_most n + 3 * (entry_most (suc n) * num_most n)) ≤ num_most (suc n)
num_step zero l = lit≤ tt
num_step (suc zero) l = lit≤ tt
num_step (suc (suc zero)) l = lit≤ tt
num_step (suc (suc (suc n))) l = absurd (omega (arith, l))

pub dual_step : (n : ℕ) → n < 3 → entry_most (suc n) * dual_most n ≤ dual_most (suc n)
dual_step zero l = lit≤ tt
dual_step (suc zero) l = lit≤ tt
dual_step (suc (suc zero)) l = lit≤ tt
dual_step (suc (suc (suc n))) l = absurd (omega (arith, l))

pub dual_pivot : (n : ℕ) → n < 3 → den_most n * objective_most (suc n) + n * (dual_most n * entry_most (suc n)) ≤ dual_most (suc n)
dual_pivot zero l = lit≤ tt
dual_pivot (suc zero) l = lit≤ tt
dual_pivot (suc (suc zero)) l = lit≤ tt
dual_pivot (suc (suc (suc n))) l = absurd (omega (arith, l))

pub farkas_step : (n : ℕ) → n < 3 → entry_most (suc n) * farkas_most n ≤ farkas_most (suc n)
farkas_step zero l = lit≤ tt
farkas_step (suc zero) l = lit≤ tt
farkas_step (suc (suc zero)) l = lit≤ tt
farkas_step (suc (suc (suc n))) l = absurd (omega (arith, l))

pub farkas_pivot : (n : ℕ) → n < 3 → (n + 1) * (farkas_most n * entry_most (suc n)) ≤ farkas_most (suc n)
farkas_pivot zero l = lit≤ tt
farkas_pivot (suc zero) l = lit≤ tt
farkas_pivot (suc (suc zero)) l = lit≤ tt
farkas_pivot (suc (suc (suc n))) l = absurd (omega (arith, l))

pub live_below_few : (live : List Bool) (k : ℕ) → live_below live k ≤ k
live_below_few live zero = lit≤ tt
live_below_few live (suc k) = omega (arith, live_below_few live k, one_small (slice_index_or live k false))

-- ---- rows and objectives that are small at their level
pub line_fits : (n : ℕ) (x : Line) → IsSmallLine (entry_most n) (side_most n) x → IsSmallLine (2 ^ 10) (2 ^ 80) x
line_fits n x h = record {
  entries = record { first = omega (arith, h.entries.first, entry_bound n); second = omega (arith, h.entries.second, entry_bound n); third = omega (arith, h.entries.third, entry_bound n) };
  side = omega (arith, h.side, side_bound n);
}

pub objective_fits : (n : ℕ) (o : List ℤ) → AreAtMost (objective_most n) o → AreAtMost (2 ^ 21) o
objective_fits n o h = record { first = omega (arith, h.first, objective_bound n); second = omega (arith, h.second, objective_bound n); third = omega (arith, h.third, objective_bound n) }

pub num_fits : (n : ℕ) (y : List ℤ) → AreAtMost (num_most n) y → AreAtMost (2 ^ 90) y
num_fits n y h = record { first = omega (arith, h.first, num_bound n); second = omega (arith, h.second, num_bound n); third = omega (arith, h.third, num_bound n) }

pub items_fit : (count most : ℕ) (items : List (ℕ × ℤ)) → most ≤ 2 ^ 20 → AreFew count most items → All (λ item. unsigned_abs item.1 ≤ 2 ^ 20) items
items_fit count most items l h = λ k d w. let a = h.small k d w in omega (arith, a, l)

-- ---- the last variable
pub entry_den : (n : ℕ) → 1 ≤ n → entry_most n ≤ den_most n
entry_den zero l = absurd (omega (arith, l))
entry_den (suc zero) l = lit≤ tt
entry_den (suc (suc zero)) l = lit≤ tt
entry_den (suc (suc (suc n))) l = lit≤ tt

pub entry_farkas : (n : ℕ) → 1 ≤ n → entry_most n ≤ farkas_most n
entry_farkas zero l = absurd (omega (arith, l))
entry_farkas (suc zero) l = lit≤ tt
entry_farkas (suc (suc zero)) l = lit≤ tt
entry_farkas (suc (suc (suc n))) l = lit≤ tt
