-- the worked examples, rule by rule, and the one row level of a row
use Rattle.std.proofs.Common.{◌≡◌, ℕ, zero, suc, ◌*◌, ◌<◌, [], ◌∷◌, refl, ap, arith, lit<, lit≤, ◌≤◌, ◌^◌, ℤ, pos, negsuc, ◌-ℤ◌, ◌*ℤ◌, ◌≤ℤ◌, ◌<ℤ◌}
use Rattle.std.specs.Int.RustNames.{unsigned_abs}
use Rattle.std.proofs.lemmas.Int.{ints, by_lt_z}
use Rattle.std.proofs.Math.Nat.{mul-le-mul_left}
use borrow.Author.Differences.{product_is, at_most_in, le_out}
use Rattle.game_model.specs.Game.{counts, profile_count, IsDeviation}
use Rattle.game_model.specs.SelfGeneration.{dot}
use Rattle.level_table.specs.declared.level.Level.{Level}
use Rattle.level_table.specs.declared.level.Level.TheVariants.{Empty, At}
use Rattle.level_table.specs.Problem.{Problem, direction, opening_level}
use Rattle.level_table.specs.Levels.{Levels, opening_table}
use Rattle.level_table.specs.Operator.{Fractions, Admissible, HasValueAbove, IsRowLevel, value, value_unit}
use Rattle.level_table.specs.Tables.{IsFirstBeyond}
use Rattle.level_table.specs.Worked.{large_problem, one_profile, one_problem, whole}
use Rattle.level_table.proofs.Numbers.{number_at}

-- ---- the game with one profile
no_deviation : (i b : ℕ) → IsDeviation one_profile 0 0 i b → ⊥
no_deviation zero zero d = d.other refl
no_deviation zero (suc b) d = absurd (omega (arith, d.strategy))
no_deviation (suc zero) zero d = d.other refl
no_deviation (suc zero) (suc b) d = absurd (omega (arith, d.strategy))
no_deviation (suc (suc i)) b d = absurd (omega (arith, d.player))

half_plane : (k : ℕ) (x : ℤ) → k < 4 → At (opening_level one_problem k) ≡ At x → dot 2 (direction one_problem k) (pos 1 ∷ pos 2 ∷ []) ≤ℤ (x *ℤ pos 1)
half_plane zero x h e = let n : pos 1 ≡ x = number_at (pos 1) x e in rw (← n) (omega (arith, ints))
half_plane (suc zero) x h e = let n : negsuc 0 ≡ x = number_at (negsuc 0) x e in rw (← n) (omega (arith, ints))
half_plane (suc (suc zero)) x h e = let n : pos 2 ≡ x = number_at (pos 2) x e in rw (← n) (omega (arith, ints))
half_plane (suc (suc (suc zero))) x h e = let n : negsuc 1 ≡ x = number_at (negsuc 1) x e in rw (← n) (omega (arith, ints))
half_plane (suc (suc (suc (suc k)))) x h e = absurd (omega arith)

pub payoffs_admissible : Admissible one_problem (opening_table one_problem) 0 0 (whole (pos 1) (pos 2))
payoffs_admissible = record {
  positive = omega (arith, ints);
  next_known = λ k h. tt;
  reached_known = λ i b k d h. absurd (no_deviation i b d);
  half_planes = half_plane;
  incentives = λ i b x d e. absurd (no_deviation i b d);
}

pub above_not_admissible : Admissible one_problem (opening_table one_problem) 0 0 (whole (pos 2) (pos 2)) → ⊥
above_not_admissible a = let h = a.half_planes 0 (pos 1) (lit< tt) refl in absurd (omega (arith, ints, h))

-- ---- the limit of opening levels
pub first_beyond : IsFirstBeyond (large_problem 1048577) (pos 1125900980584448)
first_beyond = record { direction = 0; known = lit< tt; here = refl; beyond = lit< tt; none_before = λ k h. absurd (omega arith) }

within_limit : (k : ℕ) → k < 4 → unsigned_abs (opening_level (large_problem 1048576) k) ≤ 2 ^ 50
within_limit zero h = lit≤ tt
within_limit (suc zero) h = lit≤ tt
within_limit (suc (suc zero)) h = lit≤ tt
within_limit (suc (suc (suc zero))) h = lit≤ tt
within_limit (suc (suc (suc (suc k)))) h = absurd (omega arith)

pub none_beyond : (number : ℤ) → IsFirstBeyond (large_problem 1048576) number → ⊥
none_beyond number f = absurd (omega (arith, f.beyond, within_limit f.direction f.known))

-- ---- the one row level of a row
times_at_most : (n : ℕ) (x y : ℤ) → x ≤ℤ y → (x *ℤ pos n) ≤ℤ (y *ℤ pos n)
times_at_most n x y h = at_most_in (x *ℤ pos n) (y *ℤ pos n) (omega (arith, product_is x (pos n), product_is y (pos n), mul-le-mul_left n (le_out x y h)))

times_unit : (q : ℕ) (d x y : ℤ) → pos 0 <ℤ d → x ≤ℤ y → (x *ℤ (pos q *ℤ d)) ≤ℤ (y *ℤ (pos q *ℤ d))
times_unit q (pos n) x y positive h = times_at_most (q * n) x y h
times_unit q (negsuc n) x y positive h = absurd (omega (arith, ints))

-- a number that bounds all admissible values is not less than one that a value comes close to
at_least : (p : Problem) (t : Levels) (s k : ℕ) (x y : ℤ) → ((a : ℕ) (v : Fractions) → a < profile_count (counts p.game s) → Admissible p t s a v → value p s a k v ≤ℤ (x *ℤ value_unit p v)) →
    HasValueAbove p t s k (y -ℤ pos 1) → y ≤ℤ x
at_least p t s k x y bounds h = by_lt_z x y
    (λ below. absurd
    (let close : x ≤ℤ (y -ℤ pos 1) = omega (arith, ints, below) in
    let v : Fractions = h.vector in
    let scaled : (x *ℤ value_unit p v) ≤ℤ ((y -ℤ pos 1) *ℤ value_unit p v) = times_unit p.game.q v.denominator x (y -ℤ pos 1) h.admissible.positive close in
    let bound : value p s h.profile k v ≤ℤ (x *ℤ value_unit p v) = bounds h.profile v h.known h.admissible in
    between (x *ℤ value_unit p v) ((y -ℤ pos 1) *ℤ value_unit p v) (value p s h.profile k v) scaled h.above bound))
    (λ above. above)
  where
    between : (a b c : ℤ) → a ≤ℤ b → b <ℤ c → c ≤ℤ a → ⊥
    between a b c h k l = absurd (omega (arith, ints))

pub unique : (p : Problem) (t : Levels) (s k : ℕ) (l m : Level) → IsRowLevel p t s k l → IsRowLevel p t s k m → l ≡ m
unique p t s k Empty Empty h j = refl
unique p t s k Empty (At y) h j = absurd (h j.1.profile j.1.vector j.1.known j.1.admissible)
unique p t s k (At x) Empty h j = absurd (j h.1.profile h.1.vector h.1.known h.1.admissible)
unique p t s k (At x) (At y) h j = ap At (same x y (at_least p t s k y x j.0 h.1) (at_least p t s k x y h.0 j.1))
  where
    same : (a b : ℤ) → a ≤ℤ b → b ≤ℤ a → a ≡ b
    same a b h k = omega (arith, ints)
