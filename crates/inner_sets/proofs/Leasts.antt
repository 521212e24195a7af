-- The first least part, one point more.
use Rattle.std.proofs.Common.{◌≡◌, ℕ, ◌+◌, ◌<◌, ◌≤◌, ⊎_elim, List, sym, subst, arith}
use Rattle.std.specs.Prelude.{ℤ, ◌≤ℤ◌, ◌<ℤ◌}
use Rattle.std.proofs.lemmas.Bool.{cases_lt}
use Rattle.std.proofs.lemmas.Int.{ints}
use Rattle.exact_algebra.proofs.Order.{at_most_self, below_at_most_trans}
use Rattle.game_model.specs.SelfGeneration.{part}
use Rattle.hull_weights.specs.Hull.{point_at}
use Rattle.inner_sets.specs.Choice.{IsFirstLeastBelow}

weaken : (a b : ℤ) → a <ℤ b → a ≤ℤ b
weaken a b h = omega (arith, ints)

pub least_start : (i : ℕ) (points : List (List ℤ)) (m : ℕ) → m ≡ 0 → IsFirstLeastBelow i points (m + 1) m
least_start i points m e = record {
  known = omega arith;
  least = λ j below. let same : j ≡ m = omega arith in subst (λ (t : ℕ). part (point_at points m) i ≤ℤ part (point_at points t) i) (sym same) (at_most_self (part (point_at points m) i));
  first = λ j less. absurd (omega arith);
}

pub least_takes : (i : ℕ) (points : List (List ℤ)) (m k : ℕ) → IsFirstLeastBelow i points m k → part (point_at points m) i <ℤ part (point_at points k) i → IsFirstLeastBelow i points (m + 1) m
least_takes i points m k before less = record {
  known = omega arith;
  least = λ j below.
      ⊎_elim
      (λ (lt : j < m). weaken _ _ (below_at_most_trans _ _ _ less (before.least j lt)))
      (λ (ge : m ≤ j). let same : j ≡ m = omega arith in subst (λ (t : ℕ). part (point_at points m) i ≤ℤ part (point_at points t) i) (sym same) (at_most_self (part (point_at points m) i)))
      (cases_lt j m);
  first = λ j lt. below_at_most_trans _ _ _ less (before.least j lt);
}

pub least_keeps : (i : ℕ) (points : List (List ℤ)) (m k : ℕ) → IsFirstLeastBelow i points m k → part (point_at points k) i ≤ℤ part (point_at points m) i → IsFirstLeastBelow i points (m + 1) k
least_keeps i points m k before most = record {
  known = omega (arith, before.known);
  least = λ j below.
      ⊎_elim
      (λ (lt : j < m). before.least j lt)
      (λ (ge : m ≤ j). let same : j ≡ m = omega arith in subst (λ (t : ℕ). part (point_at points k) i ≤ℤ part (point_at points t) i) (sym same) most)
      (cases_lt j m);
  first = before.first;
}
