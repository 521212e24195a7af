-- Choices of points in the prisoner's dilemma.
use Rattle.std.proofs.Common.{ℕ, zero, suc, ◌<◌, List, [], ◌∷◌, inl, refl, arith, lit<}
use Rattle.std.specs.Prelude.{ℤ, pos, ◌≤ℤ◌, All, AllPairs}
use Rattle.std.proofs.lemmas.Int.{ints}
use Rattle.std.proofs.lemmas.List.Elements.{All-nil, All-cons}
use Rattle.std.proofs.lemmas.List.Kept.{AllPairs-cons}
use Rattle.game_model.specs.Game.{IsDeviation}
use Rattle.game_model.specs.Worked.{prisoners}
use Rattle.game_model.proofs.Cases.{below_one}
use Rattle.inner_sets.specs.Candidates.{IsAscending, IsCandidate, Precedes}
use Rattle.inner_sets.specs.Choice.{sublist, IsDeterred, IsGiven, Meets, IsChoice}
use Rattle.inner_sets.specs.Worked.{apart, together, both_points, one_point}

one_item : {X : Type 0} (P : X → Type 0) (x : X) → P x → All P (x ∷ [])
one_item P x h = All-cons P x [] h (All-nil P)

two_items : {X : Type 0} (P : X → Type 0) (x y : X) → P x → P y → All P (x ∷ y ∷ [])
two_items P x y h k = All-cons P x (y ∷ []) h (one_item P y k)

no_pairs : (x : List ℤ) → AllPairs Precedes (x ∷ [])
no_pairs x = λ i j d less below. absurd (omega arith)

-- the deviations where both defect
from_defection : (p q : ℕ) (P : ℕ → ℕ → Type 0) → P 0 0 → P 1 0 → (i b : ℕ) → IsDeviation (prisoners p q) 0 3 i b → P i b
from_defection p q P x y zero zero d = x
from_defection p q P x y zero (suc zero) d = absurd (d.other refl)
from_defection p q P x y zero (suc (suc b)) d = absurd (omega (arith, d.strategy))
from_defection p q P x y (suc zero) zero d = y
from_defection p q P x y (suc zero) (suc zero) d = absurd (d.other refl)
from_defection p q P x y (suc zero) (suc (suc b)) d = absurd (omega (arith, d.strategy))
from_defection p q P x y (suc (suc i)) b d = absurd (omega (arith, d.player))

-- the deviations where both cooperate
from_cooperation : (p q : ℕ) (P : ℕ → ℕ → Type 0) → P 0 1 → P 1 1 → (i b : ℕ) → IsDeviation (prisoners p q) 0 0 i b → P i b
from_cooperation p q P x y zero zero d = absurd (d.other refl)
from_cooperation p q P x y zero (suc zero) d = x
from_cooperation p q P x y zero (suc (suc b)) d = absurd (omega (arith, d.strategy))
from_cooperation p q P x y (suc zero) zero d = absurd (d.other refl)
from_cooperation p q P x y (suc zero) (suc zero) d = y
from_cooperation p q P x y (suc zero) (suc (suc b)) d = absurd (omega (arith, d.strategy))
from_cooperation p q P x y (suc (suc i)) b d = absurd (omega (arith, d.player))

apart_meets : Meets (prisoners 1 2) 1 both_points 0 3 apart
apart_meets = record {
  continuation = (
    (0, pos 1) ∷ [],
    record {
      indices_within = one_item (λ (item : ℕ × ℤ). item.0 < 2) (0, pos 1) (lit< tt);
      not_negative = one_item (λ (item : ℕ × ℤ). pos 0 ≤ℤ item.1) (0, pos 1) (omega (arith, ints));
      total_positive = omega (arith, ints);
      average_x = refl;
      average_y = refl;
    },
  );
  deterred = from_defection 1 2 (λ i b. IsDeterred (prisoners 1 2) 1 both_points 0 3 apart i b) (0, lit< tt, omega (arith, ints)) (0, lit< tt, omega (arith, ints));
}

together_meets : Meets (prisoners 1 2) 1 both_points 0 0 together
together_meets = record {
  continuation = (
    (1, pos 1) ∷ [],
    record {
      indices_within = one_item (λ (item : ℕ × ℤ). item.0 < 2) (1, pos 1) (lit< tt);
      not_negative = one_item (λ (item : ℕ × ℤ). pos 0 ≤ℤ item.1) (1, pos 1) (omega (arith, ints));
      total_positive = omega (arith, ints);
      average_x = refl;
      average_y = refl;
    },
  );
  deterred = from_cooperation 1 2 (λ i b. IsDeterred (prisoners 1 2) 1 both_points 0 0 together i b) (0, lit< tt, omega (arith, ints)) (0, lit< tt, omega (arith, ints));
}

apart_alone : Meets (prisoners 49 100) 1 one_point 0 3 apart
apart_alone = record {
  continuation = (
    (0, pos 1) ∷ [],
    record {
      indices_within = one_item (λ (item : ℕ × ℤ). item.0 < 1) (0, pos 1) (lit< tt);
      not_negative = one_item (λ (item : ℕ × ℤ). pos 0 ≤ℤ item.1) (0, pos 1) (omega (arith, ints));
      total_positive = omega (arith, ints);
      average_x = refl;
      average_y = refl;
    },
  );
  deterred = from_defection 49 100 (λ i b. IsDeterred (prisoners 49 100) 1 one_point 0 3 apart i b) (0, lit< tt, omega (arith, ints)) (0, lit< tt, omega (arith, ints));
}

pub both_given : IsChoice (prisoners 1 2) 1 both_points
both_given = record {
  one_list_each = refl;
  ascending = below_one (λ s. IsAscending (sublist both_points s)) (AllPairs-cons Precedes apart (together ∷ []) (one_item (Precedes apart) together (inl (omega (arith, ints)))) (no_pairs together));
  candidates = below_one (λ s. All (IsCandidate (prisoners 1 2) 1 s) (sublist both_points s)) (two_items (IsCandidate (prisoners 1 2) 1 0) apart together (refl, inl (3, lit< tt, refl, refl)) (refl, inl (0, lit< tt, refl, refl)));
  given = below_one (λ s. All (IsGiven (prisoners 1 2) 1 both_points s) (sublist both_points s)) (two_items (IsGiven (prisoners 1 2) 1 both_points 0) apart together (3, lit< tt, apart_meets) (0, lit< tt, together_meets));
}

pub one_given : IsChoice (prisoners 49 100) 1 one_point
one_given = record {
  one_list_each = refl;
  ascending = below_one (λ s. IsAscending (sublist one_point s)) (no_pairs apart);
  candidates = below_one (λ s. All (IsCandidate (prisoners 49 100) 1 s) (sublist one_point s)) (one_item (IsCandidate (prisoners 49 100) 1 0) apart (refl, inl (3, lit< tt, refl, refl)));
  given = below_one (λ s. All (IsGiven (prisoners 49 100) 1 one_point s) (sublist one_point s)) (one_item (IsGiven (prisoners 49 100) 1 one_point 0) apart (3, lit< tt, apart_alone));
}
