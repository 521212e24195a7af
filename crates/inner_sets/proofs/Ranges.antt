-- Ranges of payoffs, one profile or state more.
use Rattle.std.proofs.Common.{◌≡◌, ℕ, zero, suc, ◌+◌, ◌<◌, ◌≤◌, ◌⊎◌, inl, inr, ⊎_elim, Bool, true, false, cond, refl, sym, subst, arith}
use Rattle.std.specs.Int.{int_min, int_max}
use Rattle.std.specs.Prelude.{ℤ, ◌≤ℤ◌, int_lt}
use Rattle.std.proofs.lemmas.Bool.{cases_lt}
use Rattle.std.proofs.lemmas.Int.{ints, clamps}
use Rattle.exact_algebra.proofs.Order.{at_most_trans, at_most_self, same_from_at_most}
use Rattle.game_model.specs.Game.{DynamicGame, states, counts, profile_count, payoff_at}
use Rattle.inner_sets.specs.Candidates.{IsPayoff, IsRange}
use Rattle.inner_sets.specs.Gains.{IsStateRange, IsRangeBelow}

chosen : (x y : ℤ) (b : Bool) → (cond b x y ≡ x) ⊎ (cond b x y ≡ y)
chosen x y true = inl refl
chosen x y false = inr refl

least_is : (x y : ℤ) → (int_min x y ≡ y) ⊎ (int_min x y ≡ x)
least_is x y = chosen y x (int_lt y x)

most_is : (x y : ℤ) → (int_max x y ≡ x) ⊎ (int_max x y ≡ y)
most_is x y = chosen x y (int_lt y x)

least_bounds : (x y : ℤ) → (int_min x y ≤ℤ x) × (int_min x y ≤ℤ y)
least_bounds x y = (omega (arith, ints, clamps), omega (arith, ints, clamps))

most_bounds : (x y : ℤ) → (x ≤ℤ int_max x y) × (y ≤ℤ int_max x y)
most_bounds x y = (omega (arith, ints, clamps), omega (arith, ints, clamps))

-- one of two that have a property has it
least_has : (P : ℤ → Type 0) (x y z : ℤ) → z ≡ int_min x y → P x → P y → P z
least_has P x y z e h k = subst P (sym e) (⊎_elim (λ (f : int_min x y ≡ y). subst P (sym f) k) (λ (f : int_min x y ≡ x). subst P (sym f) h) (least_is x y))

most_has : (P : ℤ → Type 0) (x y z : ℤ) → z ≡ int_max x y → P x → P y → P z
most_has P x y z e h k = subst P (sym e) (⊎_elim (λ (f : int_max x y ≡ x). subst P (sym f) h) (λ (f : int_max x y ≡ y). subst P (sym f) k) (most_is x y))

abbrev Between : ℤ → ℤ → ℤ → Type 0
Between low high x = (low ≤ℤ x) × (x ≤ℤ high)

wider : (low high low' high' p q x : ℤ) → low' ≡ int_min low p → high' ≡ int_max high q → Between low high x → Between low' high' x
wider low high low' high' p q x e f h = (
  subst (λ (z : ℤ). z ≤ℤ x) (sym e) (at_most_trans _ _ _ (least_bounds low p).0 h.0),
  subst (λ (z : ℤ). x ≤ℤ z) (sym f) (at_most_trans _ _ _ h.1 (most_bounds high q).0),
)

wider_other : (low high low' high' p q x : ℤ) → low' ≡ int_min low p → high' ≡ int_max high q → Between p q x → Between low' high' x
wider_other low high low' high' p q x e f h = (
  subst (λ (z : ℤ). z ≤ℤ x) (sym e) (at_most_trans _ _ _ (least_bounds low p).1 h.0),
  subst (λ (z : ℤ). x ≤ℤ z) (sym f) (at_most_trans _ _ _ h.1 (most_bounds high q).1),
)

pub state_range_first : (g : DynamicGame) (s i : ℕ) (x y : ℤ) → 0 < profile_count (counts g s) → x ≡ payoff_at g s 0 i → y ≡ payoff_at g s 0 i → IsStateRange g s 1 i x y
state_range_first g s i x y some e f = record {
  low_reached = (0, some, sym e);
  high_reached = (0, some, sym f);
  between = λ a h.
      let first : a ≡ 0 = omega arith in
      subst (λ (b : ℕ). Between x y (payoff_at g s b i)) (sym first) (subst (λ (z : ℤ). z ≤ℤ payoff_at g s 0 i) (sym e) (at_most_self (payoff_at g s 0 i)), subst (λ (z : ℤ). payoff_at g s 0 i ≤ℤ z) (sym f) (at_most_self (payoff_at g s 0 i)));
}

pub state_range_more : (g : DynamicGame) (s m i : ℕ) (low high low' high' p q : ℤ) → IsStateRange g s m i low high → m < profile_count (counts g s) → p ≡ payoff_at g s m i → q ≡ payoff_at g s m i
    → low' ≡ int_min low p → high' ≡ int_max high q → IsStateRange g s (m + 1) i low' high'
state_range_more g s m i low high low' high' p q range below ep eq e f = record {
  low_reached = least_has (λ (z : ℤ). (a : ℕ) × (a < profile_count (counts g s)) × (payoff_at g s a i ≡ z)) low p low' e range.low_reached (m, below, sym ep);
  high_reached = most_has (λ (z : ℤ). (a : ℕ) × (a < profile_count (counts g s)) × (payoff_at g s a i ≡ z)) high q high' f range.high_reached (m, below, sym eq);
  between = λ a h.
      ⊎_elim
      (λ (lt : a < m). wider low high low' high' p q (payoff_at g s a i) e f (range.between a lt))
      (λ (ge : m ≤ a).
      let same : a ≡ m = omega arith in
      subst (λ (b : ℕ). Between low' high' (payoff_at g s b i)) (sym same)
      (wider_other low high low' high' p q (payoff_at g s m i) e f (subst (λ (z : ℤ). z ≤ℤ payoff_at g s m i) (sym ep) (at_most_self (payoff_at g s m i)), subst (λ (z : ℤ). payoff_at g s m i ≤ℤ z) (sym eq) (at_most_self (payoff_at g s m i)))))
      (cases_lt a m);
}

-- what holds of the one state holds of the states below 1
only_first : (P : ℕ → Type 0) (s : ℕ) → P 0 → s < 1 → P s
only_first P zero h below = h
only_first P (suc s) h below = absurd (omega arith)

pub range_first : (g : DynamicGame) (i : ℕ) (low high : ℤ) → 0 < states g → IsStateRange g 0 (profile_count (counts g 0)) i low high → IsRangeBelow g 1 i low high
range_first g i low high some range = record {
  low_reached = (0, range.low_reached.0, some, range.low_reached.1, range.low_reached.2);
  high_reached = (0, range.high_reached.0, some, range.high_reached.1, range.high_reached.2);
  between = λ s a h known. only_first (λ (t : ℕ). a < profile_count (counts g t) → Between low high (payoff_at g t a i)) s (λ k. range.between a k) h known;
}

pub range_more : (g : DynamicGame) (m i : ℕ) (low high low' high' p q : ℤ) → IsRangeBelow g m i low high → m < states g → IsStateRange g m (profile_count (counts g m)) i p q
    → low' ≡ int_min low p → high' ≡ int_max high q → IsRangeBelow g (m + 1) i low' high'
range_more g m i low high low' high' p q range below here e f = record {
  low_reached = least_has (λ (z : ℤ). IsPayoff g i z) low p low' e range.low_reached (m, here.low_reached.0, below, here.low_reached.1, here.low_reached.2);
  high_reached = most_has (λ (z : ℤ). IsPayoff g i z) high q high' f range.high_reached (m, here.high_reached.0, below, here.high_reached.1, here.high_reached.2);
  between = λ s a h known.
      ⊎_elim
      (λ (lt : s < m). wider low high low' high' p q (payoff_at g s a i) e f (range.between s a lt known))
      (λ (ge : m ≤ s).
      let same : m ≡ s = omega arith in
      subst (λ (t : ℕ). a < profile_count (counts g t) → Between low' high' (payoff_at g t a i)) same
      (λ k. wider_other low high low' high' p q (payoff_at g m a i) e f (here.between a k)) known)
      (cases_lt s m);
}

pub range_all : (g : DynamicGame) (m i : ℕ) (low high : ℤ) → states g ≤ m → IsRangeBelow g m i low high → IsRange g i low high
range_all g m i low high all range = record {
  low_reached = range.low_reached;
  high_reached = range.high_reached;
  between = λ s a state known. range.between s a (omega arith) known;
}

-- there is one range
pub range_alone : (g : DynamicGame) (i : ℕ) (low high low' high' : ℤ) → IsRange g i low high → IsRange g i low' high' → (low ≡ low') × (high ≡ high')
range_alone g i low high low' high' one other =
    (same_from_at_most low low' (lower other.low_reached) (lower' one.low_reached), same_from_at_most high high' (upper' one.high_reached) (upper other.high_reached))
  where
    lower : IsPayoff g i low' → low ≤ℤ low'
    lower (s, a, state, known, is) = subst (λ (z : ℤ). low ≤ℤ z) is (one.between s a state known).0

    lower' : IsPayoff g i low → low' ≤ℤ low
    lower' (s, a, state, known, is) = subst (λ (z : ℤ). low' ≤ℤ z) is (other.between s a state known).0

    upper : IsPayoff g i high' → high' ≤ℤ high
    upper (s, a, state, known, is) = subst (λ (z : ℤ). z ≤ℤ high) is (one.between s a state known).1

    upper' : IsPayoff g i high → high ≤ℤ high'
    upper' (s, a, state, known, is) = subst (λ (z : ℤ). z ≤ℤ high') is (other.between s a state known).1
