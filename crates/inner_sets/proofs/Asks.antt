-- What a profile asks of a part, and the parts that are enough.
use Rattle.std.proofs.Common.{◌≡◌, ◌≢◌, ℕ, zero, suc, ◌+◌, ◌<◌, ◌≤◌, ◌^◌, ⊎_elim, sym, subst, arith}
use Rattle.std.specs.Prelude.{ℤ, List, length, pos, neg_ℤ, ◌+ℤ◌, ◌*ℤ◌, ◌≤ℤ◌, ◌↔◌, unsigned_abs}
use Rattle.std.specs.Int.{int_max}
use Rattle.std.proofs.lemmas.Bool.{cases_lt}
use Rattle.std.proofs.lemmas.Int.{ints, int_max_is}
use Rattle.exact_algebra.proofs.Order.{abs_product, within_abs}
use Rattle.game_model.specs.Game.{DynamicGame, IsDeviation, deviation_at, reached}
use Rattle.game_model.specs.SelfGeneration.{part}
use Rattle.inner_sets.specs.Choice.{discount, payoff_share}
use Rattle.inner_sets.specs.Summaries.{PointSummary, summary_at, DetersAt, IsAskOf, IsAsk}

-- q times a small part
share_small : (q : ℕ) (x : ℤ) → q ≤ 1024 → unsigned_abs x ≤ 2 ^ 30 → unsigned_abs (pos q *ℤ x) ≤ 2 ^ 40
share_small q x few small = omega (arith, abs_product (pos q) x 1024 (2 ^ 30) (omega (arith, ints)) small)

pub below_all : (q : ℕ) (x : ℤ) → q ≤ 1024 → unsigned_abs x ≤ 2 ^ 30 → neg_ℤ (pos (2 ^ 62)) ≤ℤ (pos q *ℤ x)
below_all q x few small = omega (arith, ints, (within_abs (pos q *ℤ x) (2 ^ 40) (share_small q x few small)).0)

pub beyond_all : (q : ℕ) (x : ℤ) → q ≤ 1024 → unsigned_abs x ≤ 2 ^ 30 → pos (2 ^ 62) ≤ℤ (pos q *ℤ x) → ⊥
beyond_all q x few small h = omega (arith, ints, (within_abs (pos q *ℤ x) (2 ^ 40) (share_small q x few small)).1)

-- ---- the greater of two asks
left_asked : (a b z : ℤ) → int_max a b ≤ℤ z → a ≤ℤ z
left_asked a b z h = omega (arith, ints, int_max_is a b)

right_asked : (a b z : ℤ) → int_max a b ≤ℤ z → b ≤ℤ z
right_asked a b z h = omega (arith, ints, int_max_is a b)

both_asked : (a b z : ℤ) → a ≤ℤ z → b ≤ℤ z → int_max a b ≤ℤ z
both_asked a b z h k = omega (arith, ints, int_max_is a b)

greater_small : (a b : ℤ) → unsigned_abs a ≤ 2 ^ 62 → unsigned_abs b ≤ 2 ^ 62 → unsigned_abs (int_max a b) ≤ 2 ^ 62
greater_small a b h k = omega (arith, ints, int_max_is a b)

positive : (n : ℕ) → (n ≡ 0 → ⊥) → 0 < n
positive n h =
    let ne : n ≢ 0 = h in
    omega arith

module _ (g : DynamicGame) (n : ℕ) (ys : List PointSummary) (s a i : ℕ) where
  -- what the deviations to strategies below m ask
  pub record IsAskBelow (m : ℕ) (ask : ℤ) : Type 0 where
    pub small : unsigned_abs ask ≤ 2 ^ 62
    pub enough : (v : List ℤ) → unsigned_abs (part v i) ≤ 2 ^ 30 → (ask ≤ℤ (pos g.q *ℤ part v i)) ↔ ((b : ℕ) → b < m → IsDeviation g s a i b → DetersAt g n ys s a v i b)

  pub no_ask : g.q ≤ 1024 → IsAskBelow 0 (neg_ℤ (pos (2 ^ 62)))
  no_ask few = record {
    small = omega (arith, ints);
    enough = λ v small. (λ h b less. absurd (omega (arith, less)), λ h. below_all g.q (part v i) few small);
  }

  pub one_ask_more : (m : ℕ) (old one : ℤ) → IsDeviation g s a i m → IsAskBelow m old → IsAskOf g n ys s a i m one → IsAskBelow (m + 1) (int_max old one)
  one_ask_more m old one deviates below here = record {
    small = greater_small old one below.small here.small;
    enough = λ v small. (
      λ h b less dev.
          ⊎_elim
          (λ (lt : b < m). (below.enough v small).0 (left_asked old one (pos g.q *ℤ part v i) h) b lt dev)
          (λ (ge : m ≤ b).
          let same : m ≡ b = omega arith in
          subst (λ (b : ℕ). DetersAt g n ys s a v i b) same ((here.enough v small).0 (right_asked old one (pos g.q *ℤ part v i) h)))
          (cases_lt b m),
      λ h. both_asked old one (pos g.q *ℤ part v i)
          ((below.enough v small).1 (λ b less. h b (omega (arith, less))))
          ((here.enough v small).1 (h m (omega arith) deviates)),
    );
  }

  -- the player's own strategy asks nothing
  pub own_asks_nothing : (m : ℕ) (ask : ℤ) → (IsDeviation g s a i m → ⊥) → IsAskBelow m ask → IsAskBelow (m + 1) ask
  own_asks_nothing m ask own below = record {
    small = below.small;
    enough = λ v small. (
      λ h b less dev.
          ⊎_elim
          (λ (lt : b < m). (below.enough v small).0 h b lt dev)
          (λ (ge : m ≤ b).
          let same : b ≡ m = omega arith in
          absurd (own (subst (λ (b : ℕ). IsDeviation g s a i b) same dev)))
          (cases_lt b m),
      λ h. (below.enough v small).1 (λ b less. h b (omega (arith, less))),
    );
  }

  -- past the last strategy there is no deviation
  pub all_asked : (m : ℕ) (ask : ℤ) → ((b : ℕ) → IsDeviation g s a i b → b < m) → IsAskBelow m ask → IsAsk g n ys s a i ask
  all_asked m ask last below = record {
    small = below.small;
    enough = λ v small. (
      λ h b dev. (below.enough v small).0 h b (last b dev) dev,
      λ h. (below.enough v small).1 (λ b less. h b),
    );
  }

  -- the ask of a state with no point
  pub none_deters : (b : ℕ) → g.q ≤ 1024 → length (summary_at ys (reached g s a i b)).points ≡ 0 → IsAskOf g n ys s a i b (pos (2 ^ 62))
  none_deters b few none = record {
    small = omega (arith, ints);
    enough = λ v small. (
      λ h. absurd (beyond_all g.q (part v i) few small h),
      λ deters. absurd (omega (arith, deters.0, none)),
    );
  }

  -- the ask of a state with some point
  pub least_deters : (b : ℕ) (y : PointSummary) (ask : ℤ) → unsigned_abs ask ≤ 2 ^ 46 → y ≡ summary_at ys (reached g s a i b) → (length y.points ≡ 0 → ⊥)
      → ask ≡ payoff_share g n s (deviation_at g s a i b) i +ℤ pos (discount g i) *ℤ part y.least i → IsAskOf g n ys s a i b ask
  least_deters b y ask few is some asks = record {
    small = omega (arith, few);
    enough = λ v small. (
      λ h. (subst (λ (y : PointSummary). 0 < length y.points) is (positive (length y.points) some), subst (λ (y : PointSummary). (payoff_share g n s (deviation_at g s a i b) i +ℤ pos (discount g i) *ℤ part y.least i) ≤ℤ (pos g.q *ℤ part v i)) is (subst (λ (x : ℤ). x ≤ℤ (pos g.q *ℤ part v i)) asks h)),
      λ deters. subst (λ (x : ℤ). x ≤ℤ (pos g.q *ℤ part v i)) (sym asks) (subst (λ (y : PointSummary). (payoff_share g n s (deviation_at g s a i b) i +ℤ pos (discount g i) *ℤ part y.least i) ≤ℤ (pos g.q *ℤ part v i)) (sym is) deters.1),
    );
  }

module _ (g : DynamicGame) (n : ℕ) (ys : List PointSummary) (s a : ℕ) where
  -- what holds of both players' deviations
  pub either_player : (v : List ℤ) (i b : ℕ) → i < 2 → ((b : ℕ) → IsDeviation g s a 0 b → DetersAt g n ys s a v 0 b) → ((b : ℕ) → IsDeviation g s a 1 b → DetersAt g n ys s a v 1 b) → IsDeviation g s a i b → DetersAt g n ys s a v i b
  either_player v zero b h first second = first b
  either_player v (suc zero) b h first second = second b
  either_player v (suc (suc i)) b h first second = absurd (omega arith)
