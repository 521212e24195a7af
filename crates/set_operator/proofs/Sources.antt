-- What gives the lower side: the level of the next state, and then one strategy more.
use Rattle.std.proofs.Common.{◌≡◌, inl, inr, ℕ, ◌+◌, ◌^◌, ◌≤◌, sym, ap, ◌∙◌, subst, arith}
use Rattle.std.specs.Prelude.{ℤ, pos, ◌-ℤ◌, ◌≤ℤ◌, ◌<ℤ◌, Option, Some, None, slice_index}
use Rattle.std.specs.Int.RustNames.{unsigned_abs}
use Rattle.std.proofs.lemmas.Int.{ints, by_lt_z}
use Rattle.std.proofs.lemmas.Bool.{cases_eq}
use Rattle.exact_algebra.proofs.Order.{below_at_most_trans, at_most_from_same}
use Rattle.game_model.specs.Game.{counts, successor, reached, IsDeviation}
use Rattle.level_table.specs.declared.level.Level.{Level}
use Rattle.level_table.specs.declared.level.Level.TheVariants.{Empty, At}
use Rattle.level_table.specs.Problem.{Problem, plus_axis, minus_axis, gain}
use Rattle.level_table.specs.Levels.{Levels}
use Rattle.level_table.proofs.Numbers.{number_at}
use Rattle.set_operator.specs.Asked.{IsAsked, IsGiven, IsSideBelow}
use Rattle.set_operator.specs.Boxes.{IsSide, IsSource}
use Rattle.set_operator.specs.declared.boxes.Side.{Side}

abbrev number : Level → ℤ
number Empty = pos 0
number (At x) = x

weaker : (x z : ℤ) → x <ℤ z → x ≤ℤ z
weaker x z l = omega (arith, ints)

-- two levels of one reached state ask the same
same_asked : (p : Problem) (t : Levels) (s a i b c : ℕ) (y z : ℤ) → IsAsked p t s a i b z → b ≡ c → t (reached p.game s a i c) (minus_axis i) ≡ At y → z ≡ y -ℤ gain p s a i c
same_asked p t s a i b c y z (x, here, is) same there =
    let e : x ≡ y = number_at x y (sym here ∙ subst (λ m. t (reached p.game s a i m) (minus_axis i) ≡ At y) (sym same) there) in
    is ∙ ap (λ w. w -ℤ gain p s a i b) e ∙ ap (λ m. y -ℤ gain p s a i m) same

-- ---- one strategy after the other
pub side_start : (p : Problem) (t : Levels) (s a i : ℕ) (u w : ℤ) → t (successor p.game s a) (plus_axis i) ≡ At u → t (successor p.game s a) (minus_axis i) ≡ At w → unsigned_abs u ≤ 2 ^ 50 → unsigned_abs w ≤ 2 ^ 50
    → IsSideBelow p t s a i 0 (record { upper = u; lower = w; by = None })
side_start p t s a i u w plus minus u_small w_small = record {
  upper = plus;
  level = λ v e. at_most_from_same w v (number_at w v (sym minus ∙ e));
  most = λ b x below d e. absurd (omega arith);
  given = minus;
  upper_small = u_small;
  lower_small = omega (arith, w_small);
}

pub side_skip : (p : Problem) (t : Levels) (s a i n : ℕ) (side : Side) → IsSideBelow p t s a i n side → (IsDeviation p.game s a i n → ⊥) → IsSideBelow p t s a i (n + 1) side
side_skip p t s a i n side h none = record {
  upper = h.upper;
  level = h.level;
  most = λ b x below d e. elim (cases_eq n b) [
    | inl same ↦ absurd (none (subst (λ m. IsDeviation p.game s a i m) (sym same) d))
    | inr other ↦ h.most b x (omega arith) d e
  ];
  given = h.given;
  upper_small = h.upper_small;
  lower_small = h.lower_small;
}

-- a strategy that asks for no more
side_keep : (p : Problem) (t : Levels) (s a i n : ℕ) (side : Side) (lower : ℤ) → IsSideBelow p t s a i n side → IsAsked p t s a i n lower → side.lower ≤ℤ lower → IsSideBelow p t s a i (n + 1) side
side_keep p t s a i n side lower h new no_less = record {
  upper = h.upper;
  level = h.level;
  most = λ b x below d e. elim (cases_eq n b) [
    | inl same ↦ subst (λ z. side.lower ≤ℤ z) (same_asked p t s a i n b x lower new same e) no_less
    | inr other ↦ h.most b x (omega arith) d e
  ];
  given = h.given;
  upper_small = h.upper_small;
  lower_small = h.lower_small;
}

-- one that asks for more than all before it
side_take : (p : Problem) (t : Levels) (s a i n : ℕ) (side : Side) (lower : ℤ) → IsSideBelow p t s a i n side → IsDeviation p.game s a i n → IsAsked p t s a i n lower → unsigned_abs lower ≤ 2 ^ 62 → lower <ℤ side.lower
    → IsSideBelow p t s a i (n + 1) (record { upper = side.upper; lower = lower; by = Some n })
side_take p t s a i n side lower h dev new small less = record {
  upper = h.upper;
  level = λ w e. weaker lower w (below_at_most_trans lower side.lower w less (h.level w e));
  most = λ b x below d e. elim (cases_eq n b) [
    | inl same ↦ at_most_from_same lower (x -ℤ gain p s a i b) (same_asked p t s a i n b x lower new same e)
    | inr other ↦ weaker lower (x -ℤ gain p s a i b) (below_at_most_trans lower side.lower (x -ℤ gain p s a i b) less (h.most b x (omega arith) d e))
  ];
  given = (
    dev,
    new,
    (λ w e. below_at_most_trans lower side.lower w less (h.level w e)),
    (λ c y earlier d e. below_at_most_trans lower side.lower (y -ℤ gain p s a i c) less (h.most c y earlier d e)),
  );
  upper_small = h.upper_small;
  lower_small = small;
}

pub side_more : (p : Problem) (t : Levels) (s a i n : ℕ) (side result : Side) (lower : ℤ) → IsSideBelow p t s a i n side → IsDeviation p.game s a i n → IsAsked p t s a i n lower → unsigned_abs lower ≤ 2 ^ 62
    → (lower <ℤ side.lower → result ≡ record { upper = side.upper; lower = lower; by = Some n }) → (side.lower ≤ℤ lower → result ≡ side) → IsSideBelow p t s a i (n + 1) result
side_more p t s a i n side result lower h dev new small less no_less =
    by_lt_z lower side.lower
    (λ l. subst (IsSideBelow p t s a i (n + 1)) (sym (less l)) (side_take p t s a i n side lower h dev new small l))
    (λ l. subst (IsSideBelow p t s a i (n + 1)) (sym (no_less l)) (side_keep p t s a i n side lower h new l))

-- ---- after the last
turned : (l x y g f : ℤ) → l ≡ x -ℤ g → l ≤ℤ (y -ℤ f) → (f -ℤ y) ≤ℤ (g -ℤ x)
turned l x y g f e h = omega (arith, ints, e)

turned_below : (l x y g f : ℤ) → l ≡ x -ℤ g → l <ℤ (y -ℤ f) → (f -ℤ y) <ℤ (g -ℤ x)
turned_below l x y g f e h = omega (arith, ints, e)

source_of : (p : Problem) (t : Levels) (s a i : ℕ) (lower : ℤ) (by : Option ℕ) → IsGiven p t s a i lower by
    → ((b : ℕ) (x : ℤ) → IsDeviation p.game s a i b → t (reached p.game s a i b) (minus_axis i) ≡ At x → lower ≤ℤ (x -ℤ gain p s a i b)) → IsSource p t s a i lower by
source_of p t s a i lower None given most = (given, most)
source_of p t s a i lower (Some b) (dev, (x, kept, is), above, first) most = (
  x,
  record {
    deviation = dev;
    kept = kept;
    most = λ c y d e. turned lower x y (gain p s a i b) (gain p s a i c) is (most c y d e);
    first = λ c y earlier d e. turned_below lower x y (gain p s a i b) (gain p s a i c) is (first c y earlier d e);
  },
  is,
  above,
)

pub side_all : (p : Problem) (t : Levels) (s a i : ℕ) (side : Side) → IsSideBelow p t s a i (slice_index (counts p.game s) i) side → IsSide p t s a i side
side_all p t s a i side h = record {
  upper = h.upper;
  source = source_of p t s a i side.lower side.by h.given (λ b x d e. h.most b x d.strategy d e);
  upper_small = h.upper_small;
  lower_small = h.lower_small;
}
