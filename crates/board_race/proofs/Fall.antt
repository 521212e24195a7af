-- In the second state the row level of the first direction is half the opening level.
use Rattle.std.proofs.Common.{◌≡◌, ℕ, zero, suc, ◌+◌, ◌*◌, ◌/◌, ◌%◌, ◌<◌, ◌≤◌, ◌^◌, List, [], ◌∷◌, length, get_or, refl, sym, ap, subst, ◌∙◌, arith, lit<, lit≤}
use Rattle.std.specs.Prelude.{ℤ, pos, neg_ℤ, ◌*ℤ◌, ◌≤ℤ◌, slice_index}
use Rattle.std.proofs.lemmas.Int.{ints}
use Rattle.std.proofs.lemmas.List.{get_or-set_other}
use Rattle.direction_set.specs.DirectionTable.{all_vectors, direction_vectors, listed_for_two}
use Rattle.game_model.specs.Game.{Divides, DynamicGame, IsDeviation, IsGame, IsLeastCommonMultiple, counts}
use Rattle.game_model.specs.declared.parts.GameParts.{GameParts}
use Rattle.game_model.specs.Parts.{KeepLimits, game_of, shape_of}
use Rattle.game_model.specs.SelfGeneration.{dot}
use Rattle.game_model.proofs.Cases.{two_at, below_two, in_range, divides_one, below_one}
use Rattle.level_table.specs.declared.level.Level.{Level}
use Rattle.level_table.specs.declared.level.Level.TheVariants.{At}
use Rattle.level_table.specs.Problem.{Problem, direction}
use Rattle.level_table.specs.Levels.{IsNumber, Levels, Table, level_at, levels_in}
use Rattle.level_table.specs.Operator.{Admissible, Fractions, IsRowLevel, value, value_unit}
use Rattle.level_table.specs.Tables.{IsOpening}
use Rattle.level_table.specs.Worked.{axes, whole}
use Rattle.level_table.proofs.Numbers.{number_at}
use Rattle.schedule_core.specs.Frame.{Frame, IsRowLevelOf, with_level}
use Rattle.board_race.specs.Fall.{IsFresh, falling, falling_problem}

pub four : direction_vectors 2 4 ≡ axes
unfolding all_vectors listed_for_two
four = refl

none_deviates : (i b : ℕ) → IsDeviation falling 1 0 i b → ⊥
none_deviates zero zero d = d.other refl
none_deviates zero (suc b) d = absurd (omega (arith, d.strategy))
none_deviates (suc zero) zero d = d.other refl
none_deviates (suc zero) (suc b) d = absurd (omega (arith, d.strategy))
none_deviates (suc (suc i)) b d = absurd (omega (arith, d.player))

-- the levels of the second state
record HasLevels (t : Levels) : Type 0 where
  a : t 1 0 ≡ At (pos 32)
  b : t 1 1 ≡ At (pos 0)
  c : t 1 2 ≡ At (pos 32)
  d : t 1 3 ≡ At (pos 0)

known : (t : Levels) (k : ℕ) → HasLevels t → k < 4 → IsNumber (t 1 k)
known t zero h below = subst IsNumber (sym h.a) tt
known t (suc zero) h below = subst IsNumber (sym h.b) tt
known t (suc (suc zero)) h below = subst IsNumber (sym h.c) tt
known t (suc (suc (suc zero))) h below = subst IsNumber (sym h.d) tt
known t (suc (suc (suc (suc k)))) h below = absurd (omega arith)

half_plane : (t : Levels) (k : ℕ) (x : ℤ) → HasLevels t → k < 4 → t 1 k ≡ At x → dot 2 (direction falling_problem k) (pos 32 ∷ pos 0 ∷ []) ≤ℤ (x *ℤ pos 1)
half_plane t zero x h below e = let n : pos 32 ≡ x = number_at (pos 32) x (sym h.a ∙ e) in rw (← n) (omega (arith, ints))
half_plane t (suc zero) x h below e = let n : pos 0 ≡ x = number_at (pos 0) x (sym h.b ∙ e) in rw (← n) (omega (arith, ints))
half_plane t (suc (suc zero)) x h below e = let n : pos 32 ≡ x = number_at (pos 32) x (sym h.c ∙ e) in rw (← n) (omega (arith, ints))
half_plane t (suc (suc (suc zero))) x h below e = let n : pos 0 ≡ x = number_at (pos 0) x (sym h.d ∙ e) in rw (← n) (omega (arith, ints))
half_plane t (suc (suc (suc (suc k)))) x h below e = absurd (omega arith)

reached_half : (t : Levels) → HasLevels t → Admissible falling_problem t 1 0 (whole (pos 32) (pos 0))
reached_half t h = record {
  positive = omega (arith, ints);
  next_known = λ k below. known t k h below;
  reached_known = λ i b k d below. absurd (none_deviates i b d);
  half_planes = λ k x below e. half_plane t k x h below e;
  incentives = λ i b x d e. absurd (none_deviates i b d);
}

at_most_half : (t : Levels) (y : Fractions) → HasLevels t → Admissible falling_problem t 1 0 y → value falling_problem 1 0 0 y ≤ℤ (pos 16 *ℤ value_unit falling_problem y)
at_most_half t y h adm = let plane = adm.half_planes 0 (pos 32) (lit< tt) h.a in omega (arith, ints, plane)

row_level : (t : Levels) → HasLevels t → IsRowLevel falling_problem t 1 0 (At (pos 16))
row_level t h = (
  λ a y profile. below_one (λ a. Admissible falling_problem t 1 a y → value falling_problem 1 a 0 y ≤ℤ (pos 16 *ℤ value_unit falling_problem y)) (at_most_half t y h) a profile,
  record { profile = 0; vector = whole (pos 32) (pos 0); known = lit< tt; admissible = reached_half t h; above = omega (arith, ints) },
)

pub fresh_level : (f : Frame) (t : Table) → IsFresh f t → IsRowLevelOf f t 4 (At (pos 16))
fresh_level f t h =
    let levels : HasLevels (levels_in t) = record {
      a = ap (λ (n : ℕ). level_at t (1 * n + 0)) h.directions ∙ h.first_most;
      b = ap (λ (n : ℕ). level_at t (1 * n + 1)) h.directions ∙ h.first_least;
      c = ap (λ (n : ℕ). level_at t (1 * n + 2)) h.directions ∙ h.second_most;
      d = ap (λ (n : ℕ). level_at t (1 * n + 3)) h.directions ∙ h.second_least;
    } in
    subst (λ (p : Problem). IsRowLevel p (levels_in t) (4 / f.start.directions) (4 % f.start.directions) (At (pos 16))) (sym h.problem)
    (subst (λ (n : ℕ). IsRowLevel falling_problem (levels_in t) (4 / n) (4 % n) (At (pos 16))) (sym h.start) (row_level (levels_in t) levels))

pub fresh_after : (f : Frame) (t : Table) (l : Level) → IsFresh f t → IsFresh f (with_level t 0 l)
fresh_after f t l h = record {
  problem = h.problem;
  start = h.start;
  directions = h.directions;
  first_most = get_or-set_other t.levels 0 4 l _ (λ e. absurd (omega arith)) ∙ h.first_most;
  first_least = get_or-set_other t.levels 0 5 l _ (λ e. absurd (omega arith)) ∙ h.first_least;
  second_most = get_or-set_other t.levels 0 6 l _ (λ e. absurd (omega arith)) ∙ h.second_most;
  second_least = get_or-set_other t.levels 0 7 l _ (λ e. absurd (omega arith)) ∙ h.second_least;
}

-- the opening of the game
pub fresh_opening : (p : Problem) (t : Table) → p ≡ falling_problem → IsOpening p t → IsFresh (record { problem = p; start = t }) t
fresh_opening p t is ok =
    let opening : IsOpening falling_problem t = subst (λ (q : Problem). IsOpening q t) is ok in
    let four : t.directions ≡ 4 = opening.sizes.directions_agree in
    let here = λ (k : ℕ) (below : k < 4). sym (ap (λ (n : ℕ). level_at t (1 * n + k)) four) ∙ opening.levels 1 k (record { state = lit< tt; direction = below }) in record {
      problem = is;
      start = four;
      directions = four;
      first_most = here 0 (lit< tt);
      first_least = here 1 (lit< tt);
      second_most = here 2 (lit< tt);
      second_least = here 3 (lit< tt);
    }

pair_within : (x : ℕ) → x ≤ 3 → (k : ℕ) → k < 2 → (neg_ℤ (pos (2 ^ 26)) ≤ℤ get_or (pos x ∷ pos x ∷ []) k (pos 0)) × (get_or (pos x ∷ pos x ∷ []) k (pos 0) ≤ℤ pos (2 ^ 26))
pair_within x small zero h = in_range x small
pair_within x small (suc zero) h = in_range x small
pair_within x small (suc (suc k)) h = absurd (omega arith)

pub keeps_limits : KeepLimits falling
keeps_limits = record {
  two_players = lit≤ tt;
  three_players = lit≤ tt;
  some_state = lit≤ tt;
  few_states = lit≤ tt;
  payoffs_listed = refl;
  next_listed = refl;
  some_strategy = λ s i hs hi. below_two (λ s. (i : ℕ) → i < length (counts falling s) → 1 ≤ slice_index (counts falling s) i) (two_at 1 (λ m. 1 ≤ m) (lit≤ tt)) (two_at 1 (λ m. 1 ≤ m) (lit≤ tt)) s hs i hi;
  few_strategies = λ s i hs hi. below_two (λ s. (i : ℕ) → i < length (counts falling s) → slice_index (counts falling s) i ≤ 16) (two_at 1 (λ m. m ≤ 16) (lit≤ tt)) (two_at 1 (λ m. m ≤ 16) (lit≤ tt)) s hs i hi;
  payoffs_small = λ s k hs hk. below_two (λ s. (k : ℕ) → k < length (get_or falling.payoffs s []) → (neg_ℤ (pos (2 ^ 26)) ≤ℤ get_or (get_or falling.payoffs s []) k (pos 0)) × (get_or (get_or falling.payoffs s []) k (pos 0) ≤ℤ pos (2 ^ 26)))
      (pair_within 2 (lit≤ tt)) (pair_within 0 (lit≤ tt)) s hs k hk;
  denominator_positive = omega (arith, ints);
  denominator_small = omega (arith, ints);
  discounts_listed = refl;
  discounts_positive = two_at 1 (λ p. 0 < p) (lit< tt);
  discounts_below = two_at 1 (λ p. p < 2) (lit< tt);
  q_small = lit≤ tt;
  lowest = λ d whole each. let e = each 0 (lit< tt) in divides_one d e.0 e.1;
}

-- the game that is built of the parts
pub built_is : (g : DynamicGame) (parts : GameParts) → IsGame g → g ≡ game_of parts g.base → shape_of parts ≡ falling → g ≡ falling
built_is g parts ok built shape =
    let discounts : g.discounts ≡ 1 ∷ 1 ∷ [] = ap (λ (h : DynamicGame). h.discounts) built ∙ ap (λ (h : DynamicGame). h.discounts) shape in
    let least : IsLeastCommonMultiple (1 ∷ 1 ∷ []) g.base = subst (λ (ps : List ℕ). IsLeastCommonMultiple ps g.base) discounts ok.base_least in
    let one = least.least 1 (two_at 1 (λ p. Divides p 1) (1, refl)) in
    let small = divides_one g.base one.0 one.1 in
    let positive = least.positive in
    let base : g.base ≡ 1 = omega arith in
    built ∙ (ap (λ (b : ℕ). game_of parts b) base ∙ shape)
