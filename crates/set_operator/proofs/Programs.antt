-- The rows of a profile's program, and the points that meet them.
use Rattle.std.proofs.Common.{◌≡◌, ◌≢◌, inl, inr, ℕ, zero, suc, ◌+◌, ◌*◌, ◌^◌, ◌<◌, ◌≤◌, List, [], ◌∷◌, ◌++◌, length, get_or, refl, ap, sym, ◌∙◌, subst, arith, length-append}
use Rattle.std.specs.Prelude.{ℤ, pos, negsuc, ◌*ℤ◌, cond, nat_eq, Bool, true, false}
use Rattle.std.specs.Int.RustNames.{unsigned_abs}
use Rattle.std.proofs.lemmas.Bool.{cases_eq, cases_lt, eqb-true}
use Rattle.std.proofs.lemmas.List.{get_or_default, get_or_append_left}
use Rattle.std.proofs.Math.Seq.{get_or-append_seam}
use Rattle.direction_set.specs.DirectionTable.{negative, unit_vector}
use Rattle.game_model.specs.SelfGeneration.{part}
use Rattle.level_table.specs.declared.level.Level.TheVariants.{At}
use Rattle.level_table.specs.Problem.{Problem, IsProblem, direction_count, direction, discount_at, plus_axis, minus_axis}
use Rattle.level_table.specs.Levels.{Levels, Table, IsSmall, levels_in}
use Rattle.level_table.specs.Tables.{IsSmallTable}
use Rattle.bound_laws.proofs.Places.{next_state}
use Rattle.bound_laws.proofs.Directions.{direction_is}
use Rattle.exact_algebra.proofs.Order.{abs_within}
use Rattle.game_model.specs.Game.{states}
use Rattle.lp_cert.specs.declared.rows.Row.{Row}
use Rattle.lp_cert.specs.Program.{Program, IsProgram, IsRow, axis, box_rows, entry, entry_limit, row_at}
use Rattle.set_operator.specs.declared.boxes.ProfileBox.{ProfileBox}
use Rattle.set_operator.specs.Boxes.{IsBoxOf, side_at}
use Rattle.set_operator.specs.Program.{IsObjective, IsProgramTo}

-- ---- directions
pub direction_width : (p : Problem) (k : ℕ) → IsProblem p → k < direction_count p → length (direction p k) ≡ 3
direction_width p k ok within = ap length (direction_is p k within) ∙ ok.directions.width k

pub direction_unused : (p : Problem) (k i : ℕ) → IsProblem p → k < direction_count p → p.game.players ≤ i → part (direction p k) i ≡ pos 0
direction_unused p k i ok within past = ap (λ v. part v i) (direction_is p k within) ∙ ok.directions.unused_is_zero k i past

pub direction_small : (p : Problem) (k i : ℕ) → IsProblem p → k < direction_count p → unsigned_abs (part (direction p k) i) ≤ 3
direction_small p k i ok within = subst (λ v. unsigned_abs (part v i) ≤ 3) (sym (direction_is p k within)) (ok.directions.part_small k i)

within_limit : (p : Problem) (k i : ℕ) → IsProblem p → k < direction_count p → (b : Bool) → nat_eq p.game.players 3 ≡ b → unsigned_abs (part (direction p k) i) ≤ cond {A = ℕ} b 1 3
within_limit p k i ok within true e =
    subst (λ v. unsigned_abs (part v i) ≤ 1) (sym (direction_is p k within)) (ok.directions.part_of_three_small (eqb-true p.game.players 3 e) k i)
within_limit p k i ok within false e = direction_small p k i ok within

pub direction_row : (p : Problem) (k : ℕ) (h : ℤ) → IsProblem p → k < direction_count p → unsigned_abs h ≤ 2 ^ 64 → IsRow p.game.players (record { c = direction p k; h = h })
direction_row p k h ok within small = record {
  three = direction_width p k ok within;
  entries = λ i d inside. subst (λ z. unsigned_abs z ≤ entry_limit p.game.players) (get_or_default (direction p k) i (pos 0) d inside) (within_limit p k i ok within (nat_eq p.game.players 3) refl);
  zeros = λ i past. direction_unused p k i ok within past;
  side = small;
}

-- ---- the axes
-- what holds of each axis, plus and minus, holds of the first 2n directions
pub by_axis : (P : ℕ → Type 0) (n : ℕ) → ((i : ℕ) → i < n → P (plus_axis i)) → ((i : ℕ) → i < n → P (minus_axis i)) → (k : ℕ) → k < 2 * n → P k
by_axis P zero f g k within = absurd (omega arith)
by_axis P (suc n) f g k within = elim (cases_eq k (plus_axis n)) [
  | inl same ↦ subst P (sym same) (f n (omega arith))
  | inr other ↦ elim (cases_eq k (minus_axis n)) [
    | inl same ↦ subst P (sym same) (g n (omega arith))
    | inr neither ↦ (let ne : k ≢ plus_axis n = other in let nf : k ≢ minus_axis n = neither in
        by_axis P n (λ i below. f i (omega arith)) (λ i below. g i (omega arith)) k (omega arith))
  ]
]

minus_unit : (i : ℕ) → i < 3 → axis i (negsuc 0) ≡ negative (unit_vector i)
minus_unit zero within = refl
minus_unit (suc zero) within = refl
minus_unit (suc (suc zero)) within = refl
minus_unit (suc (suc (suc i))) within = absurd (omega arith)

pub plus_vector : (p : Problem) (i : ℕ) → IsProblem p → i < p.game.players → axis i (pos 1) ≡ direction p (plus_axis i)
plus_vector p i ok player = sym (direction_is p (plus_axis i) (omega (arith, ok.directions.has_axes)) ∙ ok.directions.plus_axis i player)

pub minus_vector : (p : Problem) (i : ℕ) → IsProblem p → i < p.game.players → axis i (negsuc 0) ≡ direction p (minus_axis i)
minus_vector p i ok player =
    minus_unit i (omega (arith, ok.directions.at_most_three_players))
    ∙ sym (direction_is p (minus_axis i) (omega (arith, ok.directions.has_axes)) ∙ ok.directions.minus_axis i player)

-- ---- the rows of a box
length-box_rows : (us ls : List ℤ) (j : ℕ) → length us ≡ length ls → length (box_rows j us ls) ≡ 2 * length us
length-box_rows [] ls j e = refl
length-box_rows (u ∷ us) [] j e = absurd (omega arith)
length-box_rows (u ∷ us) (l ∷ ls) j e = omega (arith, length-box_rows us ls (j + 1) (omega arith))

box_upper : (us ls : List ℤ) (j i : ℕ) (d : Row) → i < length us → length us ≡ length ls → get_or (box_rows j us ls) (2 * i) d ≡ record { c = axis (j + i) (pos 1); h = entry us i }
box_upper [] ls j i d within e = absurd (omega arith)
box_upper (u ∷ us) [] j i d within e = absurd (omega arith)
box_upper (u ∷ us) (l ∷ ls) j zero d within e = ap (λ m. record { c = axis m (pos 1); h = u }) (omega arith)
box_upper (u ∷ us) (l ∷ ls) j (suc i) d within e =
    let twice : 2 * suc i ≡ suc (suc (2 * i)) = omega arith in
    let later : (j + 1) + i ≡ j + suc i = omega arith in
    ap (λ m. get_or (box_rows j (u ∷ us) (l ∷ ls)) m d) twice ∙ box_upper us ls (j + 1) i d (omega arith) (omega arith)
    ∙ ap (λ m. record { c = axis m (pos 1); h = entry us i }) later

box_lower : (us ls : List ℤ) (j i : ℕ) (d : Row) → i < length us → length us ≡ length ls → get_or (box_rows j us ls) (2 * i + 1) d ≡ record { c = axis (j + i) (negsuc 0); h = entry ls i }
box_lower [] ls j i d within e = absurd (omega arith)
box_lower (u ∷ us) [] j i d within e = absurd (omega arith)
box_lower (u ∷ us) (l ∷ ls) j zero d within e = ap (λ m. record { c = axis m (negsuc 0); h = l }) (omega arith)
box_lower (u ∷ us) (l ∷ ls) j (suc i) d within e =
    let twice : 2 * suc i + 1 ≡ suc (suc (2 * i + 1)) = omega arith in
    let later : (j + 1) + i ≡ j + suc i = omega arith in
    ap (λ m. get_or (box_rows j (u ∷ us) (l ∷ ls)) m d) twice ∙ box_lower us ls (j + 1) i d (omega arith) (omega arith)
    ∙ ap (λ m. record { c = axis m (negsuc 0); h = entry ls i }) later

abbrev no_row : Row
no_row = record { c = []; h = pos 0 }

first_upper : (us ls : List ℤ) (i : ℕ) → i < length us → length us ≡ length ls → get_or (box_rows 0 us ls) (2 * i) no_row ≡ record { c = axis i (pos 1); h = entry us i }
first_upper us ls i within e = let z : 0 + i ≡ i = omega arith in box_upper us ls 0 i no_row within e ∙ ap (λ m. record { c = axis m (pos 1); h = entry us i }) z

first_lower : (us ls : List ℤ) (i : ℕ) → i < length us → length us ≡ length ls → get_or (box_rows 0 us ls) (2 * i + 1) no_row ≡ record { c = axis i (negsuc 0); h = entry ls i }
first_lower us ls i within e = let z : 0 + i ≡ i = omega arith in box_lower us ls 0 i no_row within e ∙ ap (λ m. record { c = axis m (negsuc 0); h = entry ls i }) z

-- the sides of a box, first
pub box_program : (p : Problem) (t : Levels) (b : ProfileBox) (us ls : List ℤ) (rows : Program) → IsProblem p → IsProgram rows
    → rows.dimension ≡ length us → rows.rows ≡ box_rows 0 us ls → length us ≡ p.game.players → length ls ≡ p.game.players
    → ((i : ℕ) → i < p.game.players → entry us i ≡ (side_at b i).upper) → ((i : ℕ) → i < p.game.players → entry ls i ≡ (side_at b i).lower)
    → IsProgramTo p t b (2 * p.game.players) rows
box_program p t b us ls rows ok prog dim is ul ll upper lower =
    let at_upper = λ (i : ℕ) (w : i < p.game.players). ap (λ (rs : List Row). get_or rs (plus_axis i) no_row) is
    ∙ first_upper us ls i (omega (arith, ul, w)) (ul ∙ sym ll) in
    let at_lower = λ (i : ℕ) (w : i < p.game.players). ap (λ (rs : List Row). get_or rs (minus_axis i) no_row) is
    ∙ first_lower us ls i (omega (arith, ul, w)) (ul ∙ sym ll) in
    record {
      program = prog;
      dimension = dim ∙ ul;
      one_each = ap length is ∙ length-box_rows us ls 0 (ul ∙ sym ll) ∙ ap (λ n. 2 * n) ul;
      coefficients = by_axis (λ k. (row_at rows k).c ≡ direction p k) p.game.players
          (λ i w. ap (λ (r : Row). r.c) (at_upper i w) ∙ plus_vector p i ok w) (λ i w. ap (λ (r : Row). r.c) (at_lower i w) ∙ minus_vector p i ok w);
      upper = λ i w. ap (λ (r : Row). r.h) (at_upper i w) ∙ upper i w;
      lower = λ i w. ap (λ (r : Row). r.h) (at_lower i w) ∙ lower i w;
      others = λ k past below. absurd (omega arith);
    }

-- one row more
pub program_more : (p : Problem) (t : Levels) (b : ProfileBox) (m : ℕ) (rows more : Program) (row : Row) → 2 * p.game.players ≤ m
    → IsProgramTo p t b m rows → IsProgram more → more.dimension ≡ rows.dimension → more.rows ≡ rows.rows ++ row ∷ []
    → row.c ≡ direction p m → t b.next m ≡ At row.h → IsProgramTo p t b (m + 1) more
program_more p t b m rows more row past before prog dim is c h =
    let kept : (k : ℕ) → k < m → row_at more k ≡ row_at rows k = λ k w. ap (λ (rs : List Row). get_or rs k no_row) is
    ∙ get_or_append_left rows.rows (row ∷ []) no_row k (omega (arith, before.one_each, w)) in
    let last : row_at more m ≡ row = ap (λ (rs : List Row). get_or rs m no_row) is
    ∙ subst (λ n. get_or (rows.rows ++ row ∷ []) n no_row ≡ row) before.one_each (get_or-append_seam rows.rows row [] no_row) in
    record {
      program = prog;
      dimension = dim ∙ before.dimension;
      one_each = ap length is ∙ length-append rows.rows (row ∷ []) ∙ ap (λ n. n + 1) before.one_each;
      coefficients = λ k w. elim (cases_eq k m) [
        | inl same ↦ subst (λ j. (row_at more j).c ≡ direction p j) (sym same) (ap (λ (r : Row). r.c) last ∙ c)
        | inr other ↦ (let ne : k ≢ m = other in ap (λ (r : Row). r.c) (kept k (omega arith)) ∙ before.coefficients k (omega arith))
      ];
      upper = λ i w. ap (λ (r : Row). r.h) (kept (plus_axis i) (omega arith)) ∙ before.upper i w;
      lower = λ i w. ap (λ (r : Row). r.h) (kept (minus_axis i) (omega arith)) ∙ before.lower i w;
      others = λ k from w. elim (cases_eq k m) [
        | inl same ↦ subst (λ j. t b.next j ≡ At (row_at more j).h) (sym same) (h ∙ ap (λ (r : Row). At r.h) (sym last))
        | inr other ↦ (let ne : k ≢ m = other in before.others k from (omega arith) ∙ ap (λ (r : Row). At r.h) (sym (kept k (omega arith))))
      ];
    }

-- a level of the next state is small
pub level_small : (p : Problem) (v : Table) (b : ProfileBox) (k : ℕ) (x : ℤ) → IsProblem p → IsSmallTable p v → IsBoxOf p (levels_in v) b → k < direction_count p
    → levels_in v b.next k ≡ At x → unsigned_abs x ≤ 2 ^ 50
level_small p v b k x ok table box within at =
    let state : b.next < states p.game = subst (λ s. s < states p.game) (sym box.next) (next_state p.game b.state b.profile ok.game box.state box.profile) in
    let small : IsSmall (At x) = subst IsSmall at (table.small b.next k (record { state = state; direction = within })) in
    abs_within x (2 ^ 50) small.0 small.1

-- ---- the objective
pub record IsWeight (p : Problem) (k i : ℕ) (x : ℤ) : Type 0 where
  pub value : i < p.game.players → x ≡ pos (discount_at p i) *ℤ part (direction p k) i
  pub unused : p.game.players ≤ i → x ≡ pos 0
  pub small : unsigned_abs x ≤ 4096

each_weight : (p : Problem) (k : ℕ) (a b d : ℤ) → IsWeight p k 0 a → IsWeight p k 1 b → IsWeight p k 2 d → (i : ℕ) → i < 3 → IsWeight p k i (part (a ∷ b ∷ d ∷ []) i)
each_weight p k a b d x y z zero within = x
each_weight p k a b d x y z (suc zero) within = y
each_weight p k a b d x y z (suc (suc zero)) within = z
each_weight p k a b d x y z (suc (suc (suc i))) within = absurd (omega arith)

none_past : (a b d : ℤ) (i : ℕ) → 3 ≤ i → part (a ∷ b ∷ d ∷ []) i ≡ pos 0
none_past a b d zero past = absurd (omega arith)
none_past a b d (suc zero) past = absurd (omega arith)
none_past a b d (suc (suc zero)) past = absurd (omega arith)
none_past a b d (suc (suc (suc i))) past = refl

pub objective_from : (p : Problem) (k : ℕ) (a b d : ℤ) → IsProblem p → IsWeight p k 0 a → IsWeight p k 1 b → IsWeight p k 2 d → IsObjective p k (a ∷ b ∷ d ∷ [])
objective_from p k a b d ok x y z = record {
  three = refl;
  part_is = λ i w. (each_weight p k a b d x y z i (omega (arith, ok.directions.at_most_three_players))).value w;
  unused = λ i past. elim (cases_lt i 3) [
    | inl w ↦ (each_weight p k a b d x y z i w).unused past
    | inr three ↦ none_past a b d i three
  ];
  small = λ i e inside. subst (λ v. unsigned_abs v ≤ 4096) (get_or_default (a ∷ b ∷ d ∷ []) i (pos 0) e inside) (each_weight p k a b d x y z i inside).small;
}
