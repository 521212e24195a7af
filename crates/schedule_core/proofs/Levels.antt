-- What holds of the levels of a row: they bound, and a row level is sound.
use Rattle.std.proofs.Common.{◌≡◌, ℕ, ◌+◌, ◌*◌, ◌/◌, ◌%◌, ◌^◌, ◌<◌, ◌≤◌, sym, subst, arith}
use Rattle.std.specs.Prelude.{ℤ, neg_ℤ, ◌≤ℤ◌, unsigned_abs}
use Rattle.std.proofs.lemmas.Int.{ints, clamps}
use Rattle.std.proofs.lemmas.Nat.{div_below, div-add-mod', div-mul-add, mod-mul-add, mul-add-lt}
use Rattle.std.proofs.Math.Nat.{mod-lt, mul-le-mul}
use Rattle.direction_set.specs.DirectionTable.{opposite_of}
use Rattle.level_table.specs.declared.level.Level.{Level}
use Rattle.level_table.specs.declared.level.Level.TheVariants.{Empty, At}
use Rattle.level_table.specs.Problem.{Problem, direction_count, opening_level}
use Rattle.level_table.specs.Levels.{Table, AtMost, IsBelow, IsRow, IsSmall, level_at, levels_in, lesser, opening_table}
use Rattle.level_table.specs.Start.{IsAboveSupported, IsBetween}
use Rattle.bound_laws.specs.Laws.{KeepsSupported}
use Rattle.bound_laws.proofs.Bounding.{above_supported_bounds, row_level_is_kept, lesser_is_kept}
use Rattle.bound_laws.proofs.Directions.{opposite_known}
use Rattle.bound_laws.proofs.Levels.{level_at_most_trans, lesser_at_most}
use Rattle.bound_laws.proofs.Opening.{row_level_is_between}
use Rattle.bound_laws.proofs.Start.{lesser_is_between}
use Rattle.schedule_core.specs.Frame.{Frame, IsFrame, IsAbove, IsSound, IsSeen, BoundsRow, IsRowLevelOf, rows_of}

some_direction : (f : Frame) → IsFrame f → 0 < f.start.directions
some_direction f ok = omega (arith, ok.whole.some_direction)

pub row_known : (f : Frame) (r : ℕ) → IsFrame f → r < rows_of f → IsRow f.problem (r / f.start.directions) (r % f.start.directions)
row_known f r ok below =
    let some = some_direction f ok in
    record {
      state = omega (arith, div_below r f.start.directions f.start.states some below, ok.sizes.states_agree);
      direction = omega (arith, mod-lt r some, ok.sizes.directions_agree);
    }

pub bounds_row : (f : Frame) (r : ℕ) (l : Level) → IsFrame f → r < rows_of f → IsAbove f r l → BoundsRow f r l
bounds_row f r l ok below above = above_supported_bounds f.problem (levels_in f.start) (r / f.start.directions) (r % f.start.directions) l ok.problem ok.bounds (row_known f r ok below) above

-- what holds of the level of a state and a direction, by the number of its row
pub by_row : (f : Frame) (t : Table) (P : ℕ → ℕ → Level → Type 0) → IsFrame f → t.directions ≡ f.start.directions
    → ((r : ℕ) → r < rows_of f → P (r / f.start.directions) (r % f.start.directions) (level_at t r)) → (s k : ℕ) → IsRow f.problem s k → P s k (levels_in t s k)
by_row f t P ok same all s k row =
    let d = f.start.directions in
    let dir : k < d = omega (arith, row.direction, ok.sizes.directions_agree) in
    let state : s < f.start.states = omega (arith, row.state, ok.sizes.states_agree) in
    let here : s * d + k < d * f.start.states = mul-add-lt s d k f.start.states state dir in
    let below : s * d + k < rows_of f = omega arith in
    let h = all (s * d + k) below in
    subst (λ (w : ℕ). P s k (level_at t (s * w + k))) (sym same) (subst (λ (x : ℕ). P x k (level_at t (s * d + k))) (div-mul-add s d k dir) (subst (λ (x : ℕ). P ((s * d + k) / d) x (level_at t (s * d + k))) (mod-mul-add s d k dir) h))

pub seen_is_kept : (f : Frame) (t : Table) → IsFrame f → IsSeen f t → KeepsSupported f.problem (levels_in f.start) (levels_in t)
seen_is_kept f t ok seen = by_row f t (λ s k l. IsAboveSupported f.problem (levels_in f.start) s k l) ok seen.directions_agree (λ r below. (seen.sound r below).above)

between_below : (p : Problem) (k : ℕ) (l : Level) → IsBetween p k l → AtMost l (At (opening_level p k))
between_below p k Empty h = tt
between_below p k (At x) h = h.1

pub seen_below_opening : (f : Frame) (t : Table) → IsFrame f → IsSeen f t → IsBelow f.problem (levels_in t) (opening_table f.problem)
seen_below_opening f t ok seen = by_row f t (λ s k l. AtMost l (At (opening_level f.problem k))) ok seen.directions_agree
    (λ r below. between_below f.problem (r % f.start.directions) (level_at t r) (seen.sound r below).within.0)

within_small : (a b x : ℤ) → unsigned_abs a ≤ 2 ^ 50 → unsigned_abs b ≤ 2 ^ 50 → neg_ℤ a ≤ℤ x → x ≤ℤ b → IsSmall (At x)
within_small a b x h k low high = (omega (arith, ints), omega (arith, ints))

between_small : (f : Frame) (k : ℕ) (x : ℤ) → IsFrame f → k < direction_count f.problem → IsBetween f.problem k (At x) → IsSmall (At x)
between_small f k x ok dir h =
    let opposite = opposite_known f.problem k ok.problem dir in
    within_small (opening_level f.problem (opposite_of k)) (opening_level f.problem k) x
    (ok.small (opposite_of k) (omega (arith, opposite, ok.sizes.directions_agree))) (ok.small k (omega (arith, dir, ok.sizes.directions_agree))) h.0 h.1

-- a level to which a row may be lowered
pub record IsLowering (f : Frame) (r : ℕ) (l : Level) : Type 0 where
  pub small : IsSmall l
  pub between : IsBetween f.problem (r % f.start.directions) l
  pub above : IsAbove f r l

pub row_level_lowers : (f : Frame) (t : Table) (r : ℕ) (x : ℤ) → IsFrame f → IsSeen f t → r < rows_of f → IsRowLevelOf f t r (At x) → IsLowering f r (At x)
row_level_lowers f t r x ok seen below level =
    let row = row_known f r ok below in
    let s = r / f.start.directions in
    let k = r % f.start.directions in
    let between = row_level_is_between f.problem (levels_in t) s k (At x) ok.problem (seen_below_opening f t ok seen) row level in
    record {
      small = between_small f k x ok row.direction between;
      between = between;
      above = row_level_is_kept f.problem (levels_in f.start) (levels_in t) s k (At x) ok.problem (seen_is_kept f t ok seen) row level;
    }

lesser_small : (l m : Level) → IsSmall l → IsSmall m → IsSmall (lesser l m)
lesser_small Empty m h k = tt
lesser_small (At x) Empty h k = tt
lesser_small (At x) (At y) h k = (omega (arith, ints, clamps), omega (arith, ints, clamps))

pub lowered_sound : (f : Frame) (r : ℕ) (l m : Level) → IsSound f r l → IsLowering f r m → IsSound f r (lesser l m)
lowered_sound f r l m h n = record {
  small = lesser_small l m h.small n.small;
  within = (
    lesser_is_between f.problem (r % f.start.directions) l m h.within.0 n.between,
    level_at_most_trans (lesser l m) l (level_at f.start r) (lesser_at_most l m) h.within.1,
  );
  above = lesser_is_kept f.problem (levels_in f.start) (r / f.start.directions) (r % f.start.directions) l m h.above n.above;
}

pub sound_lowers : (f : Frame) (r : ℕ) (l : Level) → IsSound f r l → IsLowering f r l
sound_lowers f r l h = record { small = h.small; between = h.within.0; above = h.above }

pub empty_sound : (f : Frame) (r : ℕ) → IsAbove f r Empty → IsSound f r Empty
empty_sound f r above = record { small = tt; within = (tt, tt); above = above }

pub sound_between : (f : Frame) (k : ℕ) (l : Level) → IsFrame f → k < direction_count f.problem → IsBetween f.problem k l → IsSmall l
sound_between f k Empty ok dir h = tt
sound_between f k (At x) ok dir h = between_small f k x ok dir h

-- the number of the row of a state and a direction
pub row_of : (f : Frame) (r : ℕ) → r / f.start.directions * f.start.directions + r % f.start.directions ≡ r
row_of f r = div-add-mod' r f.start.directions

pub some_row : (f : Frame) → IsFrame f → 0 < rows_of f
some_row f ok = let some : 1 * 1 ≤ f.start.states * f.start.directions = mul-le-mul ok.whole.some_state ok.whole.some_direction in omega arith
