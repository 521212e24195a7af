-- A run starts valid, and the opening table is a start.
use Rattle.std.proofs.Common.{◌≡◌, ℕ, zero, suc, ◌+◌, ◌*◌, ◌/◌, ◌%◌, ◌^◌, ◌<◌, ◌≤◌, List, [], length, refl, sym, ap, ◌∙◌, subst, inr, true, false, true≢false, arith}
use Rattle.std.specs.Prelude.{ℤ, unsigned_abs}
use Rattle.std.proofs.lemmas.Int.{ints}
use mathlib.Core.Option.{some, some-injective, some-ne-none}
use lib.ListN.{get_elem?}
use Rattle.game_model.specs.Game.{states}
use Rattle.level_table.specs.declared.level.Level.{Level}
use Rattle.level_table.specs.declared.level.Level.TheVariants.{Empty, At}
use Rattle.level_table.specs.declared.reason.Note.{Note}
use Rattle.level_table.specs.Problem.{IsProblem, Problem, opening_level}
use Rattle.level_table.specs.Levels.{Table, AtMost, Bounds, IsNumber, IsRow, IsSmall, level_at, levels_in}
use Rattle.level_table.specs.Tables.{IsOpening, IsWhole}
use Rattle.level_table.specs.Start.{IsAboveSupported, IsBetween}
use Rattle.bound_laws.proofs.Bounding.{start_is_kept}
use Rattle.bound_laws.proofs.Levels.{level_at_most_self}
use Rattle.bound_laws.proofs.Start.{opening_is_start}
use Rattle.schedule_core.specs.Frame.{Frame, IsFrame, IsOpened, IsSeen, IsSound, NamedRow, rows_of}
use Rattle.schedule_core.specs.Core.{FitsReader, IsValid, Reader}
use Rattle.schedule_core.specs.Runs.{others, started}
use Rattle.schedule_core.proofs.Levels.{row_known, row_of, sound_between}

start_sound : (f : Frame) (notes : List Note) → IsFrame f → IsOpened f notes → (r : ℕ) → r < rows_of f → IsSound f r (level_at f.start r)
start_sound f notes frame ok r below =
    let row = row_known f r frame below in
    let s = r / f.start.directions in
    let k = r % f.start.directions in
    let here : levels_in f.start s k ≡ level_at f.start r = ap (level_at f.start) (row_of f r) in
    let between : IsBetween f.problem k (level_at f.start r) = subst (IsBetween f.problem k) here (ok.start.between s k row) in
    record {
      small = sound_between f k (level_at f.start r) frame row.direction between;
      within = (between, level_at_most_self (level_at f.start r));
      above = subst (λ (l : Level). IsAboveSupported f.problem (levels_in f.start) s k l) here (start_is_kept f.problem (levels_in f.start) s k row);
    }

pub start_seen : (f : Frame) (notes : List Note) → IsFrame f → IsOpened f notes → IsSeen f f.start
start_seen f notes frame ok = record { states_agree = refl; directions_agree = refl; one_each = frame.whole.one_each; sound = start_sound f notes frame ok }

pub start_named : (f : Frame) (notes : List Note) → IsFrame f → IsOpened f notes → (r : ℕ) → r < rows_of f → level_at f.start r ≡ Empty → NamedRow f notes r
start_named f notes frame ok r below e = ok.start.named (r / f.start.directions) (r % f.start.directions) (row_known f r frame below) (ap (level_at f.start) (row_of f r) ∙ e)

pub start_small : (f : Frame) (notes : List Note) → IsFrame f → IsOpened f notes → (r : ℕ) → r < length f.start.levels → IsSmall (level_at f.start r)
start_small f notes frame ok r below = (start_sound f notes frame ok r (omega (arith, frame.whole.one_each))).small

-- what is known of a start that a reader has seen
pub start_fits : (f : Frame) (notes : List Note) (v : Reader) → IsFrame f → IsOpened f notes → v.seen ≡ f.start → FitsReader f f.start.levels v
start_fits f notes v frame ok is = record {
  seen = subst (IsSeen f) (sym is) (start_seen f notes frame ok);
  above = λ r below. subst (λ (t : Table). AtMost (level_at f.start r) (level_at t r)) (sym is) (level_at_most_self (level_at f.start r));
  owned = λ _ r below e. ap (λ (t : Table). level_at t r) is ∙ e;
}

other_is : (t : Table) (n j : ℕ) (u : Reader) → get_elem? (others t n) j ≡ some u → (u.seen ≡ t) × (u.owner ≡ false)
other_is t zero j u e = absurd (some-ne-none u (sym e))
other_is t (suc n) zero u e = (sym (ap (λ (v : Reader). v.seen) (some-injective _ _ e)), sym (ap (λ (v : Reader). v.owner) (some-injective _ _ e)))
other_is t (suc n) (suc j) u e = other_is t n j u e

pub start_valid : (f : Frame) (n : ℕ) (notes : List Note) → IsFrame f → IsOpened f notes → IsValid (started f n notes)
start_valid f n notes frame ok = record {
  words = record {
    one_each = frame.whole.one_each;
    sound = start_sound f notes frame ok;
    fits = λ j u e works. start_fits f notes u frame ok (seen_is j u e);
    one_owner = owner_is;
    first = record { seen = f.start; owner = true; ended = false };
    first_is = refl;
    first_owns = refl;
    first_stays = refl;
  };
  kept = ok.start.kept_above;
  named = λ j u e owner r below is. start_named f notes frame ok r below (sym (ap (λ (t : Table). level_at t r) (seen_is j u e)) ∙ is);
}
  where
    seen_is : (j : ℕ) (u : Reader) → get_elem? (started f n notes).readers j ≡ some u → u.seen ≡ f.start
    seen_is zero u e = sym (ap (λ (v : Reader). v.seen) (some-injective _ _ e))
    seen_is (suc j) u e = (other_is f.start n j u e).0

    owner_is : (j : ℕ) (u : Reader) → get_elem? (started f n notes).readers j ≡ some u → u.owner ≡ true → j ≡ 0
    owner_is zero u e owner = refl
    owner_is (suc j) u e owner = absurd (true≢false (sym owner ∙ (other_is f.start n j u e).1))

number_of_opening : (p : Problem) (t : Table) → IsOpening p t → (s k : ℕ) → IsRow p s k → levels_in t s k ≡ Empty → ⊥
number_of_opening p t ok s k row e = refuted (sym (ok.levels s k row) ∙ e)
  where
    refuted : At (opening_level p k) ≡ Empty → ⊥
    refuted h = absurd (cc)

abs_small : (x : ℤ) → IsSmall (At x) → unsigned_abs x ≤ 2 ^ 50
abs_small x h = let a = h.0 in let b = h.1 in omega (arith, ints)

pub opening_starts : (f : Frame) → IsProblem f.problem → IsWhole f.start → IsOpening f.problem f.start → IsOpened f []
opening_starts f problem whole ok =
    let p = f.problem in
    let start = opening_is_start p problem in
    let some : 0 < states p.game = omega (arith, whole.some_state, ok.sizes.states_agree) in
    record {
      sizes = ok.sizes;
      start = record {
        between = λ s k row. subst (IsBetween p k) (sym (ok.levels s k row)) (start.between s k row);
        bounds = λ s k row. subst (Bounds p s k) (sym (ok.levels s k row)) (start.bounds s k row);
        even = λ s state. inr (λ k dir. subst IsNumber (sym (ok.levels s k (record { state = state; direction = dir }))) tt);
        named = λ s k row e. absurd (number_of_opening p f.start ok s k row e);
        emptied = λ s k row h. absurd (omega (arith, h.1));
        right = λ l h. absurd (omega (arith, h));
        kept_above = λ l h. absurd (omega (arith, h));
      };
      small = λ k dir.
          let here : levels_in f.start 0 k ≡ At (opening_level p k) = ok.levels 0 k (record { state = some; direction = omega (arith, dir, ok.sizes.directions_agree) }) in
          abs_small (opening_level p k) (subst IsSmall here (ok.small (0 * f.start.directions + k)));
    }

pub frame_opened : (f : Frame) (notes : List Note) → IsProblem f.problem → IsWhole f.start → IsOpened f notes → IsFrame f
frame_opened f notes problem whole ok = record { problem = problem; sizes = ok.sizes; whole = whole; bounds = ok.start.bounds; small = ok.small }
