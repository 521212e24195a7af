-- What is ready stays so where a number of no axis changes.
use Rattle.std.proofs.Common.{◌≡◌, inl, inr, ℕ, ◌+◌, ◌*◌, ◌%◌, ◌<◌, ◌≤◌, length, sym, ap, subst, ◌∙◌, arith, Option, Some, None}
use Rattle.std.specs.Prelude.{IfSome}
use Rattle.std.proofs.lemmas.Bool.{cases_eq}
use Rattle.std.proofs.lemmas.List.{get_or-set_same, get_or-set_other, length-set}
use Rattle.std.proofs.lemmas.Nat.{mod-mul-add}
use Rattle.level_table.specs.declared.level.Level.{Level}
use Rattle.level_table.specs.Problem.{Problem, direction_count}
use Rattle.level_table.specs.Levels.{Levels, Table, IsNumber, IsSmall, level_at, levels_in}
use Rattle.level_table.specs.Tables.{HasSmallOpening, IsSmallTable}
use Rattle.schedule_core.specs.Frame.{Frame, IsFrame, with_level}
use Rattle.set_operator.specs.Prepared.{IsPrepared, KeepsAxes, PreparedState}

pub small_opening : (f : Frame) → IsFrame f → HasSmallOpening f.problem
small_opening f ok k dir = ok.small k (omega (arith, dir, ok.sizes.directions_agree))

pub keeps_axes : (p : Problem) (t : Table) (row : ℕ) (old level : Level) → IsSmallTable p t → row < length t.levels → old ≡ level_at t row
    → (2 * p.game.players ≤ row % direction_count p) × IsNumber old × IsNumber level → KeepsAxes p (levels_in t) (levels_in (with_level t row level))
keeps_axes p t row old level small fits is (past, a, b) s k at = elim (cases_eq (s * t.directions + k) row) [
  | inl e ↦
      let dir : k < t.directions = omega (arith, at.direction, small.sizes.directions_agree) in
      let here : row % direction_count p ≡ k = ap (λ (r : ℕ). r % direction_count p) (sym e) ∙ ap (λ (d : ℕ). (s * t.directions + k) % d) (sym small.sizes.directions_agree) ∙ mod-mul-add s t.directions k dir in
      let new : levels_in (with_level t row level) s k ≡ level = ap (λ (r : ℕ). level_at (with_level t row level) r) e ∙ get_or-set_same t.levels row level _ fits in
      let before : levels_in t s k ≡ old = ap (λ (r : ℕ). level_at t r) e ∙ sym is in
      (λ lt. absurd (omega (arith, lt, past, here)), (λ n. subst IsNumber (sym new) b, λ n. subst IsNumber (sym before) a))
  | inr ne ↦
      let same : levels_in (with_level t row level) s k ≡ levels_in t s k = get_or-set_other t.levels row (s * t.directions + k) level _ ne in
      (λ lt. same, (λ n. subst IsNumber (sym same) n, λ n. subst IsNumber same n))
]

pub small_after : (p : Problem) (t : Table) (row : ℕ) (level : Level) → IsSmallTable p t → row < length t.levels → IsSmall level → IsSmallTable p (with_level t row level)
small_after p t row level small fits here = record {
  whole = record {
    some_state = small.whole.some_state;
    few_states = small.whole.few_states;
    some_direction = small.whole.some_direction;
    few_directions = small.whole.few_directions;
    one_each = length-set t.levels row level ∙ small.whole.one_each;
  };
  sizes = record { states_agree = small.sizes.states_agree; directions_agree = small.sizes.directions_agree };
  small = λ s k at. elim (cases_eq (s * t.directions + k) row) [
    | inl e ↦ subst IsSmall (sym (ap (λ (r : ℕ). level_at (with_level t row level) r) e ∙ get_or-set_same t.levels row level _ fits)) here
    | inr ne ↦ subst IsSmall (sym (get_or-set_other t.levels row (s * t.directions + k) level _ ne)) (small.small s k at)
  ];
}

-- what holds of the state that is ready
pub still_ready : (p : Problem) (t u : Levels) (q : PreparedState) (r : Option ℕ) → (IsPrepared p t q → IsPrepared p u q)
    → IfSome r (λ s. (q.state ≡ s) × IsPrepared p t q) → IfSome r (λ s. (q.state ≡ s) × IsPrepared p u q)
still_ready p t u q (Some s) keeps (state, ready) = (state, keeps ready)
still_ready p t u q None keeps h = tt
