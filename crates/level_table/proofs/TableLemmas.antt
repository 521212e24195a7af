-- one row of a table is set
use Rattle.std.proofs.Common.{◌≡◌, ◌≢◌, ℕ, ◌+◌, ◌*◌, ◌<◌, length, refl, subst, sym, ap, arith, ◌∙◌}
use Rattle.std.specs.Prelude.{slice_set}
use Rattle.std.proofs.lemmas.List.{get_or-set_same, get_or-set_other, length-set}
use Rattle.std.proofs.lemmas.Nat.{same_from_place, mul-add-lt}
use Rattle.level_table.specs.declared.level.Level.{Level}
use Rattle.level_table.specs.Levels.{Table, level_at, levels_in}
use Rattle.level_table.specs.Tables.{IsPut, IsWhole}

place_below : (t : Table) (s k : ℕ) → IsWhole t → s < t.states → k < t.directions → s * t.directions + k < length t.levels
place_below t s k whole state dir =
    let h : s * t.directions + k < t.directions * t.states = mul-add-lt s t.directions k t.states state dir in
    omega (arith, whole.one_each)

pub put_is : (t v : Table) (s k row : ℕ) (l : Level) → IsWhole t → s < t.states → k < t.directions → row ≡ s * t.directions + k
    → v ≡ record t { levels = slice_set t.levels row l } → IsPut t v s k l
put_is t v s k row l whole state dir place is =
    subst (λ (w : Table). IsPut t w s k l) (sym (is ∙ ap (λ (r : ℕ). record t { levels = slice_set t.levels r l }) place)) (record {
      states = refl;
      directions = refl;
      here = let below : s * t.directions + k < length t.levels = place_below t s k whole state dir in rw get_or-set_same refl;
      others = λ s' k' dir' ne.
          let apart : s' * t.directions + k' ≢ s * t.directions + k = λ (h : s' * t.directions + k' ≡ s * t.directions + k). let q = same_from_place s' k' s k t.directions dir' dir h in ne q.0 q.1 in
          rw get_or-set_other refl;
      whole = record {
        some_state = whole.some_state;
        few_states = whole.few_states;
        some_direction = whole.some_direction;
        few_directions = whole.few_directions;
        one_each = length-set t.levels (s * t.directions + k) l ∙ whole.one_each;
      };
    })
