-- Tables that come down.
use Rattle.std.proofs.Common.{◌≡◌, inl, inr, ℕ, ◌*◌, ◌+◌, ◌<◌, List, [], ◌∷◌, length, get_or, set, refl, sym, ap, subst, ◌∙◌, arith}
use Rattle.std.proofs.lemmas.Bool.{cases_eq}
use Rattle.std.proofs.lemmas.List.{same_lists, get_or_default, get_or-set_same, get_or-set_other, length-set}
use Rattle.level_table.specs.declared.level.Level.{Level}
use Rattle.level_table.specs.Problem.{Problem}
use Rattle.level_table.specs.Levels.{Levels, Table, AtMost, IsBelow, level_at, levels_in}
use Rattle.level_table.specs.Tables.{IsSmallTable}
use Rattle.bound_laws.proofs.Levels.{level_at_most_self, level_at_most_trans}
use Rattle.level_board.specs.Board.{BoardId}
use Rattle.schedule_core.specs.Frame.{Frame, IsFallen, IsFrame, IsSeen, rows_of, with_level}
use Rattle.worker_pass.specs.Sweeps.{HoldsButFirst}

pub fallen_self : (t : Table) → IsFallen t t
fallen_self t = record { states_agree = refl; directions_agree = refl; one_each = refl; fell = λ r. level_at_most_self (level_at t r) }

pub fallen_same : (t u : Table) → u ≡ t → IsFallen t u
fallen_same t u e = subst (IsFallen t) (sym e) (fallen_self t)

pub fallen_to : (t u v : Table) → v ≡ u → IsFallen t u → IsFallen t v
fallen_to t u v e h = subst (IsFallen t) (sym e) h

pub below_rows : (p : Problem) (t u : Table) → IsFallen t u → IsBelow p (levels_in u) (levels_in t)
below_rows p t u h s k row = subst (λ (d : ℕ). AtMost (level_at u (s * d + k)) (level_at t (s * t.directions + k))) (sym h.directions_agree) (h.fell (s * t.directions + k))

pub fallen_below : (p : Problem) (t u : Table) (above : Levels) → IsFallen t u → IsBelow p (levels_in t) above → IsBelow p (levels_in u) above
fallen_below p t u above h below s k row = level_at_most_trans _ _ _ (below_rows p t u h s k row) (below s k row)

-- what a pass has seen, for the board to which it belongs
pub seen_on : (b c : BoardId) (v : Table) → b ≡ c → IsSeen b.frame v → IsSeen c.frame v
seen_on b c v e h = subst (λ (x : BoardId). IsSeen x.frame v) e h

-- ---- sizes
pub scratch_rows : (f : Frame) (t : Table) → IsFrame f → IsSmallTable f.problem t → length t.levels ≡ rows_of f
scratch_rows f t ok small =
    let states_same : t.states ≡ f.start.states = small.sizes.states_agree ∙ sym ok.sizes.states_agree in
    let directions_same : t.directions ≡ f.start.directions = small.sizes.directions_agree ∙ sym ok.sizes.directions_agree in
    small.whole.one_each ∙ (ap (λ (n : ℕ). n * t.directions) states_same ∙ ap (λ (n : ℕ). f.start.states * n) directions_same)

pub scratch_directions : (f : Frame) (t : Table) → IsFrame f → IsSmallTable f.problem t → t.directions ≡ f.start.directions
scratch_directions f t ok small = small.sizes.directions_agree ∙ sym ok.sizes.directions_agree

pub same_table : (f : Frame) (t v : Table) → IsFrame f → IsSmallTable f.problem t → IsSeen f v → ((r : ℕ) → r < rows_of f → level_at t r ≡ level_at v r) → t ≡ v
same_table f t v ok small seen same =
    let states_same : t.states ≡ v.states = small.sizes.states_agree ∙ sym ok.sizes.states_agree ∙ sym seen.states_agree in
    let directions_same : t.directions ≡ v.directions = small.sizes.directions_agree ∙ sym ok.sizes.directions_agree ∙ sym seen.directions_agree in
    let rows : length t.levels ≡ rows_of f = scratch_rows f t ok small in
    let levels_same : t.levels ≡ v.levels = same_lists t.levels v.levels (rows ∙ sym seen.one_each)
    (λ r d below. get_or_default t.levels r d _ below ∙ same r (omega (arith, below, rows)) ∙ get_or_default v.levels r _ d (omega (arith, below, rows, seen.one_each))) in
    ap (λ (n : ℕ). record { states = n; directions = t.directions; levels = t.levels }) states_same
    ∙ (ap (λ (n : ℕ). record { states = v.states; directions = n; levels = t.levels }) directions_same
    ∙ ap (λ (ls : List Level). record { states = v.states; directions = v.directions; levels = ls }) levels_same)

-- ---- all but row 0
pub split_holds : (v v' : Table) → v' ≡ with_level v 0 (level_at v' 0) → IsFallen v v' → HoldsButFirst v v'
split_holds v v' e h = record { first = h.fell 0; others = λ r ne. ap (λ (t : Table). level_at t r) e ∙ get_or-set_other v.levels 0 r (level_at v' 0) _ ne }

-- ---- lists
pub some_item : {X : Type 0} → (xs : List X) (i : ℕ) → i < length xs → X
some_item [] i h = absurd (omega (arith, h))
some_item (x ∷ xs) i h = x

pub each_set : {X : Type 0} → (P : X → Type 0) → (xs : List X) (i : ℕ) (y : X) → ((k : ℕ) (d : X) → k < length xs → P (get_or xs k d)) → P y → (k : ℕ) (d : X) → k < length (set xs i y) → P (get_or (set xs i y) k d)
each_set P xs i y all here k d below =
    let within : k < length xs = omega (arith, below, length-set xs i y) in
    elim (cases_eq k i) [
      | inl e ↦ subst (λ j. P (get_or (set xs i y) j d)) (sym e) (subst P (sym (get_or-set_same xs i y d (omega (arith, within, e)))) here)
      | inr ne ↦ subst P (sym (get_or-set_other xs i k y d ne)) (all k d within)
    ]
