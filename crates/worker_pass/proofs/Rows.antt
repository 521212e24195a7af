-- What an update leaves.
use Rattle.std.proofs.Common.{◌≡◌, ◌≢◌, ◌⊎◌, inl, inr, ℕ, ◌+◌, ◌*◌, ◌/◌, ◌%◌, ◌<◌, ◌≤ℤ◌, length, refl, sym, ap, subst, ◌∙◌, arith, w64, Option, Some}
use Rattle.std.specs.Prelude.{ℤ, ◌<ℤ◌}
use Rattle.std.specs.Int.{int_min}
use Rattle.std.proofs.lemmas.Int.{ints, clamps}
use mir.Val.{to_z, of_z}
use Rattle.std.proofs.lemmas.Bool.{cases_eq}
use Rattle.std.proofs.lemmas.List.{get_or-set_same, get_or-set_other}
use Rattle.game_model.specs.Game.{counts, profile_count, successor, deviation_at, states}
use Rattle.level_table.specs.declared.level.Level.{Level}
use Rattle.level_table.specs.declared.level.Level.TheVariants.{Empty, At}
use Rattle.level_table.specs.Problem.{Problem, IsProblem}
use Rattle.level_table.specs.Levels.{Levels, Table, AtMost, IsBelow, IsNumber, IsRow, IsSmall, level_at, levels_in, lesser}
use Rattle.level_table.specs.Operator.{IsRowLevel}
use Rattle.level_table.proofs.Numbers.{fits_small}
use Rattle.bound_laws.proofs.Levels.{level_at_most_trans, level_at_most_from_same}
use Rattle.bound_laws.proofs.Operator.{row_levels_grow}
use Rattle.bound_laws.proofs.Places.{deviation_known}
use Rattle.level_board.proofs.Moments.{fallen_trans}
use Rattle.operator_laws.specs.Successors.{AgreeAfter}
use Rattle.operator_laws.proofs.Existence.{row_level_exists}
use Rattle.operator_laws.proofs.Successors.{reads}
use Rattle.schedule_core.specs.Frame.{Frame, IsFallen, IsFrame, IsRowLevelOf, IsSeen, rows_of, with_level}
use Rattle.schedule_core.proofs.Levels.{row_known, row_level_lowers}
use Rattle.set_operator.specs.Answers.{IsRowAnswer}
use Rattle.set_operator.specs.declared.row.RowAnswer.{RowAnswer}
use Rattle.set_operator.specs.Prepared.{IsLesser}
use Rattle.set_operator.specs.declared.lesser.Lesser.{Lesser}
use Rattle.worker_pass.specs.Scratches.{HoldsAfter, IsLoaded}
use Rattle.worker_pass.specs.Updates.{FollowsRow, IsAnswer, IsLowering, IsPassedRow, IsUpdated}
use Rattle.worker_pass.specs.declared.updating.UpdateNote.{UpdateNote}
use Rattle.worker_pass.specs.declared.updating.UpdateNote.TheVariants as notes
use Rattle.worker_pass.proofs.Falling.{fallen_self, fallen_same}

-- ---- a row level reads only what follows
agree_after : (f : Frame) (t v : Table) (s : ℕ) → IsFrame f → s < states f.problem.game → t.directions ≡ f.start.directions → v.directions ≡ f.start.directions → HoldsAfter f t v s
    → AgreeAfter f.problem (levels_in t) (levels_in v) s
agree_after f t v s ok state t_same v_same h a k profile dir = (at a profile, λ i b d. at (deviation_at f.problem.game s a i b) (deviation_known f.problem.game s a i b ok.problem.game state profile d))
  where
    at : (a : ℕ) → a < profile_count (counts f.problem.game s) → levels_in t (successor f.problem.game s a) k ≡ levels_in v (successor f.problem.game s a) k
    at a profile =
        let next = successor f.problem.game s a in
        subst (λ (d : ℕ). level_at t (next * d + k) ≡ level_at v (next * v.directions + k)) (sym t_same)
        (subst (λ (d : ℕ). level_at t (next * f.start.directions + k) ≡ level_at v (next * d + k)) (sym v_same)
        (h a profile k (omega (arith, dir, ok.sizes.directions_agree))))

-- A row level of the table is one of what was seen.
pub row_level_seen : (f : Frame) (t v : Table) (row : ℕ) (l : Level) → IsFrame f → row < rows_of f → t.directions ≡ f.start.directions → v.directions ≡ f.start.directions → HoldsAfter f t v (row / f.start.directions)
    → IsRowLevelOf f t row l → IsRowLevelOf f v row l
row_level_seen f t v row l ok known t_same v_same h level =
    reads f.problem (levels_in t) (levels_in v) (row / f.start.directions) (row % f.start.directions) l ok.problem
    (agree_after f t v (row / f.start.directions) ok (row_known f row ok known).state t_same v_same h) level

-- ---- what was lowered
pub lowers_seen : (f : Frame) (t v v' : Table) (row : ℕ) (l : Level) (x : ℤ) → IsRowLevelOf f t row (At x) → v' ≡ with_level v row (lesser l (At x)) → AtMost (level_at v' row) (At x) → IsFallen v v'
    → IsLowering f t v v' row (notes.Lowered x)
lowers_seen f t v v' row l x is new back fallen = (is, back, fallen, λ r ne. ap (λ (w : Table). level_at w r) new ∙ get_or-set_other v.levels row r (lesser l (At x)) _ ne)

-- a level that isn't above the row level stays
pub stays_seen : (f : Frame) (t v : Table) (row : ℕ) (x m : ℤ) → IsRowLevelOf f t row (At m) → level_at v row ≡ At x → x ≤ℤ m → IsLowering f t v v row (notes.Lowered m)
stays_seen f t v row x m is here most = (is, subst (λ (l : Level). AtMost l (At m)) (sym here) most, fallen_self v, λ r ne. refl)

-- ---- the lesser of a level and the row level
-- it is less only where it is the row level
pub less_is_row_level : (p : Problem) (t : Levels) (s k : ℕ) (x y : ℤ) (found : Lesser) → IsProblem p × IsRow p s k → IsLesser p t s k x (Some found) → found.level ≡ y → y <ℤ x → IsRowLevel p t s k (At y)
less_is_row_level p t s k x y found (ok, row) (alive, known, least) is less = cases level.0 level.1
  where
    level : (l : Level) × IsRowLevel p t s k l
    level = row_level_exists p t s k ok row

    same : (m : ℤ) → found.level ≡ int_min x m → m ≡ y
    same m e = omega (arith, ints, clamps, e, is, less)

    cases : (l : Level) → IsRowLevel p t s k l → IsRowLevel p t s k (At y)
    cases Empty dead = absurd (dead alive.profile alive.vector alive.known alive.admissible)
    cases (At m) here = subst (λ (z : ℤ). IsRowLevel p t s k (At z)) (same m (least m here)) here

-- it isn't less only where the row level isn't
pub row_level_above : (p : Problem) (t : Levels) (s k : ℕ) (x : ℤ) (found : Lesser) → IsProblem p × IsRow p s k → IsLesser p t s k x (Some found) → x ≤ℤ found.level → (m : ℤ) × IsRowLevel p t s k (At m) × (x ≤ℤ m)
row_level_above p t s k x found (ok, row) (alive, known, least) most = cases level.0 level.1
  where
    level : (l : Level) × IsRowLevel p t s k l
    level = row_level_exists p t s k ok row

    cases : (l : Level) → IsRowLevel p t s k l → (m : ℤ) × IsRowLevel p t s k (At m) × (x ≤ℤ m)
    cases Empty dead = absurd (dead alive.profile alive.vector alive.known alive.admissible)
    cases (At m) here = let e = least m here in (m, here, omega (arith, ints, clamps, e, most))

-- ---- the whole update
pub updated_empty : (f : Frame) (v v' t t' : Table) (row : ℕ) → IsLoaded v v' t t' → level_at t' row ≡ level_at v' row → ((r : ℕ) → r ≢ row → level_at v' r ≡ level_at v r) → level_at t' row ≡ Empty
    → IsUpdated f v v' t' row notes.WasEmpty
updated_empty f v v' t t' row loaded here others empty = record {
  fallen = loaded.fallen;
  loaded = subst (λ (l : Level). AtMost l (level_at v row)) (sym here) (loaded.fallen.fell row);
  lowered = level_at_most_from_same _ _ (sym here);
  held = λ number. absurd (subst IsNumber empty number);
  others = λ r. elim (cases_eq r row) [ inl e ↦ inr (inl e) | inr ne ↦ inl (others r ne) ];
  answer = (empty, sym here ∙ empty);
}

-- what a lowering says of every row, whatever its answer
record Falls (v v' : Table) (row : ℕ) : Type 0 where
  pub fallen : IsFallen v v'
  pub others : (r : ℕ) → r ≢ row → level_at v' r ≡ level_at v r

falls : (f : Frame) (t v v' : Table) (row : ℕ) (note : UpdateNote) → IsLowering f t v v' row note → Falls v v' row
falls f t v v' row (notes.Lowered level) h = record { fallen = h.2; others = h.3 }
falls f t v v' row notes.WasEmpty h = absurd h
falls f t v v' row notes.NothingAdmissible h = record { fallen = fallen_same v v' h.1; others = λ r ne. ap (λ (w : Table). level_at w r) h.1 }

answers : (f : Frame) (t v v' : Table) (row : ℕ) (note : UpdateNote) → IsNumber (level_at t row) → level_at t row ≡ level_at v row → IsLowering f t v v' row note → IsAnswer f t v' row note
answers f t v v' row (notes.Lowered level) number here h = (number, h.0, h.1)
answers f t v v' row notes.WasEmpty number here h = absurd h
answers f t v v' row notes.NothingAdmissible number here h = (number, h.0, ap (λ (w : Table). level_at w row) h.1 ∙ sym here)

pub updated_at : (f : Frame) (v w v' t t' : Table) (row : ℕ) (note : UpdateNote)
    → IsLoaded v w t t' → level_at t' row ≡ level_at w row → IsNumber (level_at t' row) → HoldsAfter f t' w (row / f.start.directions) → IsLowering f t' w v' row note → IsUpdated f v v' t' row note
updated_at f v w v' t t' row note after here number holds lowering =
    let h : Falls w v' row = falls f t' w v' row note lowering in
    record {
      fallen = fallen_trans v w v' after.fallen h.fallen;
      loaded = subst (λ (l : Level). AtMost l (level_at v row)) (sym here) (after.fallen.fell row);
      lowered = subst (AtMost (level_at v' row)) (sym here) (h.fallen.fell row);
      held = λ num r ne follows. follow h r ne follows;
      others = λ r. elim (cases_eq r row) [ inl e ↦ inr (inl e) | inr ne ↦ other h r ne (after.others r) ];
      answer = answers f t' w v' row note number here lowering;
    }
  where
    follow : Falls w v' row → (r : ℕ) → r ≢ row → FollowsRow f row r → level_at t' r ≡ level_at v' r
    follow h r ne (a, k, profile, dir, is) = subst (λ (x : ℕ). level_at t' x ≡ level_at w x) (sym is) (holds a profile k dir) ∙ sym (h.others r ne)

    other : Falls w v' row → (r : ℕ) → r ≢ row → (level_at w r ≡ level_at v r) ⊎ (level_at t' r ≡ level_at w r) → (level_at v' r ≡ level_at v r) ⊎ ((r ≡ row) ⊎ (level_at t' r ≡ level_at v' r))
    other h r ne (inl old) = inl (h.others r ne ∙ old)
    other h r ne (inr held) = inr (inr (held ∙ sym (h.others r ne)))

-- ---- what the sweep asks of an update
-- what was seen agrees with the table after the state, but for the row itself
after_row : (f : Frame) (t w : Table) (row : ℕ) → ((r : ℕ) → FollowsRow f row r → level_at t r ≡ level_at w r) → HoldsAfter f t w (row / f.start.directions)
after_row f t w row h a profile k dir = h (successor f.problem.game (row / f.start.directions) a * f.start.directions + k) (a, k, profile, dir, refl)

glued_row : (v' t : Table) (row r : ℕ) → row < length v'.levels → (r ≢ row) ⊎ (r ≡ row) → (l : Level) → (r ≢ row → level_at v' r ≡ l) → (r ≡ row → level_at t r ≡ l) → level_at (with_level v' row (level_at t row)) r ≡ l
glued_row v' t row r within (inl ne) l other same = get_or-set_other v'.levels row r (level_at t row) _ ne ∙ other ne
glued_row v' t row r within (inr e) l other same =
    subst (λ (k : ℕ). level_at (with_level v' row (level_at t row)) k ≡ l) (sym e) (get_or-set_same v'.levels row (level_at t row) _ within ∙ subst (λ (k : ℕ). level_at t k ≡ l) e (same e))

turn : {A B : Type 0} → A ⊎ B → B ⊎ A
turn (inl a) = inr a
turn (inr b) = inl b

pub passed_row : (f : Frame) (v v' t : Table) (row : ℕ) (note : UpdateNote) (above : Levels) → IsFrame f → row < rows_of f → t.directions ≡ f.start.directions → v.directions ≡ f.start.directions
    → row < length v'.levels → IsUpdated f v v' t row note → IsBelow f.problem (levels_in v) above → IsPassedRow f above v' row
passed_row f v v' t row notes.WasEmpty above ok known t_same v_same within h below l level = inl (subst (λ (m : Level). AtMost m l) (sym h.answer.1) tt)
passed_row f v v' t row notes.NothingAdmissible above ok known t_same v_same within h below l level =
    inr (row_level_seen f t v' row Empty ok known t_same (h.fallen.directions_agree ∙ v_same) (after_row f t v' row holds) h.answer.1)
  where
    holds : (r : ℕ) → FollowsRow f row r → level_at t r ≡ level_at v' r
    holds r follows = elim (cases_eq r row) [ inl e ↦ subst (λ (k : ℕ). level_at t k ≡ level_at v' k) (sym e) (sym h.answer.2) | inr ne ↦ h.held h.answer.0 r ne follows ]
passed_row f v v' t row (notes.Lowered x) above ok known t_same v_same within h below l level =
    let m : Table = with_level v' row (level_at t row) in
    let place = row_known f row ok known in
    let seen : IsRowLevelOf f m row (At x) = row_level_seen f t m row (At x) ok known t_same (h.fallen.directions_agree ∙ v_same) (after_row f t m row holds) h.answer.1 in
    let under : IsBelow f.problem (levels_in m) (levels_in v) = λ s k at. subst (λ (d : ℕ). AtMost (level_at m (s * d + k)) (level_at v (s * v.directions + k))) (sym h.fallen.directions_agree) (fell (s * v.directions + k)) in
    inl (level_at_most_trans (level_at v' row) (At x) l h.answer.2
    (row_levels_grow f.problem (levels_in m) above (row / f.start.directions) (row % f.start.directions) (At x) l ok.problem place.state (λ s k at. level_at_most_trans _ _ _ (under s k at) (below s k at)) seen level))
  where
    holds : (r : ℕ) → FollowsRow f row r → level_at t r ≡ level_at (with_level v' row (level_at t row)) r
    holds r follows = sym (glued_row v' t row r within (turn (cases_eq r row)) (level_at t r) (λ ne. sym (h.held h.answer.0 r ne follows)) (λ e. refl))

    fell : (r : ℕ) → AtMost (level_at (with_level v' row (level_at t row)) r) (level_at v r)
    fell r = elim (cases_eq r row) [
      | inl e ↦ subst (λ (k : ℕ). AtMost (level_at (with_level v' row (level_at t row)) k) (level_at v k)) (sym e) (subst (λ (n : Level). AtMost n (level_at v row)) (sym (get_or-set_same v'.levels row (level_at t row) _ within)) h.loaded)
      | inr ne ↦ subst (λ (n : Level). AtMost n (level_at v r)) (sym (get_or-set_other v'.levels row r (level_at t row) _ ne)) (h.fallen.fell r)
    ]

-- ---- what the operator answers, for the board
pub lesser_here : (p q : Problem) (t u : Table) (s s' k k' : ℕ) (x z : ℤ) (r : Option Lesser) → q ≡ p → u ≡ t → s' ≡ s → k' ≡ k → z ≡ x → IsLesser q (levels_in u) s' k' z r → IsLesser p (levels_in t) s k x r
lesser_here p q t u s s' k k' x z r a b c d e h = subst (λ (X : Type 0). X) (λ i. IsLesser (a i) (levels_in (b i)) (c i) (d i) (e i) r) h

pub answer_here : (p q : Problem) (t u : Table) (s s' k k' : ℕ) (r : RowAnswer) → q ≡ p → u ≡ t → s' ≡ s → k' ≡ k → IsRowAnswer q (levels_in u) s' k' r → IsRowAnswer p (levels_in t) s k r
answer_here p q t u s s' k k' r a b c d h = subst (λ (X : Type 0). X) (λ i. IsRowAnswer (a i) (levels_in (b i)) (c i) (d i) r) h

lesser_small : (x m y : ℤ) → IsSmall (At x) → IsSmall (At m) → y ≡ int_min x m → IsSmall (At y)
lesser_small x m y a b e = (omega (arith, ints, clamps, a.0, b.0, e), omega (arith, ints, clamps, a.1, b.1, e))

-- the lesser level is read back from its bits
pub lesser_fits : (f : Frame) (t v : Table) (row : ℕ) (x : ℤ) (found : Lesser) → IsFrame f → row < rows_of f → t.directions ≡ f.start.directions → IsSeen f v → HoldsAfter f t v (row / f.start.directions) → IsSmall (At x)
    → IsLesser f.problem (levels_in t) (row / f.start.directions) (row % f.start.directions) x (Some found) → to_z w64 (of_z w64 found.level) ≡ found.level
lesser_fits f t v row x found ok known t_same seen after small (alive, profile, least) = fits_small found.level (cases level.0 level.1)
  where
    level : (l : Level) × IsRowLevelOf f t row l
    level = row_level_exists f.problem (levels_in t) (row / f.start.directions) (row % f.start.directions) ok.problem (row_known f row ok known)

    cases : (l : Level) → IsRowLevelOf f t row l → IsSmall (At found.level)
    cases Empty dead = absurd (dead alive.profile alive.vector alive.known alive.admissible)
    cases (At m) here = lesser_small x m found.level small (row_level_lowers f v row m ok seen known (row_level_seen f t v row (At m) ok known t_same seen.directions_agree after here)).small (least m here)

pub less : (x z xb zb : ℤ) → xb ≡ x → zb ≡ z → zb <ℤ xb → z <ℤ x
less x z xb zb e f h = omega (arith, ints, e, f, h)

pub not_less : (x z xb zb : ℤ) → xb ≡ x → zb ≡ z → xb ≤ℤ zb → x ≤ℤ z
not_less x z xb zb e f h = omega (arith, ints, e, f, h)
