-- Rows that were loaded, one after the other.
use Rattle.std.proofs.Common.{◌≡◌, ◌≢◌, inl, inr, ⊎_elim, ℕ, zero, suc, replicate, ◌+◌, ◌*◌, ◌/◌, ◌<◌, length, true, false, Bool, List, Option, Some, None, set, get_or, refl, sym, ap, subst, ◌∙◌}
use Rattle.std.proofs.lemmas.Bool.{cases_eq, false≢true}
use Rattle.std.proofs.lemmas.List.{get_or-set_same, get_or-set_other}
use Rattle.level_table.specs.declared.level.Level.{Level}
use Rattle.level_table.specs.Levels.{Table, IsNumber, level_at}
use Rattle.std.specs.Prelude.{IfSome}
use Rattle.schedule_core.specs.Frame.{Frame, IsFallen, with_level}
use Rattle.game_model.specs.Game.{successor}
use Rattle.worker_pass.specs.Scratches.{HoldsAfter, HoldsMarked, HoldsState, IsLoaded}
use Rattle.worker_pass.specs.Updates.{FollowsRow}
use Rattle.level_board.proofs.Moments.{fallen_trans}
use Rattle.worker_pass.proofs.Falling.{fallen_self}

pub loaded_none : (v t : Table) → IsLoaded v v t t
loaded_none v t = record { fallen = fallen_self v; held = λ r h. h; others = λ r. inl refl }

pub loaded_then : (v v' v'' t t' t'' : Table) → IsLoaded v v' t t' → IsLoaded v' v'' t' t'' → IsLoaded v v'' t t''
loaded_then v v' v'' t t' t'' h k = record {
  fallen = fallen_trans v v' v'' h.fallen k.fallen;
  held = λ r same. k.held r (h.held r same);
  others = λ r. ⊎_elim
      (λ (same : level_at v'' r ≡ level_at v' r). ⊎_elim (λ (old : level_at v' r ≡ level_at v r). inl (same ∙ old)) (λ (here : level_at t' r ≡ level_at v' r). inr (k.held r here)) (h.others r))
      (λ (here : level_at t'' r ≡ level_at v'' r). inr here)
      (k.others r);
}

pub row_written : (t t' : Table) (row : ℕ) (l : Level) → t' ≡ with_level t row l → row < length t.levels → level_at t' row ≡ l
row_written t t' row l e fits = ap (λ (x : Table). level_at x row) e ∙ get_or-set_same t.levels row l _ fits

pub row_else : (t t' : Table) (row r : ℕ) (l : Level) → t' ≡ with_level t row l → r ≢ row → level_at t' r ≡ level_at t r
row_else t t' row r l e ne = ap (λ (x : Table). level_at x r) e ∙ get_or-set_other t.levels row r l _ ne

pub row_loaded : (v v' t t' : Table) (row : ℕ) (l : Level) → v' ≡ with_level v row l → t' ≡ with_level t row l → row < length v.levels → row < length t.levels → level_at t' row ≡ level_at v' row
row_loaded v v' t t' row l e f fits fits' = row_written t t' row l f fits' ∙ sym (row_written v v' row l e fits)

-- both tables got the same level in a row
pub loaded_row : (v v' t t' : Table) (row : ℕ) (l : Level) → v' ≡ with_level v row l → t' ≡ with_level t row l → row < length v.levels → row < length t.levels → IsFallen v v' → IsLoaded v v' t t'
loaded_row v v' t t' row l e f fits fits' fallen = record {
  fallen = fallen;
  held = λ r same. elim (cases_eq r row) [ inl is ↦ subst (λ (k : ℕ). level_at t' k ≡ level_at v' k) (sym is) (row_loaded v v' t t' row l e f fits fits') | inr ne ↦ other t t' f r ne ∙ same ∙ sym (other v v' e r ne) ];
  others = λ r. elim (cases_eq r row) [ inl is ↦ inr (subst (λ (k : ℕ). level_at t' k ≡ level_at v' k) (sym is) (row_loaded v v' t t' row l e f fits fits')) | inr ne ↦ inl (other v v' e r ne) ];
}
  where
    other : (u u' : Table) → u' ≡ with_level u row l → (r : ℕ) → r ≢ row → level_at u' r ≡ level_at u r
    other u u' is r ne = row_else u u' row r l is ne

-- ---- whole states
pub state_held : (f : Frame) (v v' t t' : Table) (s : ℕ) → IsLoaded v v' t t' → HoldsState f t v s → HoldsState f t' v' s
state_held f v v' t t' s loaded holds k dir = loaded.held (s * f.start.directions + k) (holds k dir)

pub marks_held : (f : Frame) (v v' t t' : Table) (marks : List Bool) → IsLoaded v v' t t' → HoldsMarked f t v marks → HoldsMarked f t' v' marks
marks_held f v v' t t' marks loaded holds s marked = state_held f v v' t t' s loaded (holds s marked)

pub after_held : (f : Frame) (v v' t t' : Table) (s : ℕ) → IsLoaded v v' t t' → HoldsAfter f t v s → HoldsAfter f t' v' s
after_held f v v' t t' s loaded holds a profile = state_held f v v' t t' (successor f.problem.game s a) loaded (holds a profile)

-- all rows that follow are held once the row itself is
pub all_held : (f : Frame) (v v' t t' : Table) (row : ℕ) → IsLoaded v v' t t' → level_at t' row ≡ level_at v' row → ((r : ℕ) → r ≢ row → FollowsRow f row r → level_at t r ≡ level_at v r) → HoldsAfter f t' v' (row / f.start.directions)
all_held f v v' t t' row loaded here others a profile k dir =
    let r : ℕ = successor f.problem.game (row / f.start.directions) a * f.start.directions + k in
    elim (cases_eq r row) [
      | inl e ↦ subst (λ (n : ℕ). level_at t' n ≡ level_at v' n) (sym e) here
      | inr ne ↦ loaded.held r (others r ne (a, k, profile, dir, refl))
    ]

pub held_then : (f : Frame) (v v' t t' : Table) (row : ℕ) (state : Option ℕ) → IfSome state (λ s. (s ≡ row / f.start.directions) × IsNumber (level_at t row)) → IsLoaded v v' t t' → level_at t' row ≡ level_at v' row
    → (IsNumber (level_at t row) → (r : ℕ) → r ≢ row → FollowsRow f row r → level_at t r ≡ level_at v r) → IfSome state (HoldsAfter f t' v')
held_then f v v' t t' row None is loaded here others = tt
held_then f v v' t t' row (Some s) (e, number) loaded here others = subst (HoldsAfter f t' v') (sym e) (all_held f v v' t t' row loaded here (others number))

-- one mark more
pub marks_more : (f : Frame) (v v' t t' : Table) (marks marks' : List Bool) (s : ℕ) → IsLoaded v v' t t' → marks' ≡ set marks s true → HoldsMarked f t v marks → HoldsState f t' v' s → HoldsMarked f t' v' marks'
marks_more f v v' t t' marks marks' s loaded is holds here r marked = elim (cases_eq r s) [
  | inl e ↦ subst (HoldsState f t' v') (sym e) here
  | inr ne ↦ state_held f v v' t t' r loaded (holds r (sym (ap (λ (ms : List Bool). get_or ms r false) is ∙ get_or-set_other marks s r true false ne) ∙ marked))
]

pub unmarked_none : (n s : ℕ) → get_or (replicate n false) s false ≡ true → ⊥
unmarked_none zero s e = false≢true e
unmarked_none (suc n) zero e = false≢true e
unmarked_none (suc n) (suc s) e = unmarked_none n s e
