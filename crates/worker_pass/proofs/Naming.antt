-- Notes and the states that they name.
use Rattle.std.proofs.Common.{◌≡◌, ◌≢◌, ◌⊎◌, inl, inr, ⊎_elim, ℕ, ◌<◌, ◌≤◌, ◌++◌, List, [], ◌∷◌, length, refl, sym, ap, ◌∙◌, subst, arith}
use Rattle.std.proofs.lemmas.Bool.{cases_eq, cases_lt}
use Rattle.std.proofs.lemmas.List.{get_or_append_left, get_or_push, length_push}
use Rattle.game_model.specs.Game.{states, counts, profile_count, successor, reached}
use Rattle.level_table.specs.declared.level.Level.{Level}
use Rattle.level_table.specs.declared.level.Level.TheVariants.{Empty, At}
use Rattle.level_table.specs.declared.reason.Reason.{Reason}
use Rattle.level_table.specs.declared.reason.Reason.TheVariants as reasons
use Rattle.level_table.specs.declared.reason.Note.{Note}
use Rattle.level_table.specs.Problem.{Problem, direction_count, IsProblem}
use Rattle.level_table.specs.Levels.{Levels, IsNumber, AtMost}
use Rattle.level_table.specs.Supported.{IsEven}
use Rattle.level_table.specs.Notes.{IsNote, IsReason, Named, levels_of, no_note}
use Rattle.level_table.specs.Reasons.{IsKnown, IsNoteOver, IsReasonOver, reason_at}
use Rattle.bound_laws.proofs.Notes.{noted, first_direction}
use Rattle.bound_laws.proofs.Places.{next_state, reached_state}
use Rattle.schedule_core.proofs.Events.{named_more}
use Rattle.worker_pass.specs.Clearings.{AreNamed, KeepsNotes}

pub number_is : (l : Level) → IsNumber l → l ≡ Empty → ⊥
number_is l n e = subst IsNumber e n

pub empty_from_at_most : (l : Level) → AtMost l Empty → l ≡ Empty
empty_from_at_most Empty h = refl
empty_from_at_most (At x) h = absurd h

-- ---- one note more
pub named_new : (notes : List Note) (n : Note) → Named (notes ++ n ∷ []) n.state
named_new notes n = (length notes, omega (arith, length_push notes n), ap (λ (m : Note). m.state) (get_or_push notes n no_note (length notes) refl))

pub named_split : (notes : List Note) (n : Note) (u : ℕ) → Named (notes ++ n ∷ []) u → Named notes u ⊎ (n.state ≡ u)
named_split notes n u (l, below, e) =
    ⊎_elim
    (λ (lt : l < length notes). inl (l, lt, ap (λ (m : Note). m.state) (sym (get_or_append_left notes (n ∷ []) no_note l lt)) ∙ e))
    (λ (ge : length notes ≤ l).
    let here : length notes ≡ l = omega (arith, below, length_push notes n) in
    inr (ap (λ (m : Note). m.state) (sym (get_or_push notes n no_note l here)) ∙ e))
    (cases_lt l (length notes))

-- ---- notes beside a table
pub all_empty : (p : Problem) (t : Levels) (s k : ℕ) → IsProblem p → IsEven p t → s < states p.game → t s 0 ≡ Empty → k < direction_count p → t s k ≡ Empty
all_empty p t s k ok even known e dir =
    ⊎_elim
    (λ (empty : (k : ℕ) → k < direction_count p → t s k ≡ Empty). empty k dir)
    (λ (numbers : (k : ℕ) → k < direction_count p → IsNumber (t s k)). absurd (number_is (t s 0) (numbers 0 (first_direction p ok)) e))
    (even s known)

unknown_named : (p : Problem) (t : Levels) (notes : List Note) (u : ℕ) → IsProblem p → IsEven p t → AreNamed p t notes → u < states p.game → (IsKnown p t u → ⊥) → Named notes u
unknown_named p t notes u ok even h known none =
    ⊎_elim
    (λ (empty : (k : ℕ) → k < direction_count p → t u k ≡ Empty). (h u known).1 (empty 0 (first_direction p ok)))
    (λ (numbers : (k : ℕ) → k < direction_count p → IsNumber (t u k)). absurd (none numbers))
    (even u known)

known_not_named : (p : Problem) (t : Levels) (notes : List Note) (u : ℕ) → IsProblem p → AreNamed p t notes → u < states p.game → IsKnown p t u → Named notes u → ⊥
known_not_named p t notes u ok h known numbers named = number_is (t u 0) (numbers 0 (first_direction p ok)) ((h u known).0 named)

-- a reason over a table is one beside the notes of its empty states
reason_from : (p : Problem) (t : Levels) (notes : List Note) (s a : ℕ) (r : Reason) → IsProblem p → IsEven p t → AreNamed p t notes → s < states p.game → a < profile_count (counts p.game s)
    → IsReasonOver p t s a r → IsReason p (levels_of t) notes s a r
reason_from p t notes s a (reasons.Successor u) ok even h state profile (e, none) =
    (e, unknown_named p t notes u ok even h (subst (λ (m : ℕ). m < states p.game) (sym e) (next_state p.game s a ok.game state profile)) none)
reason_from p t notes s a (reasons.Deviation i b u) ok even h state profile (next, dev, is, none, before) = (
  known_not_named p t notes (successor p.game s a) ok h (next_state p.game s a ok.game state profile) next,
  dev,
  is,
  unknown_named p t notes u ok even h (subst (λ (m : ℕ). m < states p.game) (sym is) (reached_state p.game s a i b ok.game state profile dev)) none,
  λ j d earlier other. known_not_named p t notes (reached p.game s a j d) ok h (reached_state p.game s a j d ok.game state profile other) (before j d earlier other),
)
reason_from p t notes s a (reasons.Farkas list) ok even h state profile (all, program) = (
  known_not_named p t notes (successor p.game s a) ok h (next_state p.game s a ok.game state profile) all.next,
  λ j d dev. known_not_named p t notes (reached p.game s a j d) ok h (reached_state p.game s a j d ok.game state profile dev) (all.reached_states j d dev),
  program.certificate,
)

pub note_from : (p : Problem) (t : Levels) (notes : List Note) (s : ℕ) (note : Note) → IsProblem p → IsEven p t → AreNamed p t notes → s < states p.game → (t s 0 ≡ Empty → ⊥)
    → IsNoteOver p t s note → IsNote p (levels_of t) notes note
note_from p t notes s note ok even h state number over = record {
  known = subst (λ (m : ℕ). m < states p.game) (sym over.state) state;
  new = λ named. number ((h s state).0 (subst (Named notes) over.state named));
  one_each = over.reasons.one_each ∙ ap (λ (m : ℕ). profile_count (counts p.game m)) (sym over.state);
  reasons = λ a below. subst (λ (m : ℕ). IsReason p (levels_of t) notes m a (reason_at note.reasons.list a)) (sym over.state)
      (reason_from p t notes s a (reason_at note.reasons.list a) ok even h state (omega (arith, below, over.reasons.one_each)) (over.reasons.each a below));
}

-- a cleared state gets its note
pub noted_cleared : (p : Problem) (t : Levels) (notes : List Note) (s : ℕ) (note : Note) → IsProblem p → IsEven p t → AreNamed p t notes → s < states p.game
    → (t s 0 ≡ Empty → ⊥) → IsNoteOver p t s note → KeepsNotes p t notes (notes ++ note ∷ [])
noted_cleared p t notes s note ok even h state number over start kept before = noted p start t notes note ok kept before (note_from p t notes s note ok even h state number over)

pub named_cleared : (p : Problem) (t v : Levels) (notes : List Note) (s : ℕ) (note : Note) → AreNamed p t notes → s < states p.game
    → note.state ≡ s → v s 0 ≡ Empty → ((r : ℕ) → r ≢ s → v r 0 ≡ t r 0) → AreNamed p v (notes ++ note ∷ [])
named_cleared p t v notes s note h state is cleared others u known = (to, from)
  where
    to : Named (notes ++ note ∷ []) u → v u 0 ≡ Empty
    to named =
        ⊎_elim
        (λ (same : u ≡ s). subst (λ (m : ℕ). v m 0 ≡ Empty) (sym same) cleared)
        (λ (ne : u ≡ s → ⊥).
        ⊎_elim
        (λ (old : Named notes u). others u ne ∙ (h u known).0 old)
        (λ (new : note.state ≡ u). absurd (ne (sym new ∙ is)))
        (named_split notes note u named))
        (cases_eq u s)

    from : v u 0 ≡ Empty → Named (notes ++ note ∷ []) u
    from e =
        ⊎_elim
        (λ (same : u ≡ s). subst (Named (notes ++ note ∷ [])) (is ∙ sym same) (named_new notes note))
        (λ (ne : u ≡ s → ⊥). named_more notes note u ((h u known).1 (sym (others u ne) ∙ e)))
        (cases_eq u s)
