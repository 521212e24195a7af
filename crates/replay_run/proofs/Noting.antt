-- Reasons over what the owner has seen are right beside the notes so far.
use Rattle.std.proofs.Common.{◌≡◌, ◌⊎◌, inl, inr, ⊎_elim, ℕ, zero, suc, ◌<◌, List, refl, sym, subst, arith, below_more}
use Rattle.game_model.specs.Game.{states, counts, profile_count, successor, reached}
use Rattle.level_table.specs.declared.level.Level.{Level}
use Rattle.level_table.specs.declared.level.Level.TheVariants.{Empty, At}
use Rattle.level_table.specs.declared.reason.Reason.{Reason}
use Rattle.level_table.specs.declared.reason.Reason.TheVariants as reasons
use Rattle.level_table.specs.declared.reason.Note.{Note}
use Rattle.level_table.specs.Problem.{Problem, IsProblem}
use Rattle.level_table.specs.Levels.{Levels, IsNumber}
use Rattle.level_table.specs.Notes.{IsNote, IsReason, Named, levels_of}
use Rattle.level_table.specs.Reasons.{AreReasonsOver, IsKnown, IsReasonOver, reason_at}
use Rattle.bound_laws.proofs.Places.{next_state, reached_state}

-- a state has a note exactly where one of its levels is Empty
pub record NamesUnknown (p : Problem) (t : Levels) (notes : List Note) : Type 0 where
  pub known : (s : ℕ) → s < states p.game → Named notes s → IsKnown p t s → ⊥
  pub unknown : (s : ℕ) → s < states p.game → (IsKnown p t s → ⊥) → Named notes s

reason_from : (p : Problem) (t : Levels) (notes : List Note) (s a : ℕ) (r : Reason) → IsProblem p → NamesUnknown p t notes → s < states p.game → a < profile_count (counts p.game s)
    → IsReasonOver p t s a r → IsReason p (levels_of t) notes s a r
reason_from p t notes s a (reasons.Successor u) ok h state profile (e, none) =
    (e, h.unknown u (subst (λ (m : ℕ). m < states p.game) (sym e) (next_state p.game s a ok.game state profile)) none)
reason_from p t notes s a (reasons.Deviation i b u) ok h state profile (next, dev, is, none, before) = (
  (λ named. h.known (successor p.game s a) (next_state p.game s a ok.game state profile) named next),
  dev,
  is,
  h.unknown u (subst (λ (m : ℕ). m < states p.game) (sym is) (reached_state p.game s a i b ok.game state profile dev)) none,
  λ j d earlier other named. h.known (reached p.game s a j d) (reached_state p.game s a j d ok.game state profile other) named (before j d earlier other),
)
reason_from p t notes s a (reasons.Farkas list) ok h state profile (all, program) = (
  (λ named. h.known (successor p.game s a) (next_state p.game s a ok.game state profile) named all.next),
  (λ j d dev named. h.known (reached p.game s a j d) (reached_state p.game s a j d ok.game state profile dev) named (all.reached_states j d dev)),
  program.certificate,
)

pub note_from : (p : Problem) (t : Levels) (notes : List Note) (note : Note) → IsProblem p → NamesUnknown p t notes → note.state < states p.game → (Named notes note.state → ⊥)
    → AreReasonsOver p t note.state note.reasons.list → IsNote p (levels_of t) notes note
note_from p t notes note ok h state new over = record {
  known = state;
  new = new;
  one_each = over.one_each;
  reasons = λ a below. reason_from p t notes note.state a (reason_at note.reasons.list a) ok h state (omega (arith, below, over.one_each)) (over.each a below);
}

-- ---- an Empty level among a state's
empty_or_number : (l : Level) → (l ≡ Empty) ⊎ IsNumber l
empty_or_number Empty = inl refl
empty_or_number (At x) = inr tt

pub some_empty : (f : ℕ → Level) (n : ℕ) → (((k : ℕ) → k < n → IsNumber (f k)) → ⊥) → (k : ℕ) × (k < n) × (f k ≡ Empty)
some_empty f zero none = absurd (none (λ k below. absurd (omega arith)))
some_empty f (suc n) none =
    ⊎_elim
    (λ (e : f n ≡ Empty). (n, omega arith, e))
    (λ (number : IsNumber (f n)).
    let h = some_empty f n (λ all. none (last all number)) in
    (h.0, omega (arith, h.1), h.2))
    (empty_or_number (f n))
  where
    last : ((k : ℕ) → k < n → IsNumber (f k)) → IsNumber (f n) → (k : ℕ) → k < suc n → IsNumber (f k)
    last all number k below = below_more (λ k. IsNumber (f k)) n all number k (omega arith)
