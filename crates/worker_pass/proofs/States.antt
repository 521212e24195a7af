-- States that have a note are Empty, and no others.
use Rattle.std.proofs.Common.{◌≡◌, ◌≢◌, ◌⊎◌, inl, inr, ⊎_elim, ℕ, suc, ◌+◌, ◌*◌, ◌/◌, ◌%◌, ◌<◌, ◌≤◌, ◌++◌, List, [], ◌∷◌, length, refl, sym, ap, subst, ◌∙◌, arith}
use Rattle.std.proofs.lemmas.Bool.{cases_eq, cases_lt}
use Rattle.std.proofs.lemmas.List.{length_push}
use Rattle.std.proofs.Math.Nat.{mod-lt}
use Rattle.std.proofs.lemmas.Nat.{div-mul-add}
use Rattle.game_model.specs.Game.{states}
use Rattle.level_table.specs.declared.level.Level.{Level}
use Rattle.level_table.specs.declared.level.Level.TheVariants.{Empty, At}
use Rattle.level_table.specs.declared.reason.Note.{Note}
use Rattle.level_table.specs.Problem.{Problem, direction_count, IsProblem}
use Rattle.level_table.specs.Levels.{Levels, Table, AtMost, IsBelow, IsNumber, IsRow, level_at, levels_in}
use Rattle.level_table.specs.Notes.{Named}
use Rattle.level_table.specs.Operator.{HasAdmissible, IsRowLevel}
use Rattle.level_table.specs.Reasons.{IsNoteOver}
use Rattle.level_table.specs.Supported.{IsEven}
use Rattle.bound_laws.specs.Laws.{KeepsSupported}
use Rattle.bound_laws.proofs.Levels.{level_at_most_trans}
use Rattle.bound_laws.proofs.Operator.{admissible_grows}
use Rattle.bound_laws.proofs.Notes.{first_direction}
use Rattle.level_board.specs.Board.{BoardId, OwnerView}
use Rattle.schedule_core.specs.Frame.{Frame, IsFallen, IsFrame, IsSeen, NamedRow, NamesEmpty}
use Rattle.schedule_core.proofs.Levels.{by_row, row_of, seen_is_kept}
use Rattle.worker_pass.specs.Clearings.{AreCleared, AreNamed, IsGoneThrough}
use Rattle.worker_pass.specs.Sweeps.{HoldsButFirst, IsCleared}
use Rattle.worker_pass.proofs.Naming.{all_empty, empty_from_at_most, named_split, number_is}

pub empty_fallen : (t u : Table) (r : ℕ) → IsFallen t u → level_at t r ≡ Empty → level_at u r ≡ Empty
empty_fallen t u r h e = empty_from_at_most (level_at u r) (subst (AtMost (level_at u r)) e (h.fell r))

pub cleared_fallen : (f : Frame) (notes notes' : List Note) (t u : Table) → notes' ≡ notes → IsFallen t u → IsCleared f notes t → IsCleared f notes' u
cleared_fallen f notes notes' t u same h cleared r known named = empty_fallen t u r h (cleared r known (subst (λ (ns : List Note). NamedRow f ns r) same named))

empty_or_number : (l : Level) → (l ≡ Empty) ⊎ IsNumber l
empty_or_number Empty = inl refl
empty_or_number (At x) = inr tt

-- what is known of the owner's notes and levels
pub record AreMarkedOff (f : Frame) (notes : List Note) (v : Table) : Type 0 where
  pub frame : IsFrame f
  pub directions_same : v.directions ≡ f.start.directions
  pub named : NamesEmpty f notes v
  pub cleared : IsCleared f notes v

-- by the owner's law
pub marked_off : (b : BoardId) (o : OwnerView) → IsFrame b.frame → o.board ≡ b → IsSeen o.board.frame o.seen → NamesEmpty o.board.frame o.notes o.seen → IsCleared b.frame o.notes o.seen → AreMarkedOff b.frame o.notes o.seen
marked_off b o ok same seen named cleared = record {
  frame = ok;
  directions_same = (subst (λ (c : BoardId). IsSeen c.frame o.seen) same seen).directions_agree;
  named = subst (λ (c : BoardId). NamesEmpty c.frame o.notes o.seen) same named;
  cleared = cleared;
}

named_at : (f : Frame) (notes : List Note) (v : Table) → AreMarkedOff f notes v → (s k : ℕ) → IsRow f.problem s k → levels_in v s k ≡ Empty → Named notes s
named_at f notes v h = by_row f v (λ s k l. l ≡ Empty → Named notes s) h.frame h.directions_same h.named

empty_at : (f : Frame) (notes : List Note) (v : Table) → AreMarkedOff f notes v → (s k : ℕ) → IsRow f.problem s k → Named notes s → levels_in v s k ≡ Empty
empty_at f notes v h = by_row f v (λ s k l. Named notes s → l ≡ Empty) h.frame h.directions_same h.cleared

first_row : (f : Frame) → IsFrame f → (s : ℕ) → s < states f.problem.game → IsRow f.problem s 0
first_row f ok s known = record { state = known; direction = first_direction f.problem ok.problem }

pub is_even : (f : Frame) (notes : List Note) (v : Table) → AreMarkedOff f notes v → IsEven f.problem (levels_in v)
is_even f notes v h s known = by_first (empty_or_number (levels_in v s 0))
  where
    at : (k : ℕ) → k < direction_count f.problem → IsRow f.problem s k
    at k dir = record { state = known; direction = dir }

    number_at : IsNumber (levels_in v s 0) → (k : ℕ) → k < direction_count f.problem → (levels_in v s k ≡ Empty) ⊎ IsNumber (levels_in v s k) → IsNumber (levels_in v s k)
    number_at first k dir (inl e) = absurd (number_is (levels_in v s 0) first (empty_at f notes v h s 0 (first_row f h.frame s known) (named_at f notes v h s k (at k dir) e)))
    number_at first k dir (inr n) = n

    by_first : (levels_in v s 0 ≡ Empty) ⊎ IsNumber (levels_in v s 0) → ((k : ℕ) → k < direction_count f.problem → levels_in v s k ≡ Empty) ⊎ ((k : ℕ) → k < direction_count f.problem → IsNumber (levels_in v s k))
    by_first (inl e) = inl (λ k dir. empty_at f notes v h s k (at k dir) (named_at f notes v h s 0 (first_row f h.frame s known) e))
    by_first (inr n) = inr (λ k dir. number_at n k dir (empty_or_number (levels_in v s k)))

pub names_empty : (f : Frame) (notes : List Note) (v : Table) → AreMarkedOff f notes v → AreNamed f.problem (levels_in v) notes
names_empty f notes v h s known = (λ named. empty_at f notes v h s 0 (first_row f h.frame s known) named, λ e. named_at f notes v h s 0 (first_row f h.frame s known) e)

-- one state more is cleared
pub cleared_more_state : (f : Frame) (notes notes' : List Note) (note : Note) (v v' : Table) (s : ℕ) → IsFrame f → notes' ≡ notes ++ note ∷ [] → note.state ≡ s → IsFallen v v' → IsCleared f notes v
    → ((k : ℕ) → k < f.start.directions → level_at v' (s * f.start.directions + k) ≡ Empty) → IsCleared f notes' v'
cleared_more_state f notes notes' note v v' s ok is state fell cleared here r known named = elim (named_split notes note (r / f.start.directions) (subst (λ (ns : List Note). Named ns (r / f.start.directions)) is named)) [
  | inl old ↦ empty_fallen v v' r fell (cleared r known old)
  | inr e ↦
      let d = f.start.directions in
      let dir : r % d < d = mod-lt r (omega (arith, ok.whole.some_direction)) in
      let at : s ≡ r / d = sym state ∙ e in
      subst (λ (n : ℕ). level_at v' n ≡ Empty) (row_of f r) (subst (λ (m : ℕ). level_at v' (m * d + r % d) ≡ Empty) at (here (r % d) dir))
]

-- ---- states that are gone through
pub stays : (p : Problem) (s : ℕ) (t u : Levels) (before after : List Note) → (t s 0 ≡ Empty) ⊎ HasAdmissible p t s → u ≡ t → after ≡ before → IsGoneThrough p s t before u after
stays p s t u before after why same notes = inl (record { why = why; levels = λ r k row. ap (λ (l : Levels). l r k) same; notes = notes })

-- the rows of a state are its own
pub other_row : (d s r j k : ℕ) → j < d → k < d → r ≢ s → r * d + j ≡ s * d + k → ⊥
other_row d s r j k dir dir' ne e = ne (sym (div-mul-add r d j dir) ∙ (ap (λ (n : ℕ). n / d) e ∙ div-mul-add s d k dir'))

pub emptied : (f : Frame) (s : ℕ) (v v' : Table) (before after : List Note) (note : Note) → IsFrame f → v.directions ≡ f.start.directions → IsFallen v v'
    → (levels_in v s 0 ≡ Empty → ⊥) → (HasAdmissible f.problem (levels_in v) s → ⊥)
    → ((k : ℕ) → k < f.start.directions → level_at v' (s * f.start.directions + k) ≡ Empty)
    → ((r : ℕ) → ((k : ℕ) → k < f.start.directions → r ≡ s * f.start.directions + k → ⊥) → level_at v' r ≡ level_at v r)
    → IsNoteOver f.problem (levels_in v) s note → after ≡ before ++ note ∷ [] → IsGoneThrough f.problem s (levels_in v) before (levels_in v') after
emptied f s v v' before after note ok same fell number dead here others over notes = inr (record {
  number = number;
  dead = dead;
  here = λ k dir. subst (λ (d : ℕ). level_at v' (s * d + k) ≡ Empty) (sym (fell.directions_agree ∙ same)) (here k (omega (arith, dir, ok.sizes.directions_agree)));
  others = λ r k row ne.
      let dir : k < f.start.directions = omega (arith, row.direction, ok.sizes.directions_agree) in
      subst (λ (d : ℕ). level_at v' (r * d + k) ≡ level_at v (r * v.directions + k)) (sym (fell.directions_agree ∙ same))
      (subst (λ (d : ℕ). level_at v' (r * f.start.directions + k) ≡ level_at v (r * d + k)) (sym same)
      (others (r * f.start.directions + k) (λ j dir' e. other_row f.start.directions s r k j dir dir' ne e)));
  note = note;
  noted = over;
  notes = notes;
})

pub gone_dead : (p : Problem) (s k : ℕ) (t u : Levels) (before after : List Note) → IsProblem p → IsEven p t → s < states p.game → k < direction_count p → IsGoneThrough p s t before u after → IsRowLevel p t s k Empty → u s k ≡ Empty
gone_dead p s k t u before after ok even known dir (inl h) dead = h.levels s k (record { state = known; direction = dir }) ∙ ⊎_elim
    (λ (e : t s 0 ≡ Empty). all_empty p t s k ok even known e dir)
    (λ (a : HasAdmissible p t s). absurd (dead a.profile a.vector a.known a.admissible))
    h.why
gone_dead p s k t u before after ok even known dir (inr h) dead = h.here k dir

pub cleared_next : (p : Problem) (s : ℕ) (entry : Levels) (before : List Note) (mid : Levels) (noted : List Note) (new : Levels) (after : List Note)
    → AreCleared p s entry before mid noted → IsGoneThrough p s mid noted new after → AreCleared p (s + 1) entry before new after
cleared_next p s entry before mid noted new after so_far here =
    let next : suc s ≡ s + 1 = omega arith in
    subst (λ n. AreCleared p n entry before new after) next (mid, noted, so_far, here)

pub dead_below : (p : Problem) (t v : Levels) (s k : ℕ) → IsProblem p → s < states p.game → IsBelow p v t → IsRowLevel p t s k Empty → IsRowLevel p v s k Empty
dead_below p t v s k problem known below dead a y profile adm = dead a y profile (admissible_grows p v t s a y problem below known profile adm)

pub cleared_more : (p : Problem) (entry mid new : Levels) (i : ℕ) → IsProblem p → i < states p.game → IsBelow p mid entry → IsBelow p new mid
    → ((s k : ℕ) → s < i → k < direction_count p → IsRowLevel p entry s k Empty → mid s k ≡ Empty)
    → ((k : ℕ) → k < direction_count p → IsRowLevel p mid i k Empty → new i k ≡ Empty)
    → (s k : ℕ) → s < i + 1 → k < direction_count p → IsRowLevel p entry s k Empty → new s k ≡ Empty
cleared_more p entry mid new i problem known under lower before here s k below dir dead =
    ⊎_elim
    (λ (lt : s < i). empty_from_at_most (new s k) (subst (λ (l : Level). AtMost (new s k) l) (before s k lt dir dead) (lower s k (record { state = omega arith; direction = dir }))))
    (λ (ge : i ≤ s).
    let e : i ≡ s = omega arith in
    subst (λ (j : ℕ). new j k ≡ Empty) e (here k dir (dead_below p entry mid i k problem known under (subst (λ (j : ℕ). IsRowLevel p entry j k Empty) (sym e) dead))))
    (cases_lt s i)

-- how many notes there are
pub one_note_more : (notes notes' : List Note) (note : Note) → notes' ≡ notes ++ note ∷ [] → length notes' ≡ length notes + 1
one_note_more notes notes' note is = ap length is ∙ length_push notes note

-- ---- what is left when new passes are made
pub cleared_but_first : (f : Frame) (notes notes' : List Note) (t u : Table) → notes' ≡ notes → HoldsButFirst t u → IsCleared f notes t → IsCleared f notes' u
cleared_but_first f notes notes' t u same h cleared r known named =
    let e : level_at t r ≡ Empty = cleared r known (subst (λ (ns : List Note). NamedRow f ns r) same named) in
    elim (cases_eq r 0) [
      | inl first ↦ empty_from_at_most (level_at u r) (subst (AtMost (level_at u r)) e (subst (λ (k : ℕ). AtMost (level_at u k) (level_at t k)) (sym first) h.first))
      | inr ne ↦ h.others r ne ∙ e
    ]

-- what a table keeps of the supported tables at most a start, another that was seen keeps too
pub kept_along : (f : Frame) (t u : Table) (start : Levels) → IsFrame f → IsSeen f t → IsSeen f u → KeepsSupported f.problem start (levels_in t) → KeepsSupported f.problem start (levels_in u)
kept_along f t u start ok seen seen' kept s k row w below supported =
    seen_is_kept f u ok seen' s k row w (λ s' k' row'. level_at_most_trans _ _ _ (kept s' k' row' w below supported) (under s' k' row')) supported
  where
    under : IsBelow f.problem (levels_in t) (levels_in f.start)
    under = by_row f t (λ s k l. AtMost l (levels_in f.start s k)) ok seen.directions_agree (λ r known. subst (λ (n : ℕ). AtMost (level_at t r) (level_at f.start n)) (sym (row_of f r)) (seen.sound r known).within.1)
