-- Each call is an event of the core.
use Rattle.std.proofs.Common.{◌≡◌, ℕ, zero, suc, ◌<◌, List, [], ◌∷◌, map, length, get_or, set, refl, sym, ap, ◌∙◌, subst, true, false, inl, inr}
use Rattle.std.specs.Prelude.{ℤ}
use Rattle.std.proofs.lemmas.List.{get_or-set_same, get_or-set_other, set_past, length-set}
use Rattle.std.proofs.lemmas.Bool.{cases_eq, cases_lt}
use mathlib.Core.Option.{some}
use lib.ListN.{get_elem?}
use Rattle.atomic_table.specs.Table.{State}
use Rattle.level_table.specs.declared.level.Level.{Level}
use Rattle.level_table.specs.declared.level.Level.TheVariants.{Empty, At}
use Rattle.level_table.specs.declared.reason.Note.{Note}
use Rattle.level_table.specs.Levels.{Table, AtMost, IsSmall, level_at, lesser}
use Rattle.level_table.specs.Tables.{kept_word}
use Rattle.bound_laws.proofs.Levels.{level_at_most_self, level_at_most_trans, lesser_at_most, lesser_at_most_second}
use Rattle.schedule_core.specs.declared.event.Event.{Event}
use Rattle.schedule_core.specs.declared.event.Event.TheVariants as events
use Rattle.schedule_core.specs.Frame.{Frame, AreKept, IsFallen, IsRowLevelOf, IsSeen, NamedRow, lesser_each, lesser_table, rows_of, with_level}
use Rattle.schedule_core.specs.Core.{Core, IsWorking, Reader, reader_at, sees, word_in}
use Rattle.schedule_core.proofs.Lists.{at_map, got, there}
use Rattle.schedule_core.proofs.Words.{valid_readers, length-lesser}
use Rattle.level_board.specs.declared.view.View.{View}
use Rattle.level_board.specs.Board.{HasValidState, IsEvent, OwnerView}
use Rattle.level_board.specs.Rule.{Cleared, IsOwner, Keeps, Looked, Lowered, Moment, frame_of, reader_of}

-- the core state of a moment
abbrev state_at : (f : Frame) (v : Reader) (r : ℕ) (l : Level) → Moment f v r l → List Note → Core
state_at f v r l m notes = record { frame = f; levels = m.levels; readers = m.readers; notes = notes }

reader_is : (f : Frame) (v : Reader) (r : ℕ) (l : Level) (m : Moment f v r l) (notes : List Note) → reader_at (state_at f v r l m notes) m.worker ≡ v
reader_is f v r l m notes = got m.readers m.worker v _ m.here

working : (f : Frame) (v : Reader) (r : ℕ) (l : Level) (m : Moment f v r l) (notes : List Note) → v.ended ≡ false → IsWorking (state_at f v r l m notes) m.worker
working f v r l m notes works = record { there = there m.readers m.worker v m.here; works = ap (λ (u : Reader). u.ended) (reader_is f v r l m notes) ∙ works }

-- what a reader has seen after a step
seen_after : (readers : List Reader) (w : ℕ) (u v d : Reader) (r : ℕ) (l m : Level) → w < length readers → u ≡ v → l ≡ m → (get_or (set readers w (sees u r l)) w d).seen ≡ with_level v.seen r m
seen_after readers w u v d r l m here is same =
    ap (λ (x : Reader). x.seen) (get_or-set_same readers w (sees u r l) d here) ∙ (ap (λ (x : Reader). with_level x.seen r l) is ∙ ap (λ (k : Level). with_level v.seen r k) same)

pub load_event : (f : Frame) (v : Reader) (r : ℕ) (l : Level) → Moment f v r l → v.ended ≡ false → r < rows_of f → IsEvent f (λ w. events.Load w r) r v.seen l (with_level v.seen r l)
load_event f v r l m works within =
    let is = reader_is f v r l m [] in
    let here = working f v r l m [] works in record {
      state = state_at f v r l m [];
      worker = m.worker;
      frame = refl;
      valid = m.valid;
      before = ap (λ (u : Reader). u.seen) is;
      word = m.is;
      may = (here, within);
      then = seen_after m.readers m.worker (reader_at (state_at f v r l m []) m.worker) v _ r (word_in (state_at f v r l m []) r) l here.there is m.is;
    }

pub lower_event : (f : Frame) (v : Reader) (r : ℕ) (l : Level) (x : ℤ) → Moment f v r l → v.ended ≡ false → r < rows_of f → IsRowLevelOf f v.seen r (At x)
    → IsEvent f (λ w. events.Lower w r x) r v.seen l (with_level v.seen r (lesser l (At x)))
lower_event f v r l x m works within level =
    let is = reader_is f v r l m [] in
    let here = working f v r l m [] works in record {
      state = state_at f v r l m [];
      worker = m.worker;
      frame = refl;
      valid = m.valid;
      before = ap (λ (u : Reader). u.seen) is;
      word = m.is;
      may = (here, within, subst (λ (u : Reader). IsRowLevelOf f u.seen r (At x)) (sym is) level);
      then = seen_after m.readers m.worker (reader_at (state_at f v r l m []) m.worker) v _ r (lesser (word_in (state_at f v r l m []) r) (At x)) (lesser l (At x)) here.there is (ap (λ (k : Level). lesser k (At x)) m.is);
    }

pub clear_event : (f : Frame) (v : Reader) (r : ℕ) (l : Level) (notes : List Note) → Moment f v r l → v.ended ≡ false → v.owner ≡ true → r < rows_of f → NamedRow f notes r
    → IsEvent f (λ w. events.Clear r) r v.seen l (with_level v.seen r Empty)
clear_event f v r l notes m works owner within named =
    let is = reader_is f v r l m notes in
    let first : m.worker ≡ 0 = m.valid.one_owner m.worker v m.here owner in
    let here : get_elem? m.readers 0 ≡ some v = subst (λ (w : ℕ). get_elem? m.readers w ≡ some v) first m.here in record {
      state = state_at f v r l m notes;
      worker = m.worker;
      frame = refl;
      valid = m.valid;
      before = ap (λ (u : Reader). u.seen) is;
      word = m.is;
      may = (within, named);
      then = ap (λ (w : ℕ). (get_or (set m.readers 0 (sees (reader_at (state_at f v r l m notes) 0) r Empty)) w _).seen) first
          ∙ seen_after m.readers 0 (reader_at (state_at f v r l m notes) 0) v _ r Empty Empty (there m.readers 0 v here) (got m.readers 0 v _ here) refl;
    }

-- a table after a level has come down
pub fallen_with : (t : Table) (row : ℕ) (l : Level) → AtMost l (level_at t row) → IsFallen t (with_level t row l)
fallen_with t row l fell = record { states_agree = refl; directions_agree = refl; one_each = length-set t.levels row l; fell = each }
  where
    each : (r : ℕ) → AtMost (level_at (with_level t row l) r) (level_at t r)
    each r = elim (cases_eq r row) [
      | inl e ↦ subst (λ (k : ℕ). AtMost (level_at (with_level t row l) k) (level_at t k)) (sym e) (elim (cases_lt row (length t.levels)) [
        | inl h ↦ subst (λ (m : Level). AtMost m (level_at t row)) (sym (get_or-set_same t.levels row l Empty h)) fell
        | inr h ↦ subst (λ (ls : List Level). AtMost (get_or ls row Empty) (level_at t row)) (sym (set_past t.levels row l h)) (level_at_most_self (level_at t row))
      ])
      | inr ne ↦ subst (λ (m : Level). AtMost m (level_at t r)) (sym (get_or-set_other t.levels row r l Empty ne)) (level_at_most_self (level_at t r))
    ]

-- A valid state, as what is left of the words shows it.
pub state_shown : (f : Frame) (s : State (Unit {0}) View) (id : ℕ) (v : View) (o : OwnerView) → Keeps f s → get_elem? s.views id ≡ some v → IsOwner v o.notes → frame_of v ≡ f → v.seen ≡ o.seen → HasValidState f o
state_shown f s id v o kept at ok same seen =
    let readers = map reader_of s.views in
    let first : id ≡ 0 = kept.valid.one_owner id v at ok.owner in
    let here : get_elem? readers 0 ≡ some (reader_of v) = subst (λ (i : ℕ). get_elem? readers i ≡ some (reader_of v)) first (at_map reader_of s.views id v at) in
    let c : Core = record { frame = f; levels = kept.levels; readers = readers; notes = o.notes } in record {
      state = c;
      frame = refl;
      valid = record {
        words = valid_readers reader_of f kept.levels s.views kept.valid;
        kept = subst (λ (g : Frame). AreKept g o.notes) same ok.kept;
        named = λ j u there owner r below e.
            let is : j ≡ 0 = (valid_readers reader_of f kept.levels s.views kept.valid).one_owner j u there owner in
            let mine : reader_of v ≡ u = Rattle.schedule_core.proofs.Lists.same_found readers 0 (reader_of v) u here (subst (λ (i : ℕ). get_elem? readers i ≡ some u) is there) in
            let below' : r < rows_of (frame_of v) = subst (λ (g : Frame). r < rows_of g) (sym same) below in
            subst (λ (g : Frame). NamedRow g o.notes r) same (ok.named r below' (ok.marked r below' (ap (λ (x : Reader). level_at x.seen r) mine ∙ e)));
      };
      seen = ap (λ (x : Reader). x.seen) (got readers 0 (reader_of v) _ here) ∙ seen;
      notes = refl;
    }

pub event_along : (f g : Frame) (e : ℕ → Event) (r : ℕ) (t t' : Table) (l l' : Level) (u u' : Table) → f ≡ g → t ≡ t' → l ≡ l' → u ≡ u' → IsEvent f e r t l u → IsEvent g e r t' l' u'
event_along f g e r t t' l l' u u' a b c d h = subst (λ (h : Frame). IsEvent h e r t' l' u') a (subst (λ (x : Table). IsEvent f e r x l' u') b (subst (λ (x : Level). IsEvent f e r t x u') c (subst (λ (x : Table). IsEvent f e r t l x) d h)))

pub looked_event : (v : View) (r n : ℕ) (w : View) (f : Frame) (t u : Table) (l : Level) (told : Looked v r n w) → v.spent ≡ false → frame_of v ≡ f → v.seen ≡ t → w.seen ≡ u → l ≡ told.found.level → r < rows_of f
    → IsEvent f (λ x. events.Load x r) r t l u
looked_event v r n w f t u l told unspent same seen new is within =
    event_along (frame_of v) f (λ x. events.Load x r) r v.seen t told.found.level l (with_level v.seen r told.found.level) u same seen (sym is) (sym (ap (λ (x : View). x.seen) told.seen) ∙ new)
    (load_event (frame_of v) (reader_of v) r told.found.level told.found.moment unspent (subst (λ (g : Frame). r < rows_of g) (sym same) within))

pub lowered_event : (v : View) (r k n : ℕ) (w : View) (f : Frame) (t u : Table) (l : Level) (x : ℤ) (told : Lowered v r k n w) → v.spent ≡ false → frame_of v ≡ f → v.seen ≡ t → w.seen ≡ u → l ≡ told.found.level → r < rows_of f
    → IsSmall (At x) → k ≡ kept_word (At x) → IsRowLevelOf f t r (At x) → IsEvent f (λ y. events.Lower y r x) r t l u
lowered_event v r k n w f t u l x told unspent same seen new is within small word level =
    event_along (frame_of v) f (λ y. events.Lower y r x) r v.seen t told.found.level l (with_level v.seen r (lesser told.found.level (At x))) u same seen (sym is) (sym (ap (λ (y : View). y.seen) (told.seen (At x) small word)) ∙ new)
    (lower_event (frame_of v) (reader_of v) r told.found.level x told.found.moment unspent (subst (λ (g : Frame). r < rows_of g) (sym same) within)
    (subst (λ (g : Frame). IsRowLevelOf g v.seen r (At x)) (sym same) (subst (λ (y : Table). IsRowLevelOf f y r (At x)) (sym seen) level)))

pub cleared_event : (v : View) (r n : ℕ) (w : View) (f : Frame) (t u : Table) (l : Level) (notes : List Note) (told : Cleared v r n w) → v.spent ≡ false → v.owner ≡ true → frame_of v ≡ f → v.seen ≡ t → w.seen ≡ u → l ≡ told.found.level → r < rows_of f
    → NamedRow f notes r → IsEvent f (λ x. events.Clear r) r t l u
cleared_event v r n w f t u l notes told unspent owner same seen new is within named =
    event_along (frame_of v) f (λ x. events.Clear r) r v.seen t told.found.level l (with_level v.seen r Empty) u same seen (sym is) (sym (ap (λ (y : View). y.seen) told.seen) ∙ new)
    (clear_event (frame_of v) (reader_of v) r told.found.level notes told.found.moment unspent owner (subst (λ (g : Frame). r < rows_of g) (sym same) within) (subst (λ (g : Frame). NamedRow g notes r) (sym same) named))

pub fallen_trans : (t u v : Table) → IsFallen t u → IsFallen u v → IsFallen t v
fallen_trans t u v h k = record {
  states_agree = k.states_agree ∙ h.states_agree;
  directions_agree = k.directions_agree ∙ h.directions_agree;
  one_each = k.one_each ∙ h.one_each;
  fell = λ r. level_at_most_trans (level_at v r) (level_at u r) (level_at t r) (k.fell r) (h.fell r);
}

lesser_below : (ls ms : List Level) (r : ℕ) → AtMost (get_or (lesser_each ls ms) r Empty) (get_or ls r Empty) × AtMost (get_or (lesser_each ls ms) r Empty) (get_or ms r Empty)
lesser_below [] ms r = (tt, tt)
lesser_below (l ∷ ls) [] r = (tt, tt)
lesser_below (l ∷ ls) (m ∷ ms) zero = (lesser_at_most l m, lesser_at_most_second l m)
lesser_below (l ∷ ls) (m ∷ ms) (suc r) = lesser_below ls ms r

pub fallen_joined : (f : Frame) (t u : Table) → IsSeen f t → IsSeen f u → IsFallen t (lesser_table t u) × IsFallen u (lesser_table t u)
fallen_joined f t u h k =
    let same : length t.levels ≡ length u.levels = h.one_each ∙ sym k.one_each in
    let count = length-lesser t.levels u.levels same in (
      record { states_agree = refl; directions_agree = refl; one_each = count; fell = λ r. (lesser_below t.levels u.levels r).0 },
      record { states_agree = h.states_agree ∙ sym k.states_agree; directions_agree = h.directions_agree ∙ sym k.directions_agree; one_each = count ∙ same; fell = λ r. (lesser_below t.levels u.levels r).1 },
    )
