-- What a step does to words and workers keeps them valid, over any views of which a reader can be told.
use Rattle.std.proofs.Common.{◌≡◌, ◌≢◌, ℕ, zero, suc, ◌<◌, List, [], ◌∷◌, ◌++◌, map, length, get_or, set, refl, sym, ap, subst, ◌∙◌, inl, inr, ⊎_elim, true, false, arith}
use Rattle.std.specs.Prelude.{ℤ}
use Rattle.std.proofs.lemmas.List.{length-set}
use Rattle.std.proofs.lemmas.Bool.{cases_eq, false≢true}
use mathlib.Core.Option.{some}
use lib.ListN.{get_elem?}
use Rattle.level_table.specs.declared.level.Level.{Level}
use Rattle.level_table.specs.declared.level.Level.TheVariants.{Empty, At}
use Rattle.level_table.specs.Levels.{Table, AtMost, level_at, lesser}
use Rattle.bound_laws.proofs.Levels.{level_at_most_self, level_at_most_trans, at_most_lesser, lesser_at_most, lesser_number}
use Rattle.schedule_core.specs.Frame.{Frame, IsAbove, IsSeen, IsSound, lesser_each, lesser_table, rows_of, with_level}
use Rattle.schedule_core.specs.Core.{AreValid, FitsReader, Reader, copied, sees, takes}
use Rattle.schedule_core.proofs.Levels.{IsLowering, empty_sound, lowered_sound, sound_lowers}
use Rattle.schedule_core.proofs.Lists.{at_longer, at_map, from_map, at_set, at_snoc, each_after, each_of_both, same_found, set_else, set_found}

pub seen_with : (f : Frame) (t : Table) (r : ℕ) (l : Level) → IsSeen f t → r < rows_of f → IsSound f r l → IsSeen f (with_level t r l)
seen_with f t r l ok within sound = record {
  states_agree = ok.states_agree;
  directions_agree = ok.directions_agree;
  one_each = length-set t.levels r l ∙ ok.one_each;
  sound = each_after (IsSound f) Empty t.levels (rows_of f) r l (omega (arith, ok.one_each)) sound ok.sound;
}

-- the owner stays at place 0
owner_stays : {V : Type 0} (reader : V → Reader) (f : Frame) (levels : List Level) (views : List V) (id : ℕ) (v w : V) → AreValid reader f levels views → get_elem? views id ≡ some v
    → ((reader v).owner ≡ true → ((reader w).owner ≡ true) × ((reader w).ended ≡ false))
    → (u : V) × (get_elem? (set views id w) 0 ≡ some u) × ((reader u).owner ≡ true) × ((reader u).ended ≡ false)
owner_stays {V} reader f levels views id v w ok at stays = elim (cases_eq 0 id) [
  | inl e ↦
      let here : get_elem? views 0 ≡ some v = subst (λ (k : ℕ). get_elem? views k ≡ some v) (sym e) at in
      let mine = stays (ap (λ (u : V). (reader u).owner) (same_found views 0 v ok.first here ok.first_is) ∙ ok.first_owns) in
      (w, subst (λ (k : ℕ). get_elem? (set views k w) 0 ≡ some w) e (set_found views 0 v w here), mine.0, mine.1)
  | inr ne ↦ (ok.first, set_else views id 0 w ne ∙ ok.first_is, ok.first_owns, ok.first_stays)
]

-- one view is another, and each other view fits the new levels
pub valid_with : {V : Type 0} (reader : V → Reader) (f : Frame) (levels levels' : List Level) (views : List V) (id : ℕ) (v w : V) → AreValid reader f levels views → get_elem? views id ≡ some v
    → length levels' ≡ rows_of f → ((r : ℕ) → r < rows_of f → IsSound f r (get_or levels' r Empty))
    → ((reader w).owner ≡ true → (reader v).owner ≡ true)
    → ((reader v).owner ≡ true → ((reader w).owner ≡ true) × ((reader w).ended ≡ false))
    → ((reader w).ended ≡ false → FitsReader f levels' (reader w))
    → ((j : ℕ) (u : V) → j ≢ id → get_elem? views j ≡ some u → FitsReader f levels (reader u) → FitsReader f levels' (reader u))
    → AreValid reader f levels' (set views id w)
valid_with {V} reader f levels levels' views id v w ok at count sound same stays mine others =
    let owner = owner_stays reader f levels views id v w ok at stays in record {
      one_each = count;
      sound = sound;
      fits = λ j u there working. ⊎_elim
          (λ (t : (j ≡ id) × (w ≡ u)). subst (λ (x : V). FitsReader f levels' (reader x)) t.1 (mine (subst (λ (x : V). (reader x).ended ≡ false) (sym t.1) working)))
          (λ (t : (j ≢ id) × (get_elem? views j ≡ some u)). others j u t.0 t.1 (ok.fits j u t.1 working))
          (at_set views id j w u there);
      one_owner = λ j u there owns. ⊎_elim
          (λ (t : (j ≡ id) × (w ≡ u)). t.0 ∙ ok.one_owner id v at (same (ap (λ (x : V). (reader x).owner) t.1 ∙ owns)))
          (λ (t : (j ≢ id) × (get_elem? views j ≡ some u)). ok.one_owner j u t.1 owns)
          (at_set views id j w u there);
      first = owner.0;
      first_is = owner.1;
      first_owns = owner.2;
      first_stays = owner.3;
    }

-- A view that has seen the present level of a row fits the levels.
fits_seeing : (f : Frame) (levels : List Level) (v : Reader) (r : ℕ) (l : Level) → get_or levels r Empty ≡ l → FitsReader f levels v → r < rows_of f → IsSound f r l → FitsReader f levels (sees v r l)
fits_seeing f levels v r l is ok within sound =
    let here : r < length v.seen.levels = omega (arith, ok.seen.one_each) in record {
      seen = seen_with f v.seen r l ok.seen within sound;
      above = each_after (λ j m. AtMost (get_or levels j Empty) m) Empty v.seen.levels (rows_of f) r l here (subst (λ (m : Level). AtMost m l) (sym is) (level_at_most_self l)) ok.above;
      owned = λ owner. each_after (λ j m. get_or levels j Empty ≡ Empty → m ≡ Empty) Empty v.seen.levels (rows_of f) r l here (λ e. sym is ∙ e) (ok.owned owner);
    }

-- a load of row r
pub load_keeps : {V : Type 0} (reader : V → Reader) (f : Frame) (levels : List Level) (views : List V) (id : ℕ) (v w : V) (r : ℕ) → AreValid reader f levels views → get_elem? views id ≡ some v
    → (reader v).ended ≡ false → r < rows_of f → reader w ≡ sees (reader v) r (get_or levels r Empty) → AreValid reader f levels (set views id w)
load_keeps reader f levels views id v w r ok at working within is = valid_with reader f levels levels views id v w ok at ok.one_each ok.sound
    (λ h. sym (ap (λ (x : Reader). x.owner) is) ∙ h)
    (λ h. (ap (λ (x : Reader). x.owner) is ∙ h, ap (λ (x : Reader). x.ended) is ∙ working))
    (λ _. subst (FitsReader f levels) (sym is) (fits_seeing f levels (reader v) r (get_or levels r Empty) refl (ok.fits id v at working) within (ok.sound r within)))
    (λ j u ne there h. h)

-- Where a row is lowered, each view that fitted the levels fits the new ones, if the row is Empty only where it was.
fits_lowered : (f : Frame) (levels : List Level) (v : Reader) (r : ℕ) (l : Level) → length levels ≡ rows_of f → r < rows_of f → AtMost l (get_or levels r Empty)
    → (v.owner ≡ true → l ≡ Empty → get_or levels r Empty ≡ Empty) → FitsReader f levels v → FitsReader f (set levels r l) v
fits_lowered f levels v r l count within fell stays ok =
    let here : r < length levels = omega (arith, count) in record {
      seen = ok.seen;
      above = each_after (λ j m. AtMost m (level_at v.seen j)) Empty levels (rows_of f) r l here (level_at_most_trans l (get_or levels r Empty) (level_at v.seen r) fell (ok.above r within)) ok.above;
      owned = λ owner. each_after (λ j m. m ≡ Empty → level_at v.seen j ≡ Empty) Empty levels (rows_of f) r l here (λ e. ok.owned owner r within (stays owner e)) (ok.owned owner);
    }

-- a write of a lower level to row r, which the writer has seen
pub write_keeps : {V : Type 0} (reader : V → Reader) (f : Frame) (levels : List Level) (views : List V) (id : ℕ) (v w : V) (r : ℕ) (l : Level) → AreValid reader f levels views → get_elem? views id ≡ some v
    → (reader v).ended ≡ false → r < rows_of f → IsSound f r l → AtMost l (get_or levels r Empty)
    → ((j : ℕ) (u : V) → j ≢ id → get_elem? views j ≡ some u → (reader u).owner ≡ true → l ≡ Empty → get_or levels r Empty ≡ Empty)
    → reader w ≡ sees (reader v) r l → AreValid reader f (set levels r l) (set views id w)
write_keeps reader f levels views id v w r l ok at working within sound fell stays is =
    let here : r < length levels = omega (arith, ok.one_each) in
    let mine = ok.fits id v at working in
    let seen_here : r < length (reader v).seen.levels = omega (arith, mine.seen.one_each) in
    let fresh : FitsReader f (set levels r l) (sees (reader v) r l) = record {
      seen = seen_with f (reader v).seen r l mine.seen within sound;
      above = each_of_both (λ j a b. AtMost a b) Empty Empty levels (reader v).seen.levels (rows_of f) r l l here seen_here (level_at_most_self l) mine.above;
      owned = λ owner. each_of_both (λ j a b. a ≡ Empty → b ≡ Empty) Empty Empty levels (reader v).seen.levels (rows_of f) r l l here seen_here (λ e. e) (mine.owned owner);
    } in
    valid_with reader f levels (set levels r l) views id v w ok at (length-set levels r l ∙ ok.one_each)
    (each_after (IsSound f) Empty levels (rows_of f) r l here sound ok.sound)
    (λ h. sym (ap (λ (x : Reader). x.owner) is) ∙ h)
    (λ h. (ap (λ (x : Reader). x.owner) is ∙ h, ap (λ (x : Reader). x.ended) is ∙ working))
    (λ _. subst (FitsReader f (set levels r l)) (sym is) fresh)
    (λ j u ne there h. fits_lowered f levels (reader u) r l ok.one_each within fell (stays j u ne there) h)

-- a lowering of row r to the level x
pub lower_keeps : {V : Type 0} (reader : V → Reader) (f : Frame) (levels : List Level) (views : List V) (id : ℕ) (v w : V) (r : ℕ) (x : ℤ) → AreValid reader f levels views → get_elem? views id ≡ some v
    → (reader v).ended ≡ false → r < rows_of f → IsLowering f r (At x) → reader w ≡ sees (reader v) r (lesser (get_or levels r Empty) (At x))
    → AreValid reader f (set levels r (lesser (get_or levels r Empty) (At x))) (set views id w)
lower_keeps reader f levels views id v w r x ok at working within lowering is =
    let old = get_or levels r Empty in
    write_keeps reader f levels views id v w r (lesser old (At x)) ok at working within (lowered_sound f r old (At x) (ok.sound r within) lowering) (lesser_at_most old (At x)) (λ j u ne there _ e. lesser_number old x e) is

-- a clearing of row r by the owner
pub clear_keeps : {V : Type 0} (reader : V → Reader) (f : Frame) (levels : List Level) (views : List V) (id : ℕ) (v w : V) (r : ℕ) → AreValid reader f levels views → get_elem? views id ≡ some v
    → (reader v).ended ≡ false → (reader v).owner ≡ true → r < rows_of f → IsAbove f r Empty → reader w ≡ sees (reader v) r Empty → AreValid reader f (set levels r Empty) (set views id w)
clear_keeps reader f levels views id v w r ok at working owner within above is =
    write_keeps reader f levels views id v w r Empty ok at working within (empty_sound f r above) tt
    (λ j u ne there too _. absurd (ne (ok.one_owner j u there too ∙ sym (ok.one_owner id v at owner)))) is

-- a new worker, who has seen as much
pub split_keeps : {V : Type 0} (reader : V → Reader) (f : Frame) (levels : List Level) (views : List V) (id : ℕ) (v w : V) → AreValid reader f levels views → get_elem? views id ≡ some v
    → (reader v).ended ≡ false → reader w ≡ copied (reader v) → AreValid reader f levels (views ++ w ∷ [])
split_keeps {V} reader f levels views id v w ok at working is =
    let mine = ok.fits id v at working in
    let copy : FitsReader f levels (copied (reader v)) = record { seen = mine.seen; above = mine.above; owned = λ e. absurd (false≢true e) } in record {
      one_each = ok.one_each;
      sound = ok.sound;
      fits = λ j u e un. ⊎_elim (λ (was : get_elem? views j ≡ some u). ok.fits j u was un) (λ (new : w ≡ u). subst (FitsReader f levels) (sym is ∙ ap reader new) copy) (at_snoc views w u j e);
      one_owner = λ j u e owner. ⊎_elim (λ (was : get_elem? views j ≡ some u). ok.one_owner j u was owner)
          (λ (new : w ≡ u). absurd (false≢true (sym (ap (λ (x : Reader). x.owner) is) ∙ (ap (λ (x : V). (reader x).owner) new ∙ owner)))) (at_snoc views w u j e);
      first = ok.first;
      first_is = at_longer views (w ∷ []) 0 ok.first ok.first_is;
      first_owns = ok.first_owns;
      first_stays = ok.first_stays;
    }

pub length-lesser : (ls ms : List Level) → length ls ≡ length ms → length (lesser_each ls ms) ≡ length ls
length-lesser [] ms e = refl
length-lesser (l ∷ ls) [] e = absurd (omega arith)
length-lesser (l ∷ ls) (m ∷ ms) e = ap suc (length-lesser ls ms (omega arith))

pub lesser_at : (ls ms : List Level) (r : ℕ) → length ls ≡ length ms → r < length ls → get_or (lesser_each ls ms) r Empty ≡ lesser (get_or ls r Empty) (get_or ms r Empty)
lesser_at [] ms r e h = absurd (omega arith)
lesser_at (l ∷ ls) [] r e h = absurd (omega arith)
lesser_at (l ∷ ls) (m ∷ ms) zero e h = refl
lesser_at (l ∷ ls) (m ∷ ms) (suc r) e h = lesser_at ls ms r (omega arith) (omega arith)

pub seen_joined : (f : Frame) (t u : Table) → IsSeen f t → IsSeen f u → IsSeen f (lesser_table t u)
seen_joined f t u h k =
    let same : length t.levels ≡ length u.levels = h.one_each ∙ sym k.one_each in record {
      states_agree = h.states_agree;
      directions_agree = h.directions_agree;
      one_each = length-lesser t.levels u.levels same ∙ h.one_each;
      sound = λ r below. subst (IsSound f r) (sym (lesser_at t.levels u.levels r same (omega (arith, h.one_each)))) (lowered_sound f r (level_at t r) (level_at u r) (h.sound r below) (sound_lowers f r (level_at u r) (k.sound r below)));
    }

lesser_of_empty : (l m : Level) → l ≡ Empty → lesser l m ≡ Empty
lesser_of_empty Empty m e = refl
lesser_of_empty (At x) m e = absurd (cc)

-- The owner takes the lesser levels, and the other view ends.
pub join_keeps : {V : Type 0} (reader : V → Reader) (f : Frame) (levels : List Level) (views : List V) (id : ℕ) (v : V) (other : ℕ) (w both spent : V) → AreValid reader f levels views
    → get_elem? views id ≡ some v → (reader v).ended ≡ false → other ≢ id → get_elem? views other ≡ some w → (reader w).ended ≡ false → (reader w).owner ≡ false
    → reader both ≡ takes (reader v) (reader w) → (reader spent).ended ≡ true → (reader spent).owner ≡ false → AreValid reader f levels (set (set views id both) other spent)
join_keeps reader f levels views id v other w both spent ok at working apart was working' no_owner is ended unowned =
    let mine = ok.fits id v at working in
    let theirs = ok.fits other w was working' in
    let t = (reader v).seen in
    let u = (reader w).seen in
    let same : length t.levels ≡ length u.levels = mine.seen.one_each ∙ sym theirs.seen.one_each in
    let at_row = λ (r : ℕ) (below : r < rows_of f). lesser_at t.levels u.levels r same (omega (arith, mine.seen.one_each)) in
    let fits : FitsReader f levels (takes (reader v) (reader w)) = record {
      seen = seen_joined f t u mine.seen theirs.seen;
      above = λ r below. subst (AtMost (get_or levels r Empty)) (sym (at_row r below)) (at_most_lesser (get_or levels r Empty) (level_at t r) (level_at u r) (mine.above r below) (theirs.above r below));
      owned = λ owner r below e. at_row r below ∙ lesser_of_empty (level_at t r) (level_at u r) (mine.owned owner r below e);
    } in
    let once = valid_with reader f levels levels views id v both ok at ok.one_each ok.sound
    (λ h. sym (ap (λ (x : Reader). x.owner) is) ∙ h)
    (λ h. (ap (λ (x : Reader). x.owner) is ∙ h, ap (λ (x : Reader). x.ended) is ∙ working))
    (λ _. subst (FitsReader f levels) (sym is) fits) (λ j u ne there h. h) in
    valid_with reader f levels levels (set views id both) other w spent once (set_else views id other both apart ∙ was) ok.one_each ok.sound
    (λ h. absurd (false≢true (sym unowned ∙ h))) (λ h. absurd (false≢true (sym no_owner ∙ h))) (λ h. absurd (false≢true (sym h ∙ ended))) (λ j u ne there h. h)

-- the same of the readers alone
pub valid_readers : {V : Type 0} (reader : V → Reader) (f : Frame) (levels : List Level) (views : List V) → AreValid reader f levels views → AreValid (λ (v : Reader). v) f levels (map reader views)
valid_readers {V} reader f levels views ok = record {
  one_each = ok.one_each;
  sound = ok.sound;
  fits = λ id u e works.
      let t = from_map reader views id u e in
      subst (FitsReader f levels) t.2 (ok.fits id t.0 t.1 (subst (λ (x : Reader). x.ended ≡ false) (sym t.2) works));
  one_owner = λ id u e owner.
      let t = from_map reader views id u e in
      ok.one_owner id t.0 t.1 (ap (λ (x : Reader). x.owner) t.2 ∙ owner);
  first = reader ok.first;
  first_is = at_map reader views 0 ok.first ok.first_is;
  first_owns = ok.first_owns;
  first_stays = ok.first_stays;
}
