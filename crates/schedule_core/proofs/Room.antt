-- A note of a state that has none has room, and one less place is wanted then.
use Rattle.std.proofs.Common.{◌≡◌, ℕ, zero, suc, ◌+◌, ◌<◌, ◌≤◌, List, [], ◌∷◌, ◌++◌, refl, sym, ap, ◌∙◌, subst, Bool, true, false, true≢false, eq-eqb, inl, inr, arith}
use Rattle.std.specs.Prelude.{◌==◌, ◌||◌, if◌then◌else◌}
use Rattle.std.proofs.lemmas.Bool.{cases_eq, ne_eqb}
use Rattle.game_model.specs.Game.{DynamicGame, states}
use Rattle.level_table.specs.declared.reason.Note.{Note}
use Rattle.level_table.specs.Notes.{HasRoomFor, Named, NoteList}
use Rattle.schedule_core.specs.Room.{HasRoom, names, unnamed}

names_named : (notes : List Note) (t : ℕ) → names notes t ≡ true → Named notes t
names_named [] t e = absurd (true≢false (sym e))
names_named (note ∷ notes) t e = elim (cases_eq note.state t) [
  | inl is ↦ (0, omega arith, is)
  | inr ne ↦
      let rest = names_named notes t (sym (ap (λ b. b || names notes t) (ne_eqb note.state t ne)) ∙ e) in
      (suc rest.0, (let h = rest.1 in omega arith), rest.2)
]

not_named : (notes : List Note) (t : ℕ) → (Named notes t → ⊥) → names notes t ≡ false
not_named notes t h = by_bool (names notes t) refl
  where
    by_bool : (b : Bool) → names notes t ≡ b → b ≡ false
    by_bool true e = absurd (h (names_named notes t e))
    by_bool false e = refl

names_more : (notes : List Note) (note : Note) (t : ℕ) → names (notes ++ note ∷ []) t ≡ (names notes t || (note.state == t))
names_more [] note t = by_bool (note.state == t)
  where
    by_bool : (b : Bool) → (b || false) ≡ b
    by_bool true = refl
    by_bool false = refl
names_more (n ∷ notes) note t = ap (λ b. (n.state == t) || b) (names_more notes note t) ∙ assoc (n.state == t) (names notes t) (note.state == t)
  where
    assoc : (a b c : Bool) → (a || (b || c)) ≡ ((a || b) || c)
    assoc true b c = refl
    assoc false b c = refl

abbrev one : Bool → ℕ
one b = if b then 0 else 1

fewer : (a b : Bool) → one (a || b) ≤ one a
fewer true b = omega arith
fewer false true = omega arith
fewer false false = omega arith

unnamed_fewer : (notes : List Note) (note : Note) (n : ℕ) → unnamed (notes ++ note ∷ []) n ≤ unnamed notes n
unnamed_fewer notes note zero = omega arith
unnamed_fewer notes note (suc n) =
    let rest = unnamed_fewer notes note n in
    let here = subst (λ b. one b ≤ one (names notes n)) (sym (names_more notes note n)) (fewer (names notes n) (note.state == n)) in
    omega arith

-- a new note takes one away
unnamed_less : (notes : List Note) (note : Note) (n : ℕ) → note.state < n → names notes note.state ≡ false → unnamed (notes ++ note ∷ []) n + 1 ≤ unnamed notes n
unnamed_less notes note zero below e = absurd (omega arith)
unnamed_less notes note (suc n) below e = elim (cases_eq note.state n) [
  | inl is ↦
      let rest = unnamed_fewer notes note n in
      let old : names notes n ≡ false = subst (λ t. names notes t ≡ false) is e in
      let new : names (notes ++ note ∷ []) n ≡ true = names_more notes note n ∙ (ap (λ b. b || (note.state == n)) old ∙ eq-eqb note.state n is) in
      let a : one (names notes n) ≡ 1 = ap one old in
      let b : one (names (notes ++ note ∷ []) n) ≡ 0 = ap one new in
      omega arith
  | inr ne ↦
      let rest = unnamed_less notes note n (omega arith) e in
      let here = subst (λ b. one b ≤ one (names notes n)) (sym (names_more notes note n)) (fewer (names notes n) (note.state == n)) in
      omega arith
]

pub room_for : (g : DynamicGame) (notes : NoteList) (note : Note) → HasRoom g notes → note.state < states g → (Named notes.list note.state → ⊥) → 0 < notes.spare
room_for g notes note room known new =
    let less = unnamed_less notes.list note (states g) known (not_named notes.list note.state new) in
    let free = room.free in omega arith

pub room_after : (g : DynamicGame) (notes : NoteList) (note : Note) (after : NoteList) → HasRoom g notes → note.state < states g → (Named notes.list note.state → ⊥)
    → after.list ≡ notes.list ++ note ∷ [] → after.spare + 1 ≡ notes.spare → after.each ≡ notes.each → HasRoom g after
room_after g notes note after room known new list spare each =
    let less = unnamed_less notes.list note (states g) known (not_named notes.list note.state new) in
    let free = room.free in record {
      free = let h : unnamed after.list (states g) ≡ unnamed (notes.list ++ note ∷ []) (states g) = ap (λ (ns : List Note). unnamed ns (states g)) list in omega arith;
      each = subst (HasRoomFor g) (sym each) room.each;
    }

unnamed_at_most : (notes : List Note) (n : ℕ) → unnamed notes n ≤ n
unnamed_at_most notes zero = omega arith
unnamed_at_most notes (suc n) = let rest = unnamed_at_most notes n in let here = at_most_one (names notes n) in omega arith
  where
    at_most_one : (b : Bool) → one b ≤ 1
    at_most_one true = omega arith
    at_most_one false = omega arith

pub fresh_room : (g : DynamicGame) (notes : NoteList) → notes.spare ≡ states g → HasRoomFor g notes.each → HasRoom g notes
fresh_room g notes spare each = record { free = let h = unnamed_at_most notes.list (states g) in omega arith; each = each }
