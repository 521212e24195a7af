-- Under right notes, every supported table is Empty in each named state.
use Rattle.std.proofs.Common.{◌≡◌, ◌≢◌, ◌⊎◌, inl, inr, ℕ, zero, suc, ◌<◌, ◌≤◌, List, [], ◌∷◌, ◌++◌, length, take, get_or, refl, ap, sym, ◌∙◌, subst, arith, eq-eqb}
use Rattle.std.specs.Prelude.{ℤ, pos, ◌+ℤ◌, ◌-ℤ◌, ◌*ℤ◌, ◌≤ℤ◌, ◌<ℤ◌, neg_ℤ, if◌then◌else◌, ◌==◌}
use Rattle.std.proofs.lemmas.Int.{ints}
use Rattle.std.proofs.lemmas.Bool.{cases_eq, ne_eqb}
use Rattle.std.proofs.lemmas.List.{get_or-take, length-take, length-append, take-append-le, get_or_append_left, get_or_push}
use Rattle.std.proofs.Math.Seq.{take-append_seam}
use Rattle.std.proofs.lemmas.List.Elements.{All-get_or}
use Rattle.exact_algebra.specs.Poly.{var, neg, ◌⊕◌, ◌⊖◌, ◌⊗◌}
use Rattle.exact_algebra.proofs.Normal.{ring}
use Rattle.exact_algebra.proofs.Order.{at_most_self, plus_at_most, times_at_most, times_below, times_swap}
use Rattle.game_model.specs.Game.{states, counts, profile_count, successor, reached}
use Rattle.game_model.specs.SelfGeneration.{HasNoEntry, part, sum_below, dot}
use Rattle.level_table.specs.declared.level.Level.{Level}
use Rattle.level_table.specs.declared.level.Level.TheVariants.{Empty, At}
use Rattle.level_table.specs.declared.reason.Item.{Item}
use Rattle.level_table.specs.declared.reason.Item.TheVariants as items
use Rattle.level_table.specs.declared.reason.Reason.{Reason}
use Rattle.level_table.specs.declared.reason.Reason.TheVariants as reasons
use Rattle.level_table.specs.Problem.{Problem, direction_count, direction, minus_axis, gain, IsProblem}
use Rattle.level_table.specs.Levels.{Levels, AtMost, IsBelow, IsNumber, IsRow}
use Rattle.level_table.specs.Operator.{Fractions, Admissible, HasValueAbove}
use Rattle.level_table.specs.Supported.{IsSupported}
use Rattle.level_table.specs.Start.{IsAboveSupported}
use Rattle.level_table.specs.declared.reason.Note.{Note}
use Rattle.level_table.specs.Notes.{Keeps, coefficient, right_side, multiplier, IsItem, added_coefficients, added_right_sides, IsCertificate, no_note, Named, IsReason, IsNote, AreNotes, levels_of, bounding}
use Rattle.bound_laws.specs.Laws.{HasBounds, HasKeptAbove, KeepsSupported}
use Rattle.bound_laws.specs.TableOf.{IsLevelOf}
use Rattle.bound_laws.proofs.Bounding.{above_supported_bounds}
use Rattle.bound_laws.proofs.Correspondence.{table_exists, table_is_supported, at_most_bound}
use Rattle.bound_laws.proofs.Levels.{number_at_most}
use Rattle.bound_laws.proofs.Order.{at_most_along, at_most_negated, below_along, loosen, minus_times, nought_times, times_nought, widen}
use Rattle.bound_laws.proofs.Places.{next_state, reached_state, minus_axis_known}
use Rattle.bound_laws.proofs.Sums.{sum_below-same, sum_below-times, sum_below-plus, sum_below-zero, sum_below-one}

-- each kept level is at least the table's
abbrev KeepsAbove : Problem → Keeps → Levels → Type 0
KeepsAbove p keeps u = (s k : ℕ) (x : ℤ) → IsRow p s k → keeps s k x → AtMost (u s k) (At x)

-- ---- what an item says of an admissible vector
abbrev item_sum : Problem → Fractions → Item → ℤ
item_sum p y item = sum_below (λ j. coefficient p item j *ℤ part y.numerators j) p.game.players

gain_sum : (p : Problem) (y : Fractions) (i b : ℕ) (x times : ℤ) → i < p.game.players → item_sum p y (items.Gain i b x times) ≡ neg_ℤ (part y.numerators i)
gain_sum p y i b x times player =
    sum_below-one (λ j. (if i == j then neg_ℤ (pos 1) else pos 0) *ℤ part y.numerators j) p.game.players i player
    (λ j within other.
    ap (λ t. (if t then neg_ℤ (pos 1) else pos 0) *ℤ part y.numerators j) (ne_eqb i j (λ e. other (sym e)))
    ∙ nought_times (part y.numerators j))
    ∙ ap (λ t. (if t then neg_ℤ (pos 1) else pos 0) *ℤ part y.numerators i) (eq-eqb i i refl)
    ∙ minus_times (part y.numerators i)

-- a deviation's condition, turned round
turned_gain : (g x d n : ℤ) → ((g -ℤ x) *ℤ d) ≤ℤ n → neg_ℤ n ≤ℤ ((x -ℤ g) *ℤ d)
turned_gain g x d n h =
    at_most_along refl (ring (g ∷ x ∷ d ∷ []) (neg ((var 0 ⊖ var 1) ⊗ var 2)) ((var 1 ⊖ var 0) ⊗ var 2) refl) (at_most_negated ((g -ℤ x) *ℤ d) n h)

item_holds : (p : Problem) (keeps : Keeps) (u : Levels) (s a : ℕ) (y : Fractions) (item : Item) → IsProblem p → KeepsAbove p keeps u → s < states p.game → a < profile_count (counts p.game s)
    → Admissible p u s a y → IsItem p keeps s a item → item_sum p y item ≤ℤ (right_side p s a item *ℤ y.denominator)
item_holds p keeps u s a y (items.Level k x times) ok kept state profile h row =
    let next : successor p.game s a < states p.game = next_state p.game s a ok.game state profile in
    let f = number_at_most (u (successor p.game s a) k) (At x) x (kept (successor p.game s a) k x (record { state = next; direction = row.0 }) row.1) refl (h.next_known k row.0) in
    widen y.denominator (dot p.game.players (direction p k) y.numerators) f.0 x h.positive f.2 (h.half_planes k f.0 row.0 f.1)
item_holds p keeps u s a y (items.Gain i b x times) ok kept state profile h row =
    let there : reached p.game s a i b < states p.game = reached_state p.game s a i b ok.game state profile row.0 in
    let within : minus_axis i < direction_count p = minus_axis_known p i ok row.0.player in
    let f = number_at_most (u (reached p.game s a i b) (minus_axis i)) (At x) x (kept (reached p.game s a i b) (minus_axis i) x (record { state = there; direction = within }) row.1) refl (h.reached_known i b (minus_axis i) row.0 within) in
    subst (λ z. z ≤ℤ ((x -ℤ gain p s a i b) *ℤ y.denominator)) (sym (gain_sum p y i b x times row.0.player))
    (turned_gain (gain p s a i b) x y.denominator (part y.numerators i)
    (loosen y.denominator (part y.numerators i) (gain p s a i b) f.0 x h.positive f.2 (h.incentives i b f.0 row.0 f.1)))

-- ---- what they add up to
abbrev added_sum : Problem → Fractions → List Item → ℤ
added_sum p y list = sum_below (λ j. added_coefficients p j list *ℤ part y.numerators j) p.game.players

added_sum-cons : (p : Problem) (y : Fractions) (item : Item) (rest : List Item)
    → added_sum p y (item ∷ rest) ≡ (multiplier item *ℤ item_sum p y item) +ℤ added_sum p y rest
added_sum-cons p y item rest =
    let first = λ (j : ℕ). coefficient p item j *ℤ part y.numerators j in
    let others = λ (j : ℕ). added_coefficients p j rest *ℤ part y.numerators j in
    sum_below-same (λ j. added_coefficients p j (item ∷ rest) *ℤ part y.numerators j) (λ j. (multiplier item *ℤ first j) +ℤ others j) p.game.players
    (λ j within. ring (multiplier item ∷ coefficient p item j ∷ added_coefficients p j rest ∷ part y.numerators j ∷ []) (((var 0 ⊗ var 1) ⊕ var 2) ⊗ var 3) ((var 0 ⊗ (var 1 ⊗ var 3)) ⊕ (var 2 ⊗ var 3)) refl)
    ∙ sum_below-plus (λ j. multiplier item *ℤ first j) others p.game.players
    ∙ ap (λ z. z +ℤ added_sum p y rest) (sum_below-times (multiplier item) first p.game.players)

abbrev item_at : List Item → ℕ → Item
item_at list l = get_or list l (items.Level 0 (pos 0) (pos 0))

-- each row of the list holds at the vector, and its multiplier is not negative
record IsSound (p : Problem) (s a : ℕ) (y : Fractions) (list : List Item) : Type 0 where
  holds : (l : ℕ) → l < length list → item_sum p y (item_at list l) ≤ℤ (right_side p s a (item_at list l) *ℤ y.denominator)
  nonnegative : (l : ℕ) → l < length list → pos 0 ≤ℤ multiplier (item_at list l)

sound_rest : (p : Problem) (s a : ℕ) (y : Fractions) (item : Item) (rest : List Item) → IsSound p s a y (item ∷ rest) → IsSound p s a y rest
sound_rest p s a y item rest h =
    record { holds = λ l within. h.holds (suc l) (omega arith); nonnegative = λ l within. h.nonnegative (suc l) (omega arith) }

added_sum_at_most : (p : Problem) (s a : ℕ) (y : Fractions) (list : List Item) → IsSound p s a y list → added_sum p y list ≤ℤ (added_right_sides p s a list *ℤ y.denominator)
added_sum_at_most p s a y [] h =
    at_most_along
    (sym (sum_below-zero (λ j. pos 0 *ℤ part y.numerators j) p.game.players (λ j within. nought_times (part y.numerators j))))
    (sym (nought_times y.denominator))
    (at_most_self (pos 0))
added_sum_at_most p s a y (item ∷ rest) h =
    let right : ℤ = right_side p s a item in
    at_most_along (sym (added_sum-cons p y item rest))
    (ring (multiplier item ∷ right ∷ y.denominator ∷ added_right_sides p s a rest ∷ []) ((var 0 ⊗ (var 1 ⊗ var 2)) ⊕ (var 3 ⊗ var 2)) (((var 0 ⊗ var 1) ⊕ var 3) ⊗ var 2) refl)
    (plus_at_most (multiplier item *ℤ item_sum p y item) (multiplier item *ℤ (right *ℤ y.denominator)) (added_sum p y rest) (added_right_sides p s a rest *ℤ y.denominator)
    (times_at_most (multiplier item) (item_sum p y item) (right *ℤ y.denominator) (h.nonnegative 0 (omega arith)) (h.holds 0 (omega arith)))
    (added_sum_at_most p s a y rest (sound_rest p s a y item rest h)))

contrary : (v : ℤ) → pos 0 ≤ℤ v → v <ℤ pos 0 → ⊥
contrary v h k = omega (arith, ints)

negative_product : (r d : ℤ) → pos 0 <ℤ d → r <ℤ pos 0 → (r *ℤ d) <ℤ pos 0
negative_product r d positive negative = below_along (times_swap d r) (times_nought d) (times_below d r (pos 0) positive negative)

certificate_refutes : (p : Problem) (keeps : Keeps) (u : Levels) (s a : ℕ) (y : Fractions) (list : List Item) → IsProblem p → KeepsAbove p keeps u → s < states p.game → a < profile_count (counts p.game s)
    → Admissible p u s a y → IsCertificate p keeps s a list → ⊥
certificate_refutes p keeps u s a y list ok kept state profile h certificate =
    let sound : IsSound p s a y list = record {
      holds = λ l within. item_holds p keeps u s a y (item_at list l) ok kept state profile h (certificate.rows l within);
      nonnegative = λ l within. All-get_or (λ item. pos 0 ≤ℤ multiplier item) list l (items.Level 0 (pos 0) (pos 0)) within certificate.nonnegative;
    } in
    let cancelled : added_sum p y list ≡ pos 0 = sum_below-zero (λ j. added_coefficients p j list *ℤ part y.numerators j) p.game.players
    (λ j within. ap (λ z. z *ℤ part y.numerators j) (certificate.cancel j within) ∙ nought_times (part y.numerators j)) in
    contrary (added_right_sides p s a list *ℤ y.denominator)
    (at_most_along cancelled refl (added_sum_at_most p s a y list sound))
    (negative_product (added_right_sides p s a list) y.denominator h.positive certificate.negative)

-- ---- reasons and notes
abbrev IsEmptyWhereNamed : Problem → Levels → List Note → Type 0
IsEmptyWhereNamed p u notes = (t : ℕ) → Named notes t → (k : ℕ) → k < direction_count p → u t k ≡ Empty

pub first_direction : (p : Problem) → IsProblem p → 0 < direction_count p
first_direction p ok = omega (arith, ok.directions.has_axes, ok.directions.at_least_two_players)

reason_refutes : (p : Problem) (keeps : Keeps) (u : Levels) (earlier : List Note) (s a : ℕ) (y : Fractions) (reason : Reason) → IsProblem p → KeepsAbove p keeps u → IsEmptyWhereNamed p u earlier
    → s < states p.game → a < profile_count (counts p.game s) → Admissible p u s a y → IsReason p keeps earlier s a reason → ⊥
reason_refutes p keeps u earlier s a y (reasons.Successor t) ok kept empty state profile h reason =
    let named : Named earlier (successor p.game s a) = subst (Named earlier) reason.0 reason.1 in
    subst IsNumber (empty (successor p.game s a) named 0 (first_direction p ok)) (h.next_known 0 (first_direction p ok))
reason_refutes p keeps u earlier s a y (reasons.Deviation i b t) ok kept empty state profile h reason =
    let named : Named earlier (reached p.game s a i b) = subst (Named earlier) reason.2 reason.3 in
    subst IsNumber (empty (reached p.game s a i b) named 0 (first_direction p ok)) (h.reached_known i b 0 reason.1 (first_direction p ok))
reason_refutes p keeps u earlier s a y (reasons.Farkas list) ok kept empty state profile h reason =
    certificate_refutes p keeps u s a y list ok kept state profile h reason.2

note_empties : (p : Problem) (keeps : Keeps) (u : Levels) (earlier : List Note) (note : Note) → IsProblem p → IsSupported p u 1 → KeepsAbove p keeps u → IsEmptyWhereNamed p u earlier
    → IsNote p keeps earlier note → (k : ℕ) → k < direction_count p → u note.state k ≡ Empty
note_empties p keeps u earlier note ok supported kept empty right k within = at (u note.state k) refl
  where
    at : (l : Level) → u note.state k ≡ l → l ≡ Empty
    at Empty e = refl
    at (At x) e =
        let top : HasValueAbove p u note.state k (x -ℤ pos 1) = supported.supports note.state k x (record { state = right.known; direction = within }) e in
        let within : top.profile < length note.reasons.list = (let one : length note.reasons.list ≡ profile_count (counts p.game note.state) = right.one_each in let known : top.profile < profile_count (counts p.game note.state) = top.known in omega arith) in
        absurd (reason_refutes p keeps u earlier note.state top.profile top.vector (get_or note.reasons.list top.profile (reasons.Successor 0)) ok kept empty right.known top.known top.admissible (right.reasons top.profile within))

-- what holds of all notes before one holds of what is named before it
named_before : (p : Problem) (u : Levels) (notes : List Note) (l : ℕ) → ((j : ℕ) → j < l → j < length notes → (k : ℕ) → k < direction_count p → u (get_or notes j no_note).state k ≡ Empty)
    → IsEmptyWhereNamed p u (take l notes)
named_before p u notes l before t named k within =
    let inside : named.0 < length (take l notes) = named.1 in
    let earlier : named.0 < l = omega (arith, length-take l notes) in
    let known : named.0 < length notes = omega (arith, length-take l notes) in
    let same : (get_or notes named.0 no_note).state ≡ t = ap (λ (n : Note). n.state) (sym (get_or-take l notes named.0 no_note earlier)) ∙ named.2 in
    subst (λ (r : ℕ). u r k ≡ Empty) same (before named.0 earlier known k within)

notes_empty_below : (p : Problem) (keeps : Keeps) (u : Levels) (notes : List Note) → IsProblem p → IsSupported p u 1 → KeepsAbove p keeps u → AreNotes p keeps notes
    → (n l : ℕ) → l < n → l < length notes → (k : ℕ) → k < direction_count p → u (get_or notes l no_note).state k ≡ Empty
notes_empty_below p keeps u notes ok supported kept right zero l below known k within = absurd (omega arith)
notes_empty_below p keeps u notes ok supported kept right (suc n) l below known k within =
    note_empties p keeps u (take l notes) (get_or notes l no_note) ok supported kept
    (named_before p u notes l (λ j earlier inside. notes_empty_below p keeps u notes ok supported kept right n j (omega arith) inside))
    (right l known) k within

empty_where_named : (p : Problem) (keeps : Keeps) (u : Levels) (notes : List Note) (s k : ℕ) → IsProblem p → IsSupported p u 1 → KeepsAbove p keeps u → AreNotes p keeps notes
    → Named notes s → k < direction_count p → u s k ≡ Empty
empty_where_named p keeps u notes s k ok supported kept right named within =
    subst (λ (r : ℕ). u r k ≡ Empty) named.2 (notes_empty_below p keeps u notes ok supported kept right (suc named.0) named.0 (omega arith) named.1 k within)

-- ---- the three uses
pub notes_of_start : (p : Problem) (start u : Levels) (notes : List Note) (s k : ℕ) → IsProblem p → HasKeptAbove p start notes
    → IsBelow p u start → IsSupported p u 1 → Named notes s → k < direction_count p → u s k ≡ Empty
notes_of_start p start u notes s k ok right below supported named within =
    empty_where_named p (λ r j x. IsAboveSupported p start r j (At x)) u notes s k ok supported (λ r j x row above. above u below supported) right named within

pub notes_of_table : (p : Problem) (t u : Levels) (notes : List Note) (s k : ℕ) → IsProblem p → AreNotes p (levels_of t) notes
    → IsBelow p u t → IsSupported p u 1 → Named notes s → k < direction_count p → u s k ≡ Empty
notes_of_table p t u notes s k ok right below supported named within =
    empty_where_named p (levels_of t) u notes s k ok supported (λ r j x row e. subst (AtMost (u r j)) e (below r j row)) right named within

pub notes_of_bounds : (p : Problem) (notes : List Note) (s : ℕ) → IsProblem p → AreNotes p (bounding p) notes → Named notes s → HasNoEntry p.game s
notes_of_bounds p notes s ok right named c self =
    let t = table_exists p c ok self in
    let state : s < states p.game = subst (λ (r : ℕ). r < states p.game) named.2 (right named.0 named.1).known in
    let empty : t.0 s 0 ≡ Empty = empty_where_named p (bounding p) t.0 notes s 0 ok (table_is_supported p c t.0 ok self t.1)
    (λ r j x row bound. at_most_bound p c r j (t.0 r j) (At x) ok self (t.1 r j row) bound) right named (first_direction p ok) in
    subst (IsLevelOf p c s 0) empty (t.1 s 0 (record { state = state; direction = first_direction p ok }))

-- ---- notes with other kept levels
abbrev IsWeaker : Problem → Keeps → Keeps → Type 0
IsWeaker p keeps weaker = (s k : ℕ) (x : ℤ) → IsRow p s k → keeps s k x → weaker s k x

item_under : (p : Problem) (keeps weaker : Keeps) (s a : ℕ) (item : Item) → IsProblem p → IsWeaker p keeps weaker → s < states p.game → a < profile_count (counts p.game s)
    → IsItem p keeps s a item → IsItem p weaker s a item
item_under p keeps weaker s a (items.Level k x times) ok less state profile h =
    (h.0, less (successor p.game s a) k x (record { state = next_state p.game s a ok.game state profile; direction = h.0 }) h.1)
item_under p keeps weaker s a (items.Gain i b x times) ok less state profile h =
    (h.0, less (reached p.game s a i b) (minus_axis i) x (record { state = reached_state p.game s a i b ok.game state profile h.0; direction = minus_axis_known p i ok h.0.player }) h.1)

reason_under : (p : Problem) (keeps weaker : Keeps) (earlier : List Note) (s a : ℕ) (reason : Reason) → IsProblem p → IsWeaker p keeps weaker → s < states p.game → a < profile_count (counts p.game s)
    → IsReason p keeps earlier s a reason → IsReason p weaker earlier s a reason
reason_under p keeps weaker earlier s a (reasons.Successor t) ok less state profile h = h
reason_under p keeps weaker earlier s a (reasons.Deviation i b t) ok less state profile h = h
reason_under p keeps weaker earlier s a (reasons.Farkas list) ok less state profile h = (
  h.0,
  h.1,
  record {
    rows = λ l within. item_under p keeps weaker s a (get_or list l (items.Level 0 (pos 0) (pos 0))) ok less state profile (h.2.rows l within);
    nonnegative = h.2.nonnegative;
    cancel = h.2.cancel;
    negative = h.2.negative;
  },
)

note_under : (p : Problem) (keeps weaker : Keeps) (earlier : List Note) (note : Note) → IsProblem p → IsWeaker p keeps weaker → IsNote p keeps earlier note → IsNote p weaker earlier note
note_under p keeps weaker earlier note ok less right =
    record {
      known = right.known;
      new = right.new;
      one_each = right.one_each;
      reasons = λ a inside.
          reason_under p keeps weaker earlier note.state a (get_or note.reasons.list a (reasons.Successor 0)) ok less right.known (omega (arith, right.one_each)) (right.reasons a inside);
    }

pub notes_above_bound : (p : Problem) (start : Levels) (notes : List Note) → IsProblem p → HasBounds p start
    → HasKeptAbove p start notes → AreNotes p (bounding p) notes
notes_above_bound p start notes ok bounds right =
    λ l within. note_under p (λ r j x. IsAboveSupported p start r j (At x)) (bounding p) (take l notes) (get_or notes l no_note) ok
    (λ r j x row above. above_supported_bounds p start r j (At x) ok bounds row above) (right l within)

-- one more note
noted_at : (p : Problem) (start : Levels) (notes : List Note) (note : Note) (l : ℕ) → HasKeptAbove p start notes → IsNote p (λ r j x. IsAboveSupported p start r j (At x)) notes note
    → l < length notes ⊎ (l ≡ length notes) → IsNote p (λ r j x. IsAboveSupported p start r j (At x)) (take l (notes ++ note ∷ [])) (get_or (notes ++ note ∷ []) l no_note)
noted_at p start notes note l old new (inl before) =
    let few : l ≤ length notes = omega arith in
    rw (take-append-le l notes (note ∷ []) few, get_or_append_left notes (note ∷ []) no_note l before) (old l before)
noted_at p start notes note l old new (inr last) =
    subst (λ (n : ℕ). IsNote p (λ r j x. IsAboveSupported p start r j (At x)) (take n (notes ++ note ∷ [])) (get_or (notes ++ note ∷ []) n no_note)) (sym last)
    (rw (take-append_seam notes (note ∷ []), get_or_push notes note no_note (length notes) refl) new)

pub noted : (p : Problem) (start seen : Levels) (notes : List Note) (note : Note) → IsProblem p → KeepsSupported p start seen → HasKeptAbove p start notes
    → IsNote p (levels_of seen) notes note → HasKeptAbove p start (notes ++ note ∷ [])
noted p start seen notes note ok kept old right l within =
    let new : IsNote p (λ r j x. IsAboveSupported p start r j (At x)) notes note =
    note_under p (levels_of seen) (λ r j x. IsAboveSupported p start r j (At x)) notes note ok (λ r j x row is. subst (IsAboveSupported p start r j) is (kept r j row)) right in
    noted_at p start notes note l old new (elim (cases_eq l (length notes)) [
      | inl last ↦ inr last
      | inr other ↦ inl (let ne : l ≢ length notes = other in omega (arith, length-append notes (note ∷ [])))
    ])

pub named_is_kept : (p : Problem) (start : Levels) (notes : List Note) (s k : ℕ) → IsProblem p → HasKeptAbove p start notes → Named notes s → IsRow p s k → IsAboveSupported p start s k Empty
named_is_kept p start notes s k ok right named row u below supported =
    subst (λ l. AtMost l Empty) (sym (notes_of_start p start u notes s k ok right below supported named row.direction)) tt
