-- Rows of a profile's program as items, and the sums of their multiples.
use Rattle.std.proofs.Common.{◌≡◌, ◌≢◌, inl, inr, ℕ, zero, suc, ◌*◌, ◌<◌, List, [], ◌∷◌, ◌++◌, length, refl, ap, sym, ◌∙◌, subst, arith}
use Rattle.std.specs.Prelude.{ℤ, pos, ◌+ℤ◌, ◌-ℤ◌, ◌*ℤ◌, ◌≤ℤ◌, ◌<ℤ◌, neg_ℤ, All, Some, None, if◌then◌else◌, slice_index_or}
use Rattle.std.proofs.lemmas.Int.{ints}
use Rattle.std.proofs.lemmas.Bool.{cases_eq, cases_lt, eq-eqb, ne_eqb}
use Rattle.std.proofs.lemmas.List.Elements.{All-nil, All-cons, All-head, All-tail}
use Rattle.bound_laws.proofs.Directions.{part-minus_axis_same, part-minus_axis_other}
use Rattle.game_model.specs.Game.{reached}
use Rattle.game_model.specs.SelfGeneration.{part}
use Rattle.level_table.specs.declared.level.Level.TheVariants.{At}
use Rattle.level_table.specs.declared.reason.Item.{Item}
use Rattle.level_table.specs.declared.reason.Item.TheVariants as items
use Rattle.level_table.specs.Problem.{Problem, IsProblem, direction_count, direction, plus_axis, minus_axis, gain}
use Rattle.level_table.specs.Levels.{Levels}
use Rattle.level_table.specs.Notes.{IsItem, coefficient, right_side, multiplier, levels_of, added_coefficients, added_right_sides}
use Rattle.level_table.specs.Reasons.{IsProgramCertificate, IsProgramRow, IsGainRow}
use Rattle.level_table.proofs.Numbers.{number_at}
use Rattle.lp_cert.specs.Program.{Program, row_at, entry}
use Rattle.lp_cert.specs.Certificate.{ProvesEmpty, entry_sum, side_sum}
use Rattle.set_operator.specs.declared.boxes.ProfileBox.{ProfileBox}
use Rattle.set_operator.specs.Boxes.{IsBoxOf, IsSource, side_at}
use Rattle.set_operator.specs.Program.{AreItemsOf, IsItemOf, IsProgramOf}
use Rattle.set_operator.proofs.Programs.{by_axis}

turned : (g y x l : ℤ) → x ≡ l → l ≤ℤ (y -ℤ g) → (g -ℤ y) ≤ℤ neg_ℤ x
turned g y x l e h = omega (arith, ints)

less : (g x w l : ℤ) → l ≡ x -ℤ g → l <ℤ w → neg_ℤ w <ℤ (g -ℤ x)
less g x w l e h = omega (arith, ints)

-- ---- a level
-- the right side of row k, where no deviation gives it, is the next state's level
level_right : (p : Problem) (t : Levels) (b : ProfileBox) (k : ℕ) (x : ℤ) (rows : Program) → IsBoxOf p t b → k < direction_count p → t b.next k ≡ At x
    → ((i : ℕ) → i < p.game.players → k ≡ minus_axis i → (side_at b i).by ≡ None) → IsProgramOf p t b rows → x ≡ (row_at rows k).h
level_right p t b k x rows box within at none prog =
    elim (cases_lt k (2 * p.game.players)) [
      | inl axis ↦ by_axis (λ j. j ≡ k → x ≡ (row_at rows j).h) p.game.players
          (λ i w e. number_at x (side_at b i).upper (sym at ∙ ap (λ j. t b.next j) (sym e) ∙ ap (λ s. t s (plus_axis i)) box.next ∙ (box.sides i w).upper) ∙ sym (prog.upper i w))
          (λ i w e. number_at x (side_at b i).lower (sym at ∙ ap (λ j. t b.next j) (sym e) ∙ ap (λ s. t s (minus_axis i)) box.next
          ∙ (subst (λ o. IsSource p t b.state b.profile i (side_at b i).lower o) (none i w (sym e)) (box.sides i w).source).0) ∙ sym (prog.lower i w))
          k axis refl
      | inr past ↦ number_at x (row_at rows k).h (sym at ∙ prog.others k past within)
    ]

pub item_level : (p : Problem) (t : Levels) (b : ProfileBox) (k : ℕ) (x times : ℤ) → IsBoxOf p t b → k < direction_count p → t b.next k ≡ At x
    → ((i : ℕ) → i < p.game.players → k ≡ minus_axis i → (side_at b i).by ≡ None) → IsItemOf p t b k times (items.Level k x times)
item_level p t b k x times box within at none = record {
  times_is = refl;
  coefficients = λ j w. refl;
  right = λ rows prog. level_right p t b k x rows box within at none prog;
  kept = (within, ap (λ s. t s k) (sym box.next) ∙ at);
  program_row = λ i c y e d kept.
      let source = subst (λ o. IsSource p t b.state b.profile i (side_at b i).lower o) (none i d.player e) (box.sides i d.player).source in
      let lower_is : x ≡ (side_at b i).lower = number_at x (side_at b i).lower (sym at ∙ ap (λ j. t b.next j) e ∙ ap (λ s. t s (minus_axis i)) box.next ∙ source.0) in
      let asks : (side_at b i).lower ≤ℤ (y -ℤ gain p b.state b.profile i c) = source.1 c y d kept in
      turned (gain p b.state b.profile i c) y x (side_at b i).lower lower_is asks;
}

-- ---- a deviation
gain_coefficient : (p : Problem) (i st j : ℕ) (x times : ℤ) → IsProblem p → i < p.game.players → coefficient p (items.Gain i st x times) j ≡ part (direction p (minus_axis i)) j
gain_coefficient p i st j x times ok player = elim (cases_eq i j) [
  | inl same ↦ ap (λ v. if v then neg_ℤ (pos 1) else pos 0) (eq-eqb i j same) ∙ subst (λ m. neg_ℤ (pos 1) ≡ part (direction p (minus_axis i)) m) same (sym (part-minus_axis_same p i ok player))
  | inr other ↦ (let ne : i ≢ j = other in
      ap (λ v. if v then neg_ℤ (pos 1) else pos 0) (ne_eqb i j ne) ∙ sym (part-minus_axis_other p i j ok player (λ e. ne (sym e))))
]

pub item_gain : (p : Problem) (t : Levels) (b : ProfileBox) (i st : ℕ) (x times : ℤ) → IsProblem p → IsBoxOf p t b → i < p.game.players → (side_at b i).by ≡ Some st
    → t (reached p.game b.state b.profile i st) (minus_axis i) ≡ At x → IsItemOf p t b (minus_axis i) times (items.Gain i st x times)
item_gain p t b i st x times ok box player by kept =
    let source = subst (λ o. IsSource p t b.state b.profile i (side_at b i).lower o) by (box.sides i player).source in
    let gained : IsGainRow p t b.state b.profile i st source.0 = source.1 in
    let is : source.0 ≡ x = number_at source.0 x (sym gained.kept ∙ kept) in
    let lower_is : (side_at b i).lower ≡ x -ℤ gain p b.state b.profile i st = source.2 ∙ ap (λ z. z -ℤ gain p b.state b.profile i st) is in
    record {
      times_is = refl;
      coefficients = λ j w. gain_coefficient p i st j x times ok player;
      right = λ rows prog. sym (prog.lower i player ∙ lower_is);
      kept = (gained.deviation, kept);
      program_row = (
        subst (λ z. IsGainRow p t b.state b.profile i st z) is gained,
        λ w e. less (gain p b.state b.profile i st) x w (side_at b i).lower lower_is (source.3 w e),
      );
    }

-- ---- lists of items
pub items_more : (p : Problem) (t : Levels) (b : ProfileBox) (ms : List (ℕ × ℤ)) (list : List Item) (m : ℕ × ℤ) (item : Item)
    → AreItemsOf p t b ms list → IsItemOf p t b m.0 m.1 item → AreItemsOf p t b (ms ++ m ∷ []) (list ++ item ∷ [])
items_more p t b [] [] m item h k = (k, tt)
items_more p t b [] (x ∷ list) m item h k = absurd h
items_more p t b (n ∷ ms) [] m item h k = absurd h
items_more p t b (n ∷ ms) (x ∷ list) m item h k = (h.0, items_more p t b ms list m item h.1 k)

added_is : (p : Problem) (t : Levels) (b : ProfileBox) (rows : Program) (j : ℕ) (ms : List (ℕ × ℤ)) (list : List Item) → IsProgramOf p t b rows → j < p.game.players
    → All (λ m. m.0 < direction_count p) ms → AreItemsOf p t b ms list → added_coefficients p j list ≡ entry_sum rows ms j
added_is p t b rows j [] [] prog player within h = refl
added_is p t b rows j [] (x ∷ list) prog player within h = absurd h
added_is p t b rows j (m ∷ ms) [] prog player within h = absurd h
added_is p t b rows j (m ∷ ms) (x ∷ list) prog player within h =
    let here : IsItemOf p t b m.0 m.1 x = h.0 in
    let known : m.0 < direction_count p = All-head (λ n. n.0 < direction_count p) m ms within in
    let rest : added_coefficients p j list ≡ entry_sum rows ms j = added_is p t b rows j ms list prog player (All-tail (λ n. n.0 < direction_count p) m ms within) h.1 in
    ap (λ z. (z *ℤ coefficient p x j) +ℤ added_coefficients p j list) here.times_is
    ∙ ap (λ z. (m.1 *ℤ z) +ℤ added_coefficients p j list) (here.coefficients j player ∙ ap (λ c. part c j) (sym (prog.coefficients m.0 known)))
    ∙ ap (λ z. (m.1 *ℤ entry (row_at rows m.0).c j) +ℤ z) rest

sides_are : (p : Problem) (t : Levels) (b : ProfileBox) (rows : Program) (ms : List (ℕ × ℤ)) (list : List Item) → IsProgramOf p t b rows
    → AreItemsOf p t b ms list → added_right_sides p b.state b.profile list ≡ side_sum rows ms
sides_are p t b rows [] [] prog h = refl
sides_are p t b rows [] (x ∷ list) prog h = absurd h
sides_are p t b rows (m ∷ ms) [] prog h = absurd h
sides_are p t b rows (m ∷ ms) (x ∷ list) prog h =
    let here : IsItemOf p t b m.0 m.1 x = h.0 in
    let rest : added_right_sides p b.state b.profile list ≡ side_sum rows ms = sides_are p t b rows ms list prog h.1 in
    ap (λ z. (z *ℤ right_side p b.state b.profile x) +ℤ added_right_sides p b.state b.profile list) here.times_is
    ∙ ap (λ z. (m.1 *ℤ z) +ℤ added_right_sides p b.state b.profile list) (here.right rows prog)
    ∙ ap (λ z. (m.1 *ℤ (row_at rows m.0).h) +ℤ z) rest

each_kept : (p : Problem) (t : Levels) (b : ProfileBox) (ms : List (ℕ × ℤ)) (list : List Item) → AreItemsOf p t b ms list
    → (l : ℕ) → l < length list → IsItem p (levels_of t) b.state b.profile (slice_index_or list l (items.Level 0 (pos 0) (pos 0)))
each_kept p t b [] [] h l within = absurd (omega arith)
each_kept p t b [] (x ∷ list) h l within = absurd h
each_kept p t b (m ∷ ms) [] h l within = absurd h
each_kept p t b (m ∷ ms) (x ∷ list) h zero within = (h.0).kept
each_kept p t b (m ∷ ms) (x ∷ list) h (suc l) within = each_kept p t b ms list h.1 l (omega arith)

each_row : (p : Problem) (t : Levels) (b : ProfileBox) (ms : List (ℕ × ℤ)) (list : List Item) → AreItemsOf p t b ms list → All (IsProgramRow p t b.state b.profile) list
each_row p t b [] [] h = All-nil (IsProgramRow p t b.state b.profile)
each_row p t b [] (x ∷ list) h = absurd h
each_row p t b (m ∷ ms) [] h = absurd h
each_row p t b (m ∷ ms) (x ∷ list) h = All-cons (IsProgramRow p t b.state b.profile) x list (h.0).program_row (each_row p t b ms list h.1)

each_sign : (p : Problem) (t : Levels) (b : ProfileBox) (ms : List (ℕ × ℤ)) (list : List Item) → All (λ m. pos 0 ≤ℤ m.1) ms → AreItemsOf p t b ms list → All (λ item. pos 0 ≤ℤ multiplier item) list
each_sign p t b [] [] signs h = All-nil (λ item. pos 0 ≤ℤ multiplier item)
each_sign p t b [] (x ∷ list) signs h = absurd h
each_sign p t b (m ∷ ms) [] signs h = absurd h
each_sign p t b (m ∷ ms) (x ∷ list) signs h =
    All-cons (λ item. pos 0 ≤ℤ multiplier item) x list
    (subst (λ z. pos 0 ≤ℤ z) (sym (h.0).times_is) (All-head (λ n. pos 0 ≤ℤ n.1) m ms signs))
    (each_sign p t b ms list (All-tail (λ n. pos 0 ≤ℤ n.1) m ms signs) h.1)

-- what proves the rows empty is a certificate
pub certificate_from : (p : Problem) (t : Levels) (b : ProfileBox) (rows : Program) (ms : List (ℕ × ℤ)) (list : List Item) → IsProblem p → IsProgramOf p t b rows
    → ProvesEmpty rows ms → AreItemsOf p t b ms list → IsProgramCertificate p t b.state b.profile list
certificate_from p t b rows ms list ok prog empty h =
    let within : All (λ m. m.0 < direction_count p) ms = subst (λ n. All (λ m. m.0 < n) ms) prog.one_each empty.weights.rows in
    record {
      certificate = record {
        rows = each_kept p t b ms list h;
        nonnegative = each_sign p t b ms list empty.weights.not_negative h;
        cancel = λ j player. added_is p t b rows j ms list prog player within h ∙ empty.entries j (omega (arith, ok.directions.at_most_three_players));
        negative = subst (λ z. z <ℤ pos 0) (sym (sides_are p t b rows ms list prog h)) empty.side;
      };
      program_rows = each_row p t b ms list h;
    }
