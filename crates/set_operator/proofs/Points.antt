-- The points that meet the rows of a profile's program are those that the levels admit after it.
use Rattle.std.proofs.Common.{◌≡◌, inl, inr, ℕ, zero, suc, ◌*◌, ◌<◌, ◌≤◌, List, [], ◌∷◌, length, refl, ap, sym, ◌∙◌, subst, arith}
use Rattle.std.specs.Prelude.{ℤ, pos, ◌+ℤ◌, ◌-ℤ◌, ◌*ℤ◌, ◌≤ℤ◌, ◌<ℤ◌, neg_ℤ, Option, Some, None}
use Rattle.std.proofs.lemmas.Int.{ints}
use Rattle.std.proofs.lemmas.Bool.{cases_lt}
use Rattle.std.proofs.lemmas.List.{get_or_default}
use Rattle.exact_algebra.specs.Poly.{var, lit, neg, ◌⊕◌, ◌⊖◌, ◌⊗◌}
use Rattle.exact_algebra.specs.Sums.{dot}
use Rattle.exact_algebra.proofs.Normal.{ring}
use Rattle.exact_algebra.proofs.Order.{times_at_most, times_swap}
use Rattle.bound_laws.proofs.Order.{at_most_along, widen}
use Rattle.bound_laws.proofs.Directions.{dot-minus_axis}
use Rattle.game_model.specs.Game.{successor, reached, IsDeviation}
use Rattle.game_model.specs.SelfGeneration.{part}
use Rattle.game_model.specs.SelfGeneration.{dot as players_dot}
use Rattle.level_table.specs.declared.level.Level.TheVariants.{At}
use Rattle.level_table.specs.Problem.{Problem, IsProblem, direction_count, direction, plus_axis, minus_axis, gain}
use Rattle.level_table.specs.Levels.{Levels}
use Rattle.level_table.specs.Operator.{Admissible, Fractions}
use Rattle.level_table.proofs.Numbers.{number_at}
use Rattle.lp_cert.specs.Program.{Program, Meets, row_at}
use Rattle.lp_cert.specs.Program.{Point as FractionVector}
use Rattle.set_operator.specs.declared.boxes.ProfileBox.{ProfileBox}
use Rattle.set_operator.specs.Boxes.{IsBoxOf, IsSource, side_at}
use Rattle.set_operator.specs.Program.{IsProgramOf}
use Rattle.set_operator.proofs.Programs.{by_axis, direction_width, direction_unused}

-- ---- vectors
-- the first three parts of a vector, 0 where it has none
abbrev pub first_three : List ℤ → List ℤ
first_three y = part y 0 ∷ part y 1 ∷ part y 2 ∷ []

abbrev pub vector_of : Fractions → FractionVector
vector_of z = record { num = first_three z.numerators; den = z.denominator }

three_two : (c : List ℤ) (y : List ℤ) → length c ≡ 3 → part c 2 ≡ pos 0 → dot c (first_three y) ≡ players_dot 2 c y
three_two (a ∷ b ∷ d ∷ []) y l e =
    ap (λ z. a *ℤ part y 0 +ℤ (b *ℤ part y 1 +ℤ (z *ℤ part y 2 +ℤ pos 0))) e
    ∙ ring (a ∷ b ∷ part y 0 ∷ part y 1 ∷ part y 2 ∷ []) (var 0 ⊗ var 2 ⊕ (var 1 ⊗ var 3 ⊕ (lit (pos 0) ⊗ var 4 ⊕ lit (pos 0)))) ((lit (pos 0) ⊕ var 0 ⊗ var 2) ⊕ var 1 ⊗ var 3) refl
three_two [] y l e = absurd (omega arith)
three_two (a ∷ []) y l e = absurd (omega arith)
three_two (a ∷ b ∷ []) y l e = absurd (omega arith)
three_two (a ∷ b ∷ d ∷ f ∷ c) y l e = absurd (omega arith)

three_three : (c : List ℤ) (y : List ℤ) → length c ≡ 3 → dot c (first_three y) ≡ players_dot 3 c y
three_three (a ∷ b ∷ d ∷ []) y l =
    ring (a ∷ b ∷ d ∷ part y 0 ∷ part y 1 ∷ part y 2 ∷ []) (var 0 ⊗ var 3 ⊕ (var 1 ⊗ var 4 ⊕ (var 2 ⊗ var 5 ⊕ lit (pos 0)))) (((lit (pos 0) ⊕ var 0 ⊗ var 3) ⊕ var 1 ⊗ var 4) ⊕ var 2 ⊗ var 5) refl
three_three [] y l = absurd (omega arith)
three_three (a ∷ []) y l = absurd (omega arith)
three_three (a ∷ b ∷ []) y l = absurd (omega arith)
three_three (a ∷ b ∷ d ∷ f ∷ c) y l = absurd (omega arith)

-- the product of a vector of three parts, of which those past the players are 0
pub dots_agree : (n : ℕ) (c y : List ℤ) → 2 ≤ n → n ≤ 3 → length c ≡ 3 → ((i : ℕ) → n ≤ i → part c i ≡ pos 0) → dot c (first_three y) ≡ players_dot n c y
dots_agree zero c y low high l unused = absurd (omega arith)
dots_agree (suc zero) c y low high l unused = absurd (omega arith)
dots_agree (suc (suc zero)) c y low high l unused = three_two c y l (unused 2 (omega arith))
dots_agree (suc (suc (suc zero))) c y low high l unused = three_three c y l
dots_agree (suc (suc (suc (suc n)))) c y low high l unused = absurd (omega arith)

pub dot_first : (c y : List ℤ) → length c ≡ 3 → dot c y ≡ dot c (first_three y)
dot_first (a ∷ b ∷ d ∷ []) [] l = ring (a ∷ b ∷ d ∷ []) (lit (pos 0)) (var 0 ⊗ lit (pos 0) ⊕ (var 1 ⊗ lit (pos 0) ⊕ (var 2 ⊗ lit (pos 0) ⊕ lit (pos 0)))) refl
dot_first (a ∷ b ∷ d ∷ []) (x ∷ []) l = ring (a ∷ b ∷ d ∷ x ∷ []) (var 0 ⊗ var 3 ⊕ lit (pos 0)) (var 0 ⊗ var 3 ⊕ (var 1 ⊗ lit (pos 0) ⊕ (var 2 ⊗ lit (pos 0) ⊕ lit (pos 0)))) refl
dot_first (a ∷ b ∷ d ∷ []) (x ∷ y ∷ []) l = ring (a ∷ b ∷ d ∷ x ∷ y ∷ []) (var 0 ⊗ var 3 ⊕ (var 1 ⊗ var 4 ⊕ lit (pos 0))) (var 0 ⊗ var 3 ⊕ (var 1 ⊗ var 4 ⊕ (var 2 ⊗ lit (pos 0) ⊕ lit (pos 0)))) refl
dot_first (a ∷ b ∷ d ∷ []) (x ∷ y ∷ z ∷ rest) l = refl
dot_first [] y l = absurd (omega arith)
dot_first (a ∷ []) y l = absurd (omega arith)
dot_first (a ∷ b ∷ []) y l = absurd (omega arith)
dot_first (a ∷ b ∷ d ∷ f ∷ c) y l = absurd (omega arith)

direction_dot : (p : Problem) (k : ℕ) (y : List ℤ) → IsProblem p → k < direction_count p → dot (direction p k) (first_three y) ≡ players_dot p.game.players (direction p k) y
direction_dot p k y ok within =
    dots_agree p.game.players (direction p k) y ok.directions.at_least_two_players ok.directions.at_most_three_players (direction_width p k ok within)
    (λ i past. direction_unused p k i ok within past)

-- ---- the lower side
-- it is at most the next state's level, and asks for what each deviation asks
pub lower_at_most : (p : Problem) (t : Levels) (s a i : ℕ) (l w : ℤ) (by : Option ℕ) → IsSource p t s a i l by → t (successor p.game s a) (minus_axis i) ≡ At w → l ≤ℤ w
lower_at_most p t s a i l w None h e = let same : l ≡ w = number_at l w (sym h.0 ∙ e) in omega (arith, ints)
lower_at_most p t s a i l w (Some st) h e = let below : l <ℤ w = h.3 w e in omega (arith, ints)

turned_most : (g y h x l : ℤ) → (g -ℤ y) ≤ℤ (h -ℤ x) → l ≡ x -ℤ h → l ≤ℤ (y -ℤ g)
turned_most g y h x l k e = omega (arith, ints)

pub lower_deters : (p : Problem) (t : Levels) (s a i c : ℕ) (l y : ℤ) (by : Option ℕ) → IsSource p t s a i l by
    → IsDeviation p.game s a i c → t (reached p.game s a i c) (minus_axis i) ≡ At y → l ≤ℤ (y -ℤ gain p s a i c)
lower_deters p t s a i c l y None h d e = h.1 c y d e
lower_deters p t s a i c l y (Some st) h d e = turned_most (gain p s a i c) y (gain p s a i st) h.0 l ((h.1).most c y d e) h.2

asked_minus : (g x l n d : ℤ) → l ≡ x -ℤ g → ((g -ℤ x) *ℤ d) ≤ℤ n → neg_ℤ n ≤ℤ (l *ℤ d)
asked_minus g x l n d e h =
    let turn : l *ℤ d ≡ neg_ℤ ((g -ℤ x) *ℤ d) = ap (λ z. z *ℤ d) e ∙ ring (x ∷ g ∷ d ∷ []) ((var 0 ⊖ var 1) ⊗ var 2) (neg ((var 1 ⊖ var 0) ⊗ var 2)) refl in
    omega (arith, ints)

-- an admissible vector keeps it
pub keeps_lower : (p : Problem) (t : Levels) (s a i : ℕ) (l : ℤ) (by : Option ℕ) (z : Fractions) → IsProblem p → i < p.game.players → IsSource p t s a i l by → Admissible p t s a z
    → neg_ℤ (part z.numerators i) ≤ℤ (l *ℤ z.denominator)
keeps_lower p t s a i l None z ok player h adm =
    at_most_along (dot-minus_axis p i z.numerators ok player) refl (adm.half_planes (minus_axis i) l (omega (arith, ok.directions.has_axes)) h.0)
keeps_lower p t s a i l (Some st) z ok player h adm =
    asked_minus (gain p s a i st) h.0 l (part z.numerators i) z.denominator h.2 (adm.incentives i st h.0 (h.1).deviation (h.1).kept)

-- ---- from the levels to the rows
row_met : (p : Problem) (t : Levels) (b : ProfileBox) (rows : Program) (z : Fractions) (k : ℕ) → IsProblem p → IsBoxOf p t b → IsProgramOf p t b rows → Admissible p t b.state b.profile z
    → k < direction_count p → players_dot p.game.players (direction p k) z.numerators ≤ℤ ((row_at rows k).h *ℤ z.denominator)
row_met p t b rows z k ok box prog adm within =
    elim (cases_lt k (2 * p.game.players)) [
      | inl axis ↦ by_axis (λ j. j < direction_count p → players_dot p.game.players (direction p j) z.numerators ≤ℤ ((row_at rows j).h *ℤ z.denominator)) p.game.players
          (λ i w inside. at_most_along refl (ap (λ x. x *ℤ z.denominator) (sym (prog.upper i w))) (adm.half_planes (plus_axis i) (side_at b i).upper inside (box.sides i w).upper))
          (λ i w inside. at_most_along (sym (dot-minus_axis p i z.numerators ok w)) (ap (λ x. x *ℤ z.denominator) (sym (prog.lower i w)))
          (keeps_lower p t b.state b.profile i (side_at b i).lower (side_at b i).by z ok w (box.sides i w).source adm))
          k axis within
      | inr past ↦ adm.half_planes k (row_at rows k).h within (ap (λ s. t s k) (sym box.next) ∙ prog.others k past within)
    ]

pub meets_rows : (p : Problem) (t : Levels) (b : ProfileBox) (rows : Program) (z : Fractions) → IsProblem p → IsBoxOf p t b → IsProgramOf p t b rows → Admissible p t b.state b.profile z
    → Meets rows (vector_of z)
meets_rows p t b rows z ok box prog adm = record {
  positive = adm.positive;
  each = λ k d inside.
      let within : k < direction_count p = omega (arith, inside, prog.one_each) in
      subst (λ r. dot r.c (first_three z.numerators) ≤ℤ (r.h *ℤ z.denominator)) (get_or_default rows.rows k (record { c = []; h = pos 0 }) d inside)
      (at_most_along (sym (ap (λ c. dot c (first_three z.numerators)) (prog.coefficients k within) ∙ direction_dot p k z.numerators ok within)) refl
      (row_met p t b rows z k ok box prog adm within));
}

-- ---- and back
row_keeps : (p : Problem) (t : Levels) (b : ProfileBox) (rows : Program) (y : List ℤ) (den : ℤ) (k : ℕ) → IsProblem p → IsProgramOf p t b rows
    → Meets rows (record { num = y; den = den }) → k < direction_count p → players_dot p.game.players (direction p k) y ≤ℤ ((row_at rows k).h *ℤ den)
row_keeps p t b rows y den k ok prog met within =
    at_most_along (ap (λ c. dot c y) (prog.coefficients k within) ∙ dot_first (direction p k) y (direction_width p k ok within) ∙ direction_dot p k y ok within) refl
    (met.each k (record { c = []; h = pos 0 }) (omega (arith, prog.one_each)))

kept_half_plane : (p : Problem) (t : Levels) (b : ProfileBox) (rows : Program) (k : ℕ) (x n den : ℤ) → IsProblem p → IsBoxOf p t b → IsProgramOf p t b rows → pos 0 <ℤ den
    → k < direction_count p → t (successor p.game b.state b.profile) k ≡ At x → n ≤ℤ ((row_at rows k).h *ℤ den) → n ≤ℤ (x *ℤ den)
kept_half_plane p t b rows k x n den ok box prog positive within at h =
    elim (cases_lt k (2 * p.game.players)) [
      | inl axis ↦ by_axis (λ j. t (successor p.game b.state b.profile) j ≡ At x → n ≤ℤ ((row_at rows j).h *ℤ den) → n ≤ℤ (x *ℤ den)) p.game.players
          (λ i w e g. at_most_along refl (ap (λ u. u *ℤ den) (prog.upper i w ∙ number_at (side_at b i).upper x (sym (box.sides i w).upper ∙ e))) g)
          (λ i w e g. widen den n (side_at b i).lower x positive (lower_at_most p t b.state b.profile i (side_at b i).lower x (side_at b i).by (box.sides i w).source e)
          (at_most_along refl (ap (λ u. u *ℤ den) (prog.lower i w)) g))
          k axis at h
      | inr past ↦ at_most_along refl (ap (λ u. u *ℤ den) (number_at (row_at rows k).h x (sym (prog.others k past within) ∙ ap (λ s. t s k) box.next ∙ at))) h
    ]

asked : (g y l n den : ℤ) → pos 0 <ℤ den → l ≤ℤ (y -ℤ g) → neg_ℤ n ≤ℤ (l *ℤ den) → ((g -ℤ y) *ℤ den) ≤ℤ n
asked g y l n den positive h k =
    let more : (l *ℤ den) ≤ℤ ((y -ℤ g) *ℤ den) = at_most_along (times_swap den l) (times_swap den (y -ℤ g)) (times_at_most den l (y -ℤ g) (omega (arith, ints)) h) in
    let turn : (y -ℤ g) *ℤ den ≡ neg_ℤ ((g -ℤ y) *ℤ den) = ring (y ∷ g ∷ den ∷ []) ((var 0 ⊖ var 1) ⊗ var 2) (neg ((var 1 ⊖ var 0) ⊗ var 2)) refl in
    omega (arith, ints)

pub admits_point : (p : Problem) (t : Levels) (b : ProfileBox) (rows : Program) (y : List ℤ) (den : ℤ) → IsProblem p → IsBoxOf p t b → IsProgramOf p t b rows
    → Meets rows (record { num = y; den = den }) → Admissible p t b.state b.profile (record { numerators = y; denominator = den })
admits_point p t b rows y den ok box prog met = record {
  positive = met.positive;
  next_known = λ k within. box.known.next k within;
  reached_known = λ i c k d within. box.known.reached_states i c d k within;
  half_planes = λ k x within e.
      kept_half_plane p t b rows k x (players_dot p.game.players (direction p k) y) den ok box prog met.positive within e (row_keeps p t b rows y den k ok prog met within);
  incentives = λ i c x d e.
      let within : minus_axis i < direction_count p = omega (arith, ok.directions.has_axes, d.player) in
      let kept : neg_ℤ (part y i) ≤ℤ ((side_at b i).lower *ℤ den) = at_most_along (dot-minus_axis p i y ok d.player) (ap (λ u. u *ℤ den) (prog.lower i d.player))
      (row_keeps p t b rows y den (minus_axis i) ok prog met within) in
      asked (gain p b.state b.profile i c) x (side_at b i).lower (part y i) den met.positive
      (lower_deters p t b.state b.profile i c (side_at b i).lower x (side_at b i).by (box.sides i d.player).source d e) kept;
}
