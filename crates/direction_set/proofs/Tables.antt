-- What holds of each table of directions.
use Rattle.std.proofs.Common.{◌≡◌, ℕ, zero, suc, ◌+◌, ◌-◌, ◌*◌, ◌<◌, ◌≤◌, eqb, leb, Bool, true, false, ◌||◌, ◌&&◌, List, [], ◌∷◌, length, take, drop, get_or, refl, ap, sym, ◌∙◌, subst, arith, inl, inr}
use Rattle.std.specs.Prelude.{ℤ, pos, negsuc, unsigned_abs}
use Rattle.std.specs.List.{list_all}
use Rattle.std.proofs.lemmas.Bool.{eqb-true, leb-true, le-leb, ne_eqb, and_parts, cases_eq}
use Rattle.std.proofs.lemmas.List.{get_or-drop, get_or-take, get_or_default, length-take}
use Rattle.std.proofs.Math.IntN.{neg_ℤ-neg_ℤ}
use Rattle.direction_set.specs.DirectionTable.{HasTable, IsDirectionTable, DirectionTable, direction_vectors, length-direction_vectors, all_vectors, with_negatives, listed_for_two, listed_for_three, vector_at, opposite_of, negative, unit_vector, zero_vector}

-- the tables that there are
pub data Listed : ℕ → ℕ → Type 0 where
  two_4 : Listed 2 4
  two_8 : Listed 2 8
  two_16 : Listed 2 16
  two_32 : Listed 2 32
  three_6 : Listed 3 6
  three_14 : Listed 3 14
  three_26 : Listed 3 26

-- one size more
size_or : {P : Type 0} (size count : ℕ) (here : Bool) (others : Bool) → eqb size count ≡ here → (size ≡ count → P) → (others ≡ true → P) → (here || others) ≡ true → P
size_or size count true others e this rest h = this (eqb-true size count e)
size_or size count false others e this rest h = rest h

no_more : {P : Type 0} → false ≡ true → P
no_more h = cc

listed_two : (count : ℕ) → HasTable 2 count → Listed 2 count
listed_two count known =
    let table : ℕ → Type 0 = λ n. Listed 2 n in
    size_or 4 count _ _ refl (λ e. subst table e two_4)
    (size_or 8 count _ _ refl (λ e. subst table e two_8)
    (size_or 16 count _ _ refl (λ e. subst table e two_16)
    (size_or 32 count _ _ refl (λ e. subst table e two_32) no_more))) known

listed_three : (count : ℕ) → HasTable 3 count → Listed 3 count
listed_three count known =
    let table : ℕ → Type 0 = λ n. Listed 3 n in
    size_or 6 count _ _ refl (λ e. subst table e three_6)
    (size_or 14 count _ _ refl (λ e. subst table e three_14)
    (size_or 26 count _ _ refl (λ e. subst table e three_26) no_more)) known

neither : {P : Type 0} (players count : ℕ) → (players ≡ 2 → ⊥) → (players ≡ 3 → ⊥) → HasTable players count → P
neither players count not_two not_three known =
    let two : eqb players 2 ≡ false = ne_eqb players 2 not_two in
    let three : eqb players 3 ≡ false = ne_eqb players 3 not_three in
    no_more (rw (two, three) at known)

pub listed : (players count : ℕ) → HasTable players count → Listed players count
listed players count known = elim (cases_eq players 2) [
  | inl two ↦ subst (λ (n : ℕ). Listed n count) (sym two) (listed_two count (subst (λ (n : ℕ). HasTable n count) two known))
  | inr not_two ↦ elim (cases_eq players 3) [
    | inl three ↦ subst (λ (n : ℕ). Listed n count) (sym three) (listed_three count (subst (λ (n : ℕ). HasTable n count) three known))
    | inr not_three ↦ neither players count not_two not_three known
  ]
]

negative-negative : (v : List ℤ) → negative (negative v) ≡ v
negative-negative [] = refl
negative-negative (x ∷ xs) = rw (neg_ℤ-neg_ℤ x) (ap (λ (ys : List ℤ). x ∷ ys) (negative-negative xs))

opposite_of-suc : (k : ℕ) → opposite_of (suc (suc k)) ≡ suc (suc (opposite_of k))
opposite_of-suc k = omega arith

length-with_negatives : (vs : List (List ℤ)) → length (with_negatives vs) ≡ 2 * length vs
length-with_negatives [] = refl
length-with_negatives (v ∷ vs) = omega (arith, length-with_negatives vs)

vector_at-opposite : (vs : List (List ℤ)) (k : ℕ) → k < length (with_negatives vs) → vector_at (with_negatives vs) (opposite_of k) ≡ negative (vector_at (with_negatives vs) k)
vector_at-opposite [] k within = absurd (omega arith)
vector_at-opposite (v ∷ vs) zero within = refl
vector_at-opposite (v ∷ vs) (suc zero) within = sym (negative-negative v)
vector_at-opposite (v ∷ vs) (suc (suc k)) within = rw (opposite_of-suc k) (vector_at-opposite vs k (omega arith))

-- a test of each element holds of what stands at k, if it holds of the default
at_each : {X : Type 0} (test : X → Bool) (d : X) (xs : List X) (k : ℕ) → test d ≡ true → list_all test xs ≡ true → test (get_or xs k d) ≡ true
at_each test d [] k default each = default
at_each test d (x ∷ xs) zero default each = (and_parts (test x) (list_all test xs) each).0
at_each test d (x ∷ xs) (suc k) default each = at_each test d xs k default (and_parts (test x) (list_all test xs) each).1

-- each part is at most the bound in absolute value
abbrev is_small : ℕ → List ℤ → Bool
is_small bound v = list_all (λ x. leb (unsigned_abs x) bound) v

abbrev is_vector : ℕ → ℕ → List ℤ → Bool
is_vector players bound v = eqb (length v) 3 && (is_small bound v && is_small 0 (drop players v))

part_small : (bound : ℕ) (v : List ℤ) (i : ℕ) → is_small bound v ≡ true → unsigned_abs (get_or v i (pos 0)) ≤ bound
part_small bound v i small = leb-true _ _ (at_each (λ x. leb (unsigned_abs x) bound) (pos 0) v i (le-leb 0 bound (omega arith)) small)

abs_zero : (x : ℤ) → unsigned_abs x ≤ 0 → x ≡ pos 0
abs_zero (pos n) h = ap pos (omega arith)
abs_zero (negsuc n) h = absurd (omega arith)

part_zero : (players : ℕ) (v : List ℤ) (i : ℕ) → players ≤ i → is_small 0 (drop players v) ≡ true → get_or v i (pos 0) ≡ pos 0
part_zero players v i past small =
    let e : players + (i - players) ≡ i = omega arith in
    abs_zero _ (subst (λ (j : ℕ). unsigned_abs (get_or v j (pos 0)) ≤ 0) e
    (subst (λ (x : ℤ). unsigned_abs x ≤ 0) (get_or-drop players v (i - players) (pos 0)) (part_small 0 (drop players v) (i - players) small)))

all_vectors_at : (players bound : ℕ) (vs : List (List ℤ)) (k : ℕ) → is_vector players bound zero_vector ≡ true → list_all (is_vector players bound) vs ≡ true → is_vector players bound (vector_at vs k) ≡ true
all_vectors_at players bound vs k default each = at_each (is_vector players bound) zero_vector vs k default each

-- where the axes stand
record HasAxes (players : ℕ) (vs : List (List ℤ)) : Type 0 where
  plus : (i : ℕ) → i < players → vector_at vs (2 * i) ≡ unit_vector i
  minus : (i : ℕ) → i < players → vector_at vs (2 * i + 1) ≡ negative (unit_vector i)

-- a list of even directions makes a table, if it passes the tests that compute
is_table : (players bound : ℕ) (vs : List (List ℤ)) → 2 ≤ players → players ≤ 3 → players ≤ length vs → length vs ≤ 16 → bound ≤ 3 → (players ≡ 3 → bound ≤ 1) → HasAxes players (with_negatives vs) → is_vector players bound zero_vector ≡ true → list_all (is_vector players bound) (with_negatives vs) ≡ true → IsDirectionTable players (with_negatives vs)
is_table players bound vs two three axes_fit few small small_three axes default each =
    let parts = λ (k : ℕ). and_parts _ _ (all_vectors_at players bound (with_negatives vs) k default each) in
    let part = λ (k i : ℕ). part_small bound (vector_at (with_negatives vs) k) i (and_parts _ _ (parts k).1).0 in
    record {
      at_least_two_players = two;
      at_most_three_players = three;
      count_small = omega (arith, length-with_negatives vs);
      has_axes = omega (arith, length-with_negatives vs);
      plus_axis = axes.plus;
      minus_axis = axes.minus;
      opposite_within = λ k within. omega (arith, length-with_negatives vs);
      opposite_is_negative = vector_at-opposite vs;
      width = λ k. eqb-true _ 3 (parts k).0;
      unused_is_zero = λ k i past. part_zero players (vector_at (with_negatives vs) k) i past (and_parts _ _ (parts k).1).1;
      part_small = λ k i. omega (arith, part k i);
      part_of_three_small = λ e k i. omega (arith, part k i, small_three e);
    }

abbrev two_axes : List (List ℤ) → List (List ℤ)
two_axes vs = (pos 1 ∷ pos 0 ∷ pos 0 ∷ []) ∷ (pos 0 ∷ pos 1 ∷ pos 0 ∷ []) ∷ vs

axis_of_two_plus : (vs : List (List ℤ)) (i : ℕ) → i < 2 → vector_at (with_negatives (two_axes vs)) (2 * i) ≡ unit_vector i
axis_of_two_plus vs zero within = refl
axis_of_two_plus vs (suc zero) within = refl
axis_of_two_plus vs (suc (suc i)) within = absurd (omega arith)

axis_of_two_minus : (vs : List (List ℤ)) (i : ℕ) → i < 2 → vector_at (with_negatives (two_axes vs)) (2 * i + 1) ≡ negative (unit_vector i)
axis_of_two_minus vs zero within = refl
axis_of_two_minus vs (suc zero) within = refl
axis_of_two_minus vs (suc (suc i)) within = absurd (omega arith)

axes_of_two : (vs : List (List ℤ)) → HasAxes 2 (with_negatives (two_axes vs))
axes_of_two vs = record { plus = axis_of_two_plus vs; minus = axis_of_two_minus vs }

abbrev three_axes : List (List ℤ) → List (List ℤ)
three_axes vs = (pos 1 ∷ pos 0 ∷ pos 0 ∷ []) ∷ (pos 0 ∷ pos 1 ∷ pos 0 ∷ []) ∷ (pos 0 ∷ pos 0 ∷ pos 1 ∷ []) ∷ vs

axis_of_three_plus : (vs : List (List ℤ)) (i : ℕ) → i < 3 → vector_at (with_negatives (three_axes vs)) (2 * i) ≡ unit_vector i
axis_of_three_plus vs zero within = refl
axis_of_three_plus vs (suc zero) within = refl
axis_of_three_plus vs (suc (suc zero)) within = refl
axis_of_three_plus vs (suc (suc (suc i))) within = absurd (omega arith)

axis_of_three_minus : (vs : List (List ℤ)) (i : ℕ) → i < 3 → vector_at (with_negatives (three_axes vs)) (2 * i + 1) ≡ negative (unit_vector i)
axis_of_three_minus vs zero within = refl
axis_of_three_minus vs (suc zero) within = refl
axis_of_three_minus vs (suc (suc zero)) within = refl
axis_of_three_minus vs (suc (suc (suc i))) within = absurd (omega arith)

axes_of_three : (vs : List (List ℤ)) → HasAxes 3 (with_negatives (three_axes vs))
axes_of_three vs = record { plus = axis_of_three_plus vs; minus = axis_of_three_minus vs }

table_of_two : (rest : List (List ℤ)) → length rest ≤ 14 → list_all (is_vector 2 3) (with_negatives (two_axes rest)) ≡ true → IsDirectionTable 2 (with_negatives (two_axes rest))
table_of_two rest few each =
    is_table 2 3 (two_axes rest) (omega arith) (omega arith) (omega arith) (omega arith) (omega arith)
    (λ e. absurd (omega arith)) (axes_of_two rest) refl each

table_of_three : (rest : List (List ℤ)) → length rest ≤ 10 → list_all (is_vector 3 1) (with_negatives (three_axes rest)) ≡ true → IsDirectionTable 3 (with_negatives (three_axes rest))
table_of_three rest few each =
    is_table 3 1 (three_axes rest) (omega arith) (omega arith) (omega arith) (omega arith) (omega arith)
    (λ e. omega arith) (axes_of_three rest) refl each

direction_table : {players count : ℕ} → Listed players count → IsDirectionTable players (direction_vectors players count)
unfolding all_vectors listed_for_two listed_for_three
direction_table two_4 = table_of_two (drop 2 (take 2 listed_for_two)) (omega arith) refl
direction_table two_8 = table_of_two (drop 2 (take 4 listed_for_two)) (omega arith) refl
direction_table two_16 = table_of_two (drop 2 (take 8 listed_for_two)) (omega arith) refl
direction_table two_32 = table_of_two (drop 2 listed_for_two) (omega arith) refl
direction_table three_6 = table_of_three (drop 3 (take 3 listed_for_three)) (omega arith) refl
direction_table three_14 = table_of_three (drop 3 (take 7 listed_for_three)) (omega arith) refl
direction_table three_26 = table_of_three (drop 3 listed_for_three) (omega arith) refl

pub table_rules : (players count : ℕ) → HasTable players count → IsDirectionTable players (direction_vectors players count)
table_rules players count known = direction_table (listed players count known)

-- what is read from the longest table
pub read_longest : (players count k : ℕ) (d : List ℤ) → HasTable players count → k < length (direction_vectors players count) → get_or (all_vectors players) k d ≡ vector_at (direction_vectors players count) k
read_longest players count k d known within =
    let below : k < count = omega (arith, length-direction_vectors players count known) in
    let inside : k < length (all_vectors players) = omega (arith, within, length-take count (all_vectors players)) in
    get_or_default (all_vectors players) k d zero_vector inside ∙ sym (get_or-take count (all_vectors players) k zero_vector below)

three_or : {players count : ℕ} → Listed players count → (players ≡ 2 → ⊥) → players ≡ 3
three_or two_4 not_two = absurd (not_two refl)
three_or two_8 not_two = absurd (not_two refl)
three_or two_16 not_two = absurd (not_two refl)
three_or two_32 not_two = absurd (not_two refl)
three_or three_6 not_two = refl
three_or three_14 not_two = refl
three_or three_26 not_two = refl

pub three_players : (players count : ℕ) → HasTable players count → (players ≡ 2 → ⊥) → players ≡ 3
three_players players count known = three_or (listed players count known)

-- the rules of a table that is seen through its fields
pub rules_seen : (players count : ℕ) (t : DirectionTable) → HasTable players count → record { players = players; vectors = direction_vectors players count } ≡ t → IsDirectionTable t.players t.vectors
rules_seen players count t known is = subst (λ (u : DirectionTable). IsDirectionTable u.players u.vectors) is (table_rules players count known)
