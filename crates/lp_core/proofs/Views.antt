-- Programs that are seen over the rows that they came from.
use Rattle.std.proofs.Common.{◌≡◌, ℕ, zero, suc, ◌*◌, ◌<◌, ◌≤◌, ◌^◌, List, [], ◌∷◌, length, set, min, max, refl, sym, ap, subst, ◌∙◌, arith, lit<, lit≤}
use Rattle.std.specs.Prelude.{ℤ, pos, negsuc, All, Bool, true, false, cond, nat_eq, nat_lt, slice_index_or, Option, None, Some}
use Rattle.std.proofs.lemmas.Bool.Decides.{nat_tests}
use Rattle.std.specs.Int.RustNames.{unsigned_abs}
use Rattle.std.proofs.lemmas.List.{get_or-set_same}
use Rattle.std.proofs.lemmas.List.Elements.{All-cons, All-nil}
use Rattle.std.proofs.lemmas.List.FromFn.{length-map-range_with_len, get_or-map-range_with_len}
use Rattle.exact_algebra.specs.Normal.{is_nought}
use Rattle.lp_cert.specs.Program.{Program, IsProgram, entry}
use Rattle.lp_core.specs.declared.reduced.Line.{Line}
use Rattle.lp_core.specs.declared.pivot.Pivot.{Pivot}
use Rattle.lp_core.specs.declared.pivot.Step.{Step}
use Rattle.lp_core.specs.Bounds.{left_entry, left_side}
use Rattle.lp_core.specs.Elimination.{IsEliminated, IsRest}
use Rattle.lp_core.specs.Lines.{is_seen, line_at}
use Rattle.lp_core.specs.Planar.{lines_of, whole_of}
use Rattle.lp_core.specs.Reduced.{Reduced}
use Rattle.lp_core.specs.Search.{IsReduced}
use Rattle.lp_core.specs.Sizes.{IsSmallLine}
use Rattle.lp_core.specs.Smaller.{eliminated, rest_of, smaller, source_line}
use Rattle.lp_core.specs.View.{viewed}
use Rattle.lp_core.proofs.Boxes.{first_seen, upper_seen, lower_seen}
use Rattle.lp_core.proofs.Halves.{whole_is, whole_count}
use Rattle.lp_core.proofs.Lines.{no_part}
use Rattle.lp_core.proofs.Smaller.{small_lines}
use Rattle.lp_core.proofs.Wholes.{below_true, from_true, whole_is_reduced}

-- ---- a row without a variable
entries_of : (c : List ℤ) → length c ≡ 3 → c ≡ (entry c 0 ∷ entry c 1 ∷ entry c 2 ∷ [])
entries_of (x ∷ y ∷ z ∷ []) e = refl
entries_of [] e = absurd (omega (arith, e))
entries_of (x ∷ []) e = absurd (omega (arith, e))
entries_of (x ∷ y ∷ []) e = absurd (omega (arith, e))
entries_of (x ∷ y ∷ z ∷ w ∷ c) e = absurd (omega (arith, e))

same_line : (x y : Line) → x.c ≡ y.c → x.h ≡ y.h → x ≡ y
same_line x y e f = ap (λ c. let z : Line = record { c = c; h = x.h } in z) e ∙ ap (λ h. let z : Line = record { c = y.c; h = h } in z) f

pub eliminated_unique : (p : Pivot) (x y : Line) → length y.c ≡ 3 → IsEliminated p x y → y ≡ eliminated p x
unfolding eliminated
eliminated_unique p x y three e = by_entry (entry x.c p.place) refl
  where
    full : Line
    full = record { c = left_entry p x 0 ∷ left_entry p x 1 ∷ left_entry p x 2 ∷ []; h = left_side p x }

    parts : (a b d a' b' d' : ℤ) → a ≡ a' → b ≡ b' → d ≡ d' → (a ∷ b ∷ d ∷ []) ≡ (a' ∷ b' ∷ d' ∷ [])
    parts a b d a' b' d' f g h = ap (λ z. z ∷ b ∷ d ∷ []) f ∙ ap (λ z. a' ∷ z ∷ d ∷ []) g ∙ ap (λ z. a' ∷ b' ∷ z ∷ []) h

    is_full : y ≡ record { c = left_entry p x 0 ∷ left_entry p x 1 ∷ left_entry p x 2 ∷ []; h = left_side p x }
    is_full = same_line y (record { c = left_entry p x 0 ∷ left_entry p x 1 ∷ left_entry p x 2 ∷ []; h = left_side p x })
        (entries_of y.c three ∙ parts _ _ _ _ _ _ (e.entries 0 (lit< tt)) (e.entries 1 (lit< tt)) (e.entries 2 (lit< tt))) e.side

    by_entry : (z : ℤ) → entry x.c p.place ≡ z → y ≡ cond (is_nought z) x (record { c = left_entry p x 0 ∷ left_entry p x 1 ∷ left_entry p x 2 ∷ []; h = left_side p x })
    by_entry (pos zero) g = e.same g
    by_entry (pos (suc n)) g =
        let f : false ≡ nat_eq (suc n) 0 = grind (arith, nat_tests) in
        subst (λ b. y ≡ cond b x (record { c = left_entry p x 0 ∷ left_entry p x 1 ∷ left_entry p x 2 ∷ []; h = left_side p x })) f is_full
    by_entry (negsuc n) g = is_full

pub rest_unique : (p : Pivot) (o rest : List ℤ) → length rest ≡ 3 → IsRest p o rest → rest ≡ rest_of p o
unfolding rest_of
rest_unique p o rest three h = entries_of rest three ∙ parts _ _ _ _ _ _ (h 0 (lit< tt)) (h 1 (lit< tt)) (h 2 (lit< tt))
  where
    parts : (a b d a' b' d' : ℤ) → a ≡ a' → b ≡ b' → d ≡ d' → (a ∷ b ∷ d ∷ []) ≡ (a' ∷ b' ∷ d' ∷ [])
    parts a b d a' b' d' f g h = ap (λ z. z ∷ b ∷ d ∷ []) f ∙ ap (λ z. a' ∷ z ∷ d ∷ []) g ∙ ap (λ z. a' ∷ b' ∷ z ∷ []) h

-- ---- a view
pub whole_live : (p : Program) → (nat_lt 0 p.dimension ∷ nat_lt 1 p.dimension ∷ nat_lt 2 p.dimension ∷ []) ≡ (whole_of p).live
unfolding whole_of
whole_live p = refl

pub smaller_live : (p : Pivot) (P : Reduced) (r : ℕ) → set P.live p.place false ≡ (smaller p P r).live
unfolding smaller
smaller_live p P r = refl

pub smaller_count : (p : Pivot) (P : Reduced) (r : ℕ) → length (smaller p P r).lines ≡ min (length P.lines) (max r 6)
unfolding smaller
smaller_count p P r = length-map-range_with_len (source_line p P r) 0 (min (length P.lines) (max r 6))

live_at : (p : Program) (k : ℕ) → k < 3 → p.dimension ≡ 3 → slice_index_or (whole_of p).live k false ≡ true
live_at p k l three = (whole_is p).live k l ∙ below_true k p.dimension (omega (arith, l, three))

-- all rows of the smaller program were seen
all_before : (p : Program) (r l : ℕ) → p.dimension ≡ 3 → l < max r 6 → is_seen (whole_of p).live r l ≡ true
all_before p r l three h = by_case (nat_lt l r) refl
  where
    six : (l : ℕ) → l < 6 → is_seen (whole_of p).live r l ≡ true
    six zero h = upper_seen (whole_of p).live r 0 (lit< tt) (live_at p 0 (lit< tt) three)
    six (suc zero) h = lower_seen (whole_of p).live r 0 (lit< tt) (live_at p 0 (lit< tt) three)
    six (suc (suc zero)) h = upper_seen (whole_of p).live r 1 (lit< tt) (live_at p 1 (lit< tt) three)
    six (suc (suc (suc zero))) h = lower_seen (whole_of p).live r 1 (lit< tt) (live_at p 1 (lit< tt) three)
    six (suc (suc (suc (suc zero)))) h = upper_seen (whole_of p).live r 2 (lit< tt) (live_at p 2 (lit< tt) three)
    six (suc (suc (suc (suc (suc zero))))) h = lower_seen (whole_of p).live r 2 (lit< tt) (live_at p 2 (lit< tt) three)
    six (suc (suc (suc (suc (suc (suc l)))))) h = absurd (omega (arith, h))

    by_case : (b : Bool) → nat_lt l r ≡ b → is_seen (whole_of p).live r l ≡ true
    by_case true e = first_seen (whole_of p).live r l (from_true l r e)
    by_case false e = six l (let f : r ≤ l = grind (arith, nat_tests) in omega (arith, f, h))

pub smaller_line : (p : Program) (v : Pivot) (r l : ℕ) → p.dimension ≡ 3 → l < length (smaller v (whole_of p) r).lines → line_at (smaller v (whole_of p) r).lines l ≡ eliminated v (line_at (lines_of p) l)
unfolding smaller
smaller_line p v r l three h =
    let d : Line = record { c = []; h = pos 0 } in
    let n = min (length (whole_of p).lines) (max r 6) in
    let count = length-map-range_with_len (source_line v (whole_of p) r) 0 n in
    let less : l < min (length (whole_of p).lines) (max r 6) = omega (arith, h, count) in
    get_or-map-range_with_len (source_line v (whole_of p) r) 0 n l l d less (omega arith)
    ∙ ap (λ b. eliminated v (line_at (lines_of p) (cond b l (2 * v.place)))) (all_before p r l three (omega (arith, less)))

-- a program with all variables is whole
pub step_none : (p : Program) (step : Option Step) (q : Reduced) → viewed p step ≡ q → ((k : ℕ) → k < 3 → slice_index_or q.live k false ≡ true) → step ≡ None
step_none p None q e all = refl
step_none p (Some s) q e all = absurd (both _ dead (all s.pivot.place s.pivot.inside))
  where
    both : (b : Bool) → b ≡ false → b ≡ true → ⊥
    both true e f = grind (arith, e)
    both false e f = grind (arith, f)

    dead : slice_index_or q.live s.pivot.place false ≡ false
    dead =
        ap (λ (P : Reduced). slice_index_or P.live s.pivot.place false) (sym e)
        ∙ ap (λ (xs : List Bool). slice_index_or xs s.pivot.place false) (sym (smaller_live s.pivot (whole_of p) s.r))
        ∙ get_or-set_same (whole_of p).live s.pivot.place false false (let t = (whole_is p).three in let i = s.pivot.inside in omega (arith, t, i))

pub all_live : (p : Program) → IsProgram p → ((k : ℕ) → k < 3 → slice_index_or (whole_of p).live k false ≡ true) → p.dimension ≡ 3
all_live p h all = let a = from_true 2 p.dimension (sym ((whole_is p).live 2 (lit< tt)) ∙ all 2 (lit< tt)) in omega (arith, a, h.few)

-- rows are small
pub whole_small : (p : Program) (l : ℕ) → IsProgram p → l < length p.rows → IsSmallLine (2 ^ 10) (2 ^ 80) (line_at (lines_of p) l)
whole_small p l h inside =
    let zeros = pos 0 ∷ pos 0 ∷ pos 0 ∷ [] in
    let reduced : IsReduced (whole_of p) (pos 0 ∷ pos 0 ∷ pos 0 ∷ []) = whole_is_reduced p (whole_of p) zeros h (whole_is p) refl small none in
    small_lines (whole_of p) zeros reduced l (omega (arith, inside, whole_count p))
  where
    small : All (λ x. unsigned_abs x ≤ 4096) (pos 0 ∷ pos 0 ∷ pos 0 ∷ [])
    small =
        let F = λ (x : ℤ). unsigned_abs x ≤ 4096 in
        All-cons F (pos 0) (pos 0 ∷ pos 0 ∷ []) (lit≤ tt) (All-cons F (pos 0) (pos 0 ∷ []) (lit≤ tt) (All-cons F (pos 0) [] (lit≤ tt) (All-nil F)))

    none : (k : ℕ) → p.dimension ≤ k → entry (pos 0 ∷ pos 0 ∷ pos 0 ∷ []) k ≡ pos 0
    none k l = no_part k
