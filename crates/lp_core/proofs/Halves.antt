-- Rows of programs of two variables.
use Rattle.std.proofs.Common.{◌≡◌, ℕ, zero, suc, ◌<◌, ◌≤◌, List, [], ◌∷◌, length, Some, refl, sym, ap, subst, ◌∙◌, arith, lit≤}
use Rattle.std.specs.Prelude.{ℤ, pos, nat_lt, slice_get, slice_index_or, false}
use Rattle.std.specs.Int.RustNames.{unsigned_abs}
use Rattle.std.proofs.lemmas.List.{get_or-map, length-map}
use Rattle.std.proofs.lemmas.List.FromFn.{fill_by_all}
use Rattle.lp_cert.specs.declared.rows.Row.{Row}
use Rattle.lp_cert.specs.Program.{Program, IsProgram, IsRow, entry, row_at}
use Rattle.lp_cert.proofs.Steps.{got}
use Rattle.lp_core.specs.declared.reduced.Line.{Line}
use Rattle.lp_core.specs.Reduced.{Reduced}
use Rattle.lp_core.specs.Lines.{line_at}
use Rattle.lp_core.specs.Whole.{IsWhole}
use Rattle.lp_core.specs.Planar.{line_of, lines_of, whole_of}
use Rattle.lp_core.proofs.Wholes.{row_right}

no_row : Row
no_row = record { c = []; h = pos 0 }

-- ---- the whole program
pub whole_count : (p : Program) → length (lines_of p) ≡ length p.rows
unfolding whole_of
whole_count p = length-map p.rows line_of

pub whole_line : (p : Program) (l : ℕ) → l < length p.rows → line_at (lines_of p) l ≡ line_of (row_at p l)
unfolding whole_of
whole_line p l h = get_or-map line_of p.rows l (record { c = []; h = pos 0 }) (record { c = []; h = pos 0 }) h

pub whole_is : (p : Program) → IsWhole p (whole_of p)
unfolding whole_of
whole_is p = record {
  three = refl;
  live = live;
  count = length-map p.rows line_of;
  entries = λ l h. ap (λ (x : Line). x.c) (get_or-map line_of p.rows l (record { c = []; h = pos 0 }) (record { c = []; h = pos 0 }) h);
  sides = λ l h. ap (λ (x : Line). x.h) (get_or-map line_of p.rows l (record { c = []; h = pos 0 }) (record { c = []; h = pos 0 }) h);
}
  where
    live : (k : ℕ) → k < 3 → slice_index_or (nat_lt 0 p.dimension ∷ nat_lt 1 p.dimension ∷ nat_lt 2 p.dimension ∷ []) k false ≡ nat_lt k p.dimension
    live zero l = refl
    live (suc zero) l = refl
    live (suc (suc zero)) l = refl
    live (suc (suc (suc k))) l = absurd (omega (arith, l))

same_line : (x y : Line) → x.c ≡ y.c → x.h ≡ y.h → x ≡ y
same_line x y e f = ap (λ c. let z : Line = record { c = c; h = x.h } in z) e ∙ ap (λ h. let z : Line = record { c = y.c; h = h } in z) f

-- no other program is whole
pub whole_unique : (p : Program) (q : Reduced) → IsWhole p q → q ≡ whole_of p
whole_unique p q w =
    let v = whole_is p in
    let live : q.live ≡ (whole_of p).live =
    fill_by_all (λ k. slice_index_or (whole_of p).live k false) q.live 3 false w.three (λ k l. w.live k l ∙ sym (v.live k l))
    ∙ sym (fill_by_all (λ k. slice_index_or (whole_of p).live k false) (whole_of p).live 3 false v.three (λ k l. refl)) in
    let lines : q.lines ≡ (whole_of p).lines =
    fill_by_all (λ l. line_at (lines_of p) l) q.lines (length p.rows) (record { c = []; h = pos 0 }) w.count (λ l h. same_line (line_at q.lines l) (line_at (lines_of p) l) (w.entries l h ∙ sym (v.entries l h)) (w.sides l h ∙ sym (v.sides l h)))
    ∙ sym (fill_by_all (λ l. line_at (lines_of p) l) (lines_of p) (length p.rows) (record { c = []; h = pos 0 }) v.count (λ l h. refl)) in
    ap (λ xs. let z : Reduced = record { live = xs; lines = q.lines } in z) live ∙ ap (λ xs. let z : Reduced = record { live = (whole_of p).live; lines = xs } in z) lines

-- ---- a row that is read
pub record IsRead (p : Program) (l : ℕ) (row : Row) : Type 0 where
  pub is : line_of row ≡ line_at (lines_of p) l
  pub first : unsigned_abs (entry row.c 0) ≤ 3
  pub second : unsigned_abs (entry row.c 1) ≤ 3
  pub parts : (entry row.c 0 ∷ entry row.c 1 ∷ pos 0 ∷ []) ≡ row.c

pub read : (p : Program) (l : ℕ) (row : Row) → IsProgram p → p.dimension ≡ 2 → l < length p.rows → slice_get p.rows l ≡ Some row → IsRead p l row
read p l row h d inside e =
    let same : row_at p l ≡ row = got p.rows l row e (record { c = []; h = pos 0 }) in
    let right : IsRow 2 row = subst (λ x. IsRow 2 x) same (subst (λ n. IsRow n (row_at p l)) d (row_right p l h inside)) in
    record {
      is = ap line_of (sym same) ∙ sym (whole_line p l inside);
      first = right.entries 0 (pos 0) (omega (arith, right.three));
      second = right.entries 1 (pos 0) (omega (arith, right.three));
      parts = three row.c right.three (right.zeros 2 (lit≤ tt));
    }
  where
    three : (c : List ℤ) → length c ≡ 3 → entry c 2 ≡ pos 0 → (entry c 0 ∷ entry c 1 ∷ pos 0 ∷ []) ≡ c
    three (x ∷ y ∷ z ∷ []) e f = ap (λ t. x ∷ y ∷ t ∷ []) (sym f)
    three [] e f = absurd (omega (arith, e))
    three (x ∷ []) e f = absurd (omega (arith, e))
    three (x ∷ y ∷ []) e f = absurd (omega (arith, e))
    three (x ∷ y ∷ z ∷ w ∷ c) e f = absurd (omega (arith, e))
