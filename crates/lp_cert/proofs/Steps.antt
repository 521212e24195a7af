-- The steps of the sums over multipliers.
use Rattle.std.proofs.Common.{◌≡◌, ℕ, Bool, true, false, lit≤, zero, suc, ◌+◌, ◌*◌, ◌<◌, ◌≤◌, ◌^◌, List, [], ◌∷◌, length, get_or, take, Some, refl, sym, ap, subst, ◌∙◌, arith, lit<}
use Rattle.std.specs.Prelude.{ℤ, pos, ◌+ℤ◌, ◌*ℤ◌, slice_get, cond, nat_eq}
use Rattle.std.specs.Int.{w32, w128}
use Rattle.std.specs.Int.RustNames.{FitsSigned, unsigned_abs}
use Rattle.std.proofs.lemmas.Int.{fits_signed_from_abs}
use Rattle.std.proofs.lemmas.List.{take_more}
use Rattle.lp_cert.specs.declared.rows.Row.{Row}
use Rattle.lp_cert.specs.Program.{Program, IsProgram, IsRow, entry, row_at}
use Rattle.lp_cert.specs.Certificate.{AreSmall, entry_sum, side_sum}
use Rattle.exact_algebra.specs.Poly.{var, lit, ◌⊕◌}
use Rattle.exact_algebra.specs.Sums.{total_by}
use Rattle.exact_algebra.proofs.Normal.{ring}
use Rattle.exact_algebra.proofs.Order.{abs_sum}
use Rattle.exact_algebra.proofs.Sums.{total_by-append}

pub got : {A : Type 0} (xs : List A) (i : ℕ) (x : A) → slice_get xs i ≡ Some x → (d : A) → get_or xs i d ≡ x
got [] i x e d = cc
got (y ∷ xs) zero x e d = cc
got (y ∷ xs) (suc i) x e d = got xs i x e d

pub total_by_more : {A : Type 0} (f : A → ℤ) (xs : List A) (i : ℕ) (x : A) → i < length xs → slice_get xs i ≡ Some x → total_by f (take (i + 1) xs) ≡ total_by f (take i xs) +ℤ f x
total_by_more f xs i x l e =
    ap (total_by f) (take_more xs i x l) ∙ total_by-append f (take i xs) (get_or xs i x ∷ [])
    ∙ ap (λ z. total_by f (take i xs) +ℤ (f z +ℤ pos 0)) (got xs i x e x)
    ∙ ring (total_by f (take i xs) ∷ f x ∷ []) (var 0 ⊕ (var 1 ⊕ lit (pos 0))) (var 0 ⊕ var 1) refl

-- one more term of a bounded size
pub bound_more : (s t : ℤ) (i b : ℕ) → unsigned_abs s ≤ i * b → unsigned_abs t ≤ b → unsigned_abs (s +ℤ t) ≤ (i + 1) * b
bound_more s t i b h k = let a = abs_sum s t (i * b) b h k in omega arith

limit_small : (b : Bool) → cond {A = ℕ} b 1 3 ≤ 3
limit_small true = lit≤ tt
limit_small false = lit≤ tt

-- the row that was read is the row of the number
pub row_is : (p : Program) (l : ℕ) (row : Row) → slice_get p.rows l ≡ Some row → row_at p l ≡ row
row_is p l row e = got p.rows l row e (record { c = []; h = pos 0 })

pub right_row : (p : Program) (l : ℕ) (row : Row) → IsProgram p → l < length p.rows → slice_get p.rows l ≡ Some row → IsRow p.dimension row
right_row p l row q n e = subst (λ r. IsRow p.dimension r) (row_is p l row e) (q.each l (record { c = []; h = pos 0 }) n)

pub entry_small : (dimension k : ℕ) (row : Row) → IsRow dimension row → k < 3 → unsigned_abs (entry row.c k) ≤ 3
entry_small dimension k row h l =
    let a = h.entries k (pos 0) (omega (arith, h.three)) in
    let b = limit_small (nat_eq dimension 3) in
    omega arith

pub times_small : (items : List (ℕ × ℤ)) (i : ℕ) (item : ℕ × ℤ) → AreSmall items → i < length items → slice_get items i ≡ Some item → unsigned_abs item.1 ≤ 2 ^ 20
times_small items i item a l e = subst (λ (x : ℕ × ℤ). unsigned_abs x.1 ≤ 2 ^ 20) (got items i item e (0, pos 0)) (a i (0, pos 0) l)

pub entry_step : (p : Program) (items : List (ℕ × ℤ)) (axis i : ℕ) (item : ℕ × ℤ) (row : Row) (s t : ℤ) → i < length items → slice_get items i ≡ Some item → slice_get p.rows item.0 ≡ Some row
    → s ≡ entry_sum p (take i items) axis → t ≡ item.1 *ℤ entry row.c axis → s +ℤ t ≡ entry_sum p (take (i + 1) items) axis
entry_step p items axis i item row s t l e r h k =
    ap (λ z. z +ℤ t) h ∙ ap (λ z. entry_sum p (take i items) axis +ℤ z) (k ∙ ap (λ (x : Row). item.1 *ℤ entry x.c axis) (sym (row_is p item.0 row r)))
    ∙ sym (total_by_more (λ (x : ℕ × ℤ). x.1 *ℤ entry (row_at p x.0).c axis) items i item l e)

pub side_step : (p : Program) (items : List (ℕ × ℤ)) (i : ℕ) (item : ℕ × ℤ) (row : Row) (s t : ℤ) → i < length items → slice_get items i ≡ Some item → slice_get p.rows item.0 ≡ Some row
    → s ≡ side_sum p (take i items) → t ≡ item.1 *ℤ row.h → s +ℤ t ≡ side_sum p (take (i + 1) items)
side_step p items i item row s t l e r h k =
    ap (λ z. z +ℤ t) h ∙ ap (λ z. side_sum p (take i items) +ℤ z) (k ∙ ap (λ (x : Row). item.1 *ℤ x.h) (sym (row_is p item.0 row r)))
    ∙ sym (total_by_more (λ (x : ℕ × ℤ). x.1 *ℤ (row_at p x.0).h) items i item l e)

-- ---- sizes
pub fits_times : (x : ℤ) → unsigned_abs x ≤ 2 ^ 20 → FitsSigned w128 x
fits_times x h = fits_signed_from_abs w128 x (let n : 2 ^ 20 < 2 ^ 127 = lit< tt in omega arith)

pub fits_entry : (x : ℤ) → unsigned_abs x ≤ 3 → FitsSigned w32 x
fits_entry x h = fits_signed_from_abs w32 x (let n : 3 < 2 ^ 31 = lit< tt in omega arith)

pub fits_side : (x : ℤ) → unsigned_abs x ≤ 2 ^ 64 → FitsSigned w128 x
fits_side x h = fits_signed_from_abs w128 x (let n : 2 ^ 64 < 2 ^ 127 = lit< tt in omega arith)

pub fits_sum : (x : ℤ) (i : ℕ) → i < 4 → unsigned_abs x ≤ (i + 1) * 2 ^ 22 → FitsSigned w128 x
fits_sum x i l h = fits_signed_from_abs w128 x (let n : 4 * 2 ^ 22 < 2 ^ 127 = lit< tt in omega arith)

pub fits_sides : (x : ℤ) (i : ℕ) → i < 4 → unsigned_abs x ≤ (i + 1) * 2 ^ 84 → FitsSigned w128 x
fits_sides x i l h = fits_signed_from_abs w128 x (let n : 4 * 2 ^ 84 < 2 ^ 127 = lit< tt in omega arith)
