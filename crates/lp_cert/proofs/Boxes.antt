-- The rows of a box.
use Rattle.std.proofs.Common.{◌≡◌, ℕ, zero, suc, ◌+◌, ◌*◌, ◌<◌, ◌≤◌, ◌^◌, Bool, true, false, List, [], ◌∷◌, length, refl, arith, lit≤}
use Rattle.std.specs.Prelude.{ℤ, pos, negsuc, All, cond, nat_eq}
use Rattle.std.specs.Int.RustNames.{unsigned_abs}
use Rattle.std.proofs.lemmas.List.Elements.{All-cons, All-nil, All-head, All-tail}
use Rattle.lp_cert.specs.declared.rows.Row.{Row}
use Rattle.lp_cert.specs.Program.{Program, IsProgram, IsRow, axis, box_rows, entry, entry_limit, row_at}

abbrev boxed : List ℤ → List ℤ → Program
boxed us ls = record { dimension = length us; rows = box_rows 0 us ls }

limit_some : (b : Bool) (x : ℤ) → unsigned_abs x ≤ 1 → unsigned_abs x ≤ cond {A = ℕ} b 1 3
limit_some true x h = h
limit_some false x h = omega (arith, h)

three : (n : ℕ) (a b d : ℤ) → unsigned_abs a ≤ 1 → unsigned_abs b ≤ 1 → unsigned_abs d ≤ 1 → All (λ x. unsigned_abs x ≤ entry_limit n) (a ∷ b ∷ d ∷ [])
three n a b d p q r =
    let P = λ (x : ℤ). unsigned_abs x ≤ entry_limit n in
    All-cons P a (b ∷ d ∷ []) (limit_some (nat_eq n 3) a p) (All-cons P b (d ∷ []) (limit_some (nat_eq n 3) b q) (All-cons P d [] (limit_some (nat_eq n 3) d r) (All-nil P)))

zeros_0 : (n : ℕ) (s : ℤ) (k : ℕ) → 0 < n → n ≤ k → entry (axis 0 s) k ≡ pos 0
zeros_0 n s zero l h = absurd (omega (arith, l, h))
zeros_0 n s (suc zero) l h = refl
zeros_0 n s (suc (suc zero)) l h = refl
zeros_0 n s (suc (suc (suc k))) l h = refl

zeros_1 : (n : ℕ) (s : ℤ) (k : ℕ) → 1 < n → n ≤ k → entry (axis 1 s) k ≡ pos 0
zeros_1 n s zero l h = refl
zeros_1 n s (suc zero) l h = absurd (omega (arith, l, h))
zeros_1 n s (suc (suc zero)) l h = refl
zeros_1 n s (suc (suc (suc k))) l h = refl

zeros_2 : (n : ℕ) (s : ℤ) (k : ℕ) → 2 < n → n ≤ k → entry (axis 2 s) k ≡ pos 0
zeros_2 n s zero l h = refl
zeros_2 n s (suc zero) l h = refl
zeros_2 n s (suc (suc zero)) l h = absurd (omega (arith, l, h))
zeros_2 n s (suc (suc (suc k))) l h = refl

-- a row of one entry
axis_row : (n i : ℕ) (s h : ℤ) → unsigned_abs s ≤ 1 → i < n → n ≤ 3 → unsigned_abs h ≤ 2 ^ 64 → IsRow n (record { c = axis i s; h = h })
axis_row n zero s h b l f k = record { three = refl; entries = three n s (pos 0) (pos 0) b (lit≤ tt) (lit≤ tt); zeros = λ j g. zeros_0 n s j l g; side = k }
axis_row n (suc zero) s h b l f k = record { three = refl; entries = three n (pos 0) s (pos 0) (lit≤ tt) b (lit≤ tt); zeros = λ j g. zeros_1 n s j l g; side = k }
axis_row n (suc (suc zero)) s h b l f k = record { three = refl; entries = three n (pos 0) (pos 0) s (lit≤ tt) (lit≤ tt) b; zeros = λ j g. zeros_2 n s j l g; side = k }
axis_row n (suc (suc (suc i))) s h b l f k = absurd (omega (arith, l, f))

pair : (n i : ℕ) (u l : ℤ) (rest : List Row) → i < n → n ≤ 3 → unsigned_abs u ≤ 2 ^ 64 → unsigned_abs l ≤ 2 ^ 64 → All (IsRow n) rest
    → All (IsRow n) (record { c = axis i (pos 1); h = u } ∷ record { c = axis i (negsuc 0); h = l } ∷ rest)
pair n i u l rest f g p q h =
    All-cons (IsRow n) (record { c = axis i (pos 1); h = u }) (record { c = axis i (negsuc 0); h = l } ∷ rest) (axis_row n i (pos 1) u (lit≤ tt) f g p)
    (All-cons (IsRow n) (record { c = axis i (negsuc 0); h = l }) rest (axis_row n i (negsuc 0) l (lit≤ tt) f g q) h)

rows_from : (n i : ℕ) (us ls : List ℤ) → i + length us ≤ n → n ≤ 3 → All (λ h. unsigned_abs h ≤ 2 ^ 64) us → All (λ h. unsigned_abs h ≤ 2 ^ 64) ls → All (IsRow n) (box_rows i us ls)
rows_from n i [] ls f g p q = All-nil (IsRow n)
rows_from n i (u ∷ us) [] f g p q = All-nil (IsRow n)
rows_from n i (u ∷ us) (l ∷ ls) f g p q =
    let P = λ (h : ℤ). unsigned_abs h ≤ 2 ^ 64 in
    pair n i u l (box_rows (i + 1) us ls) (omega (arith, f)) g (All-head P u us p) (All-head P l ls q)
    (rows_from n (i + 1) us ls (omega (arith, f)) g (All-tail P u us p) (All-tail P l ls q))

abbrev HasAxes : Program → ℕ → Type 0
HasAxes p i = ((row_at p (2 * i)).c ≡ axis i (pos 1)) × ((row_at p (2 * i + 1)).c ≡ axis i (negsuc 0))

axes_1 : (u l : ℤ) (i : ℕ) → i < 1 → HasAxes (boxed (u ∷ []) (l ∷ [])) i
axes_1 u l zero f = (refl, refl)
axes_1 u l (suc i) f = absurd (omega (arith, f))

axes_2 : (u v l m : ℤ) (i : ℕ) → i < 2 → HasAxes (boxed (u ∷ v ∷ []) (l ∷ m ∷ [])) i
axes_2 u v l m zero f = (refl, refl)
axes_2 u v l m (suc zero) f = (refl, refl)
axes_2 u v l m (suc (suc i)) f = absurd (omega (arith, f))

axes_3 : (u v w l m n : ℤ) (i : ℕ) → i < 3 → HasAxes (boxed (u ∷ v ∷ w ∷ []) (l ∷ m ∷ n ∷ [])) i
axes_3 u v w l m n zero f = (refl, refl)
axes_3 u v w l m n (suc zero) f = (refl, refl)
axes_3 u v w l m n (suc (suc zero)) f = (refl, refl)
axes_3 u v w l m n (suc (suc (suc i))) f = absurd (omega (arith, f))

pub boxed_is_program : (us ls : List ℤ) → 1 ≤ length us → length us ≤ 3 → length us ≡ length ls → All (λ h. unsigned_abs h ≤ 2 ^ 64) us → All (λ h. unsigned_abs h ≤ 2 ^ 64) ls → IsProgram (boxed us ls)
boxed_is_program (u ∷ []) (l ∷ []) a b e p q =
    record { some = lit≤ tt; few = lit≤ tt; room = lit≤ tt; each = rows_from 1 0 (u ∷ []) (l ∷ []) (lit≤ tt) (lit≤ tt) p q; has_box = lit≤ tt; box = axes_1 u l }
boxed_is_program (u ∷ v ∷ []) (l ∷ m ∷ []) a b e p q =
    record { some = lit≤ tt; few = lit≤ tt; room = lit≤ tt; each = rows_from 2 0 (u ∷ v ∷ []) (l ∷ m ∷ []) (lit≤ tt) (lit≤ tt) p q; has_box = lit≤ tt; box = axes_2 u v l m }
boxed_is_program (u ∷ v ∷ w ∷ []) (l ∷ m ∷ n ∷ []) a b e p q =
    record { some = lit≤ tt; few = lit≤ tt; room = lit≤ tt; each = rows_from 3 0 (u ∷ v ∷ w ∷ []) (l ∷ m ∷ n ∷ []) (lit≤ tt) (lit≤ tt) p q; has_box = lit≤ tt; box = axes_3 u v w l m n }
boxed_is_program us ls a b e p q = absurd (omega (arith, a, b, e))
