-- Rows of linear programs, and the points that meet them.
use Rattle.std.specs.Prelude.{◌≡◌, ℕ, ◌+◌, ◌*◌, ◌^◌, ◌<◌, ◌≤◌, ℤ, pos, negsuc, ◌*ℤ◌, ◌<ℤ◌, ◌≤ℤ◌, List, [], ◌∷◌, length, nat_eq, cond, slice_index_or, slice_set, All}
use Rattle.std.specs.Int.RustNames.{unsigned_abs}
use Rattle.exact_algebra.specs.Sums.{dot}
use Rattle.lp_cert.specs.declared.rows.Row.{Row}

-- the number of variables, and the rows in order
pub record Program : Type 0 where
  pub dimension : ℕ
  pub rows : List Row

-- the entry of a vector at a place
abbrev pub entry : List ℤ → ℕ → ℤ
entry xs k = slice_index_or xs k (pos 0)

-- the greatest entry of a row in absolute value
abbrev pub entry_limit : ℕ → ℕ
entry_limit dimension = cond (nat_eq dimension 3) 1 3

-- a row of a program of this dimension
pub record IsRow (dimension : ℕ) (r : Row) : Type 0 where
  pub three : length r.c ≡ 3
  pub entries : All (λ x. unsigned_abs x ≤ entry_limit dimension) r.c
  pub zeros : (k : ℕ) → dimension ≤ k → entry r.c k ≡ pos 0
  pub side : unsigned_abs r.h ≤ 2 ^ 64

-- the vector with one entry that isn't 0
abbrev pub axis : ℕ → ℤ → List ℤ
axis i x = slice_set (pos 0 ∷ pos 0 ∷ pos 0 ∷ []) i x

-- the rows y_i ≤ upper_i and -y_i ≤ lower_i of each variable from a number on
abbrev pub box_rows : ℕ → List ℤ → List ℤ → List Row
box_rows i [] lower = []
box_rows i (u ∷ upper) [] = []
box_rows i (u ∷ upper) (l ∷ lower) = record { c = axis i (pos 1); h = u } ∷ record { c = axis i (negsuc 0); h = l } ∷ box_rows (i + 1) upper lower

-- the row of a number; an empty one where there is none
abbrev pub row_at : Program → ℕ → Row
row_at p l = slice_index_or p.rows l (record { c = []; h = pos 0 })

-- one to three variables, at most 40 rows, and first the box
pub record IsProgram (p : Program) : Type 0 where
  pub some : 1 ≤ p.dimension
  pub few : p.dimension ≤ 3
  pub room : length p.rows ≤ 40
  pub each : All (IsRow p.dimension) p.rows
  pub has_box : 2 * p.dimension ≤ length p.rows
  pub box : (i : ℕ) → i < p.dimension → ((row_at p (2 * i)).c ≡ axis i (pos 1)) × ((row_at p (2 * i + 1)).c ≡ axis i (negsuc 0))

-- a fraction vector: numerators and one denominator
pub record Point : Type 0 where
  pub num : List ℤ
  pub den : ℤ

-- a fraction vector that meets all rows
pub record Meets (p : Program) (y : Point) : Type 0 where
  pub positive : pos 0 <ℤ y.den
  pub each : All (λ r. dot r.c y.num ≤ℤ (r.h *ℤ y.den)) p.rows
