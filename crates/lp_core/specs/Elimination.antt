-- The elimination of a variable by a row that has become an equation.
use Rattle.std.specs.Prelude.{◌≡◌, ℕ, ◌*◌, ◌<◌, ◌≢◌, ℤ, pos, ◌+ℤ◌, ◌-ℤ◌, ◌*ℤ◌, List, [], ◌∷◌, ◌++◌, length, map, Bool, cond}
use Rattle.exact_algebra.specs.Sums.{total_by}
use Rattle.exact_algebra.specs.Normal.{is_nought}
use Rattle.lp_cert.specs.Program.{entry}
use Rattle.lp_core.specs.Lines.{along, is_seen, line_at}
use Rattle.lp_core.specs.declared.reduced.Line.{Line}
use Rattle.lp_core.specs.declared.pivot.Pivot.{Pivot}

-- what a row is multiplied by before the variable goes
abbrev pub factor_of : Pivot → Line → ℤ
factor_of p x = cond (is_nought (entry x.c p.place)) (pos 1) p.size

-- a row without the variable
pub record IsEliminated (p : Pivot) (x y : Line) : Type 0 where
  pub entries : (k : ℕ) → k < 3 → entry y.c k ≡ factor_of p x *ℤ entry x.c k -ℤ (p.sign *ℤ entry x.c p.place) *ℤ entry p.line.c k
  pub side : y.h ≡ factor_of p x *ℤ x.h -ℤ (p.sign *ℤ entry x.c p.place) *ℤ p.line.h
  pub same : entry x.c p.place ≡ pos 0 → y ≡ x

-- an objective without the variable
abbrev pub IsRest : Pivot → List ℤ → List ℤ → Type 0
IsRest p o rest = (k : ℕ) → k < 3 → entry rest k ≡ p.size *ℤ entry o k -ℤ (p.sign *ℤ entry o p.place) *ℤ entry p.line.c k

-- the row that stands at place l of the smaller program
abbrev pub source_of : Pivot → List Bool → ℕ → ℕ → ℕ
source_of p live r l = cond (is_seen live r l) l (2 * p.place)

-- an item of the smaller program as one of the larger
abbrev pub lifted_item : Pivot → List Line → List Bool → ℕ → ℕ × ℤ → ℕ × ℤ
lifted_item p lines live r item = (source_of p live r item.0, factor_of p (line_at lines (source_of p live r item.0)) *ℤ item.1)

-- how far the point of the plane moves along the variable's axis
abbrev pub way : Pivot → List ℤ → ℤ → ℤ
way p num den = p.sign *ℤ (p.line.h *ℤ den -ℤ along p.line.c num)

pub record IsLifted (p : Pivot) (num : List ℤ) (den : ℤ) (lifted : List ℤ) : Type 0 where
  pub moved : entry lifted p.place ≡ p.size *ℤ entry num p.place +ℤ way p num den
  pub others : (k : ℕ) → k < 3 → k ≢ p.place → entry lifted k ≡ p.size *ℤ entry num k

-- the sum of the variable's entries
abbrev pub pivot_sum : Pivot → List Line → List Bool → ℕ → List (ℕ × ℤ) → ℤ
pivot_sum p lines live r items = total_by (λ item. item.1 *ℤ entry (line_at lines (source_of p live r item.0)).c p.place) items

abbrev pub lifted_items : Pivot → List Line → List Bool → ℕ → List (ℕ × ℤ) → List (ℕ × ℤ)
lifted_items p lines live r items = map (lifted_item p lines live r) items

-- the items of the larger program, with that of the row that became an equation
abbrev pub with_pivot : Pivot → List Line → List Bool → ℕ → ℤ → List (ℕ × ℤ) → List (ℕ × ℤ)
with_pivot p lines live r wanted items = lifted_items p lines live r items ++ (r, p.sign *ℤ (wanted -ℤ pivot_sum p lines live r items)) ∷ []

-- each row of the smaller program comes from one of the larger
abbrev pub AreEliminated : Pivot → List Line → List Bool → ℕ → List Line → Type 0
AreEliminated p lines live r inner = (l : ℕ) → l < length inner → IsEliminated p (line_at lines (source_of p live r l)) (line_at inner l)
