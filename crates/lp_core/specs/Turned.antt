-- What is left on the plane of a row of a program of three variables, in the two that stay: the variable that goes changes places with the last, and its box with the last's.
use Rattle.std.specs.Prelude.{◌≡◌, ℕ, ◌+◌, ◌*◌, ◌/◌, ◌%◌, ◌<◌, ℤ, List, [], ◌∷◌, length, map, nat_eq, nat_lt, cond}
use Rattle.lp_cert.specs.Program.{Program, entry, row_at}
use Rattle.lp_core.specs.Lines.{line_at}
use Rattle.lp_core.specs.Planar.{line_of}
use Rattle.lp_core.specs.Reduced.{Reduced}
use Rattle.lp_core.specs.Sizes.{level}
use Rattle.lp_core.specs.Smaller.{eliminated}
use Rattle.lp_core.specs.declared.reduced.Line.{Line}
use Rattle.lp_core.specs.declared.pivot.Pivot.{Pivot}
use Rattle.lp_core.specs.declared.search.Outcome.{Outcome}
use Rattle.lp_core.specs.declared.search.Outcome.TheVariants.{Best, Infeasible}

-- the place of a variable
abbrev pub turned : ℕ → ℕ → ℕ
turned gone k = cond (nat_eq k gone) 2 (cond (nat_eq k 2) gone k)

-- the number of a row
abbrev pub turned_row : ℕ → ℕ → ℕ
turned_row gone l = cond (nat_lt l 6) (2 * turned gone (l / 2) + l % 2) l

-- the same row at the other places
pub record IsTurnedLine (gone : ℕ) (x y : Line) : Type 0 where
  pub entries : (k : ℕ) → k < 3 → entry y.c k ≡ entry x.c (turned gone k)
  pub side : y.h ≡ x.h

-- the same program at the other places
pub record IsTurned (gone : ℕ) (P Q : Reduced) : Type 0 where
  pub count : length Q.lines ≡ length P.lines
  pub levels : level Q.live ≡ level P.live
  pub each : (l : ℕ) → l < length P.lines → IsTurnedLine gone (line_at P.lines (turned_row gone l)) (line_at Q.lines l)

-- what is left of a row
abbrev pub IsLeft : Pivot → Line → Line → Type 0
IsLeft p x y = IsTurnedLine p.place (eliminated p x) y

-- what is left of n rows
abbrev pub AreLeft : Pivot → Program → ℕ → Program → Type 0
AreLeft p P n Q = (l : ℕ) → l < n → IsLeft p (line_of (row_at P (turned_row p.place l))) (line_of (row_at Q l))

-- ---- what the program comes to, at the first places
abbrev pub num_back : ℕ → List ℤ → List ℤ
num_back gone y = entry y (turned gone 0) ∷ entry y (turned gone 1) ∷ entry y (turned gone 2) ∷ []

abbrev pub turned_item : ℕ → ℕ × ℤ → ℕ × ℤ
turned_item gone item = (turned_row gone item.0, item.1)

abbrev pub items_back : ℕ → List (ℕ × ℤ) → List (ℕ × ℤ)
items_back gone items = map (turned_item gone) items

abbrev pub outcome_back : ℕ → Outcome → Outcome
outcome_back gone (Best b) = Best (record { num = num_back gone b.num; den = b.den; items = items_back gone b.items })
outcome_back gone (Infeasible items) = Infeasible (items_back gone items)
