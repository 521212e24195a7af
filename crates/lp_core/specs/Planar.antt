-- Programs of two variables, on the line of a row that has become an equation.
use Rattle.std.specs.Prelude.{◌≡◌, ℕ, ◌-◌, ◌^◌, ◌<◌, ◌≤◌, ℤ, pos, ◌+ℤ◌, ◌-ℤ◌, ◌*ℤ◌, List, [], ◌∷◌, map, nat_lt, slice_set}
use Rattle.std.specs.Int.RustNames.{unsigned_abs}
use Rattle.lp_cert.specs.declared.rows.Row.{Row}
use Rattle.lp_cert.specs.Program.{Program, entry}
use Rattle.lp_core.specs.Lines.{line_at}
use Rattle.lp_core.specs.Elimination.{factor_of}
use Rattle.lp_core.specs.Bounds.{Limit, Reach, Peak, IsReach, IsCut}
use Rattle.lp_core.specs.declared.reduced.Line.{Line}
use Rattle.lp_core.specs.Reduced.{Reduced}
use Rattle.lp_core.specs.declared.reduced.Optimum.{Optimum}
use Rattle.lp_core.specs.declared.pivot.Pivot.{Pivot}
use Rattle.lp_core.specs.declared.edge.Half.{Half}
use Rattle.lp_core.specs.declared.corner.End.{End}
use Rattle.lp_core.specs.declared.edge.BoxEnd.{BoxEnd}
use Rattle.lp_core.specs.declared.edge.Edge.{Edge}
use Rattle.lp_core.specs.declared.edge.Cut.{Cut}
use Rattle.lp_core.specs.declared.edge.Bound.{Bound}
use Rattle.lp_core.specs.declared.edge.Ends.{Ends}
use Rattle.lp_core.specs.declared.edge.Tip.{Tip}
use Rattle.lp_core.specs.declared.edge.Spot.{Spot}

-- ---- rows
abbrev pub line_of : Row → Line
line_of r = record { c = r.c; h = r.h }

-- a program before any elimination
unfoldable pub whole_of : Program → Reduced
whole_of p = record { live = nat_lt 0 p.dimension ∷ nat_lt 1 p.dimension ∷ nat_lt 2 p.dimension ∷ []; lines = map line_of p.rows }

abbrev pub lines_of : Program → List Line
lines_of p = (whole_of p).lines

-- the first n rows have small sides
abbrev pub AreNarrow : List Line → ℕ → Type 0
AreNarrow lines n = (l : ℕ) → l < n → unsigned_abs (line_at lines l).h ≤ 2 ^ 51

abbrev pub half_line : Half → Line
half_line x = record { c = x.first ∷ x.second ∷ pos 0 ∷ []; h = x.side }

-- the row that an edge stands for, with the variable that goes
abbrev pub pivot_of : Edge → Pivot
pivot_of e = record { line = half_line e.row; place = e.place; size = e.size; sign = e.sign; inside = e.inside; positive = e.positive; small_sign = e.small_sign; is_size = e.is_size }

-- ---- bounds on 64 bits
abbrev pub limit_of : Bound → Limit
limit_of b = record { row = b.row; entry = b.entry; side = b.side }

abbrev pub reach_of : Ends → Reach
reach_of e = record { upper = limit_of e.upper; lower = limit_of e.lower }

abbrev pub peak_of : Tip → Peak
peak_of t = record { row = t.row; at = t.at; den = t.den; times = t.times }

abbrev pub AreEnds : List Line → Pivot → ℕ → (ℕ → Type 0) → (ℕ → Type 0) → Ends → Type 0
AreEnds lines p k done rows e = IsReach lines p k done rows (reach_of e)

abbrev pub IsCutBy : Ends → Cut → ℕ → Ends → Type 0
IsCutBy e c l f = IsCut (reach_of e) c.entry c.side l (reach_of f)

-- multipliers of two rows, and of the edge's row, by which the variable goes
abbrev pub farkas_of : Pivot → List Line → ℕ → ℕ × ℤ → ℕ × ℤ → List (ℕ × ℤ)
farkas_of p lines r first second =
    (first.0, factor_of p (line_at lines first.0) *ℤ first.1) ∷ (second.0, factor_of p (line_at lines second.0) *ℤ second.1)
    ∷ (r, pos 0 -ℤ p.sign *ℤ (first.1 *ℤ entry (line_at lines first.0).c p.place +ℤ second.1 *ℤ entry (line_at lines second.0).c p.place)) ∷ []

-- the numerators on the line, where the variable that goes is 0
abbrev pub tip_num : Edge → Tip → List ℤ
tip_num e t = slice_set (pos 0 ∷ pos 0 ∷ pos 0 ∷ []) (1 - e.place) t.at

-- ---- optima
abbrev pub end_of : BoxEnd → End
end_of e = record { at = e.at; row = e.row; times = e.times }

abbrev pub spot_num : Spot → List ℤ
spot_num s = s.first ∷ s.second ∷ pos 0 ∷ []

abbrev pub spot_items : Spot → List (ℕ × ℤ)
spot_items s = (s.row, s.times) ∷ (s.base, s.base_times) ∷ []

abbrev pub optimum_of : Spot → Optimum
optimum_of s = record { num = spot_num s; den = s.den; items = spot_items s }

-- the optimum on the edge of row r, from the better end, which is on row x
pub record IsSpot (e : Edge) (o : List ℤ) (r : ℕ) (t : Tip) (x : Line) (s : Spot) : Type 0 where
  pub own : entry (spot_num s) e.place ≡ e.sign *ℤ (e.row.side *ℤ t.den -ℤ entry (half_line e.row).c (1 - e.place) *ℤ t.at)
  pub other : entry (spot_num s) (1 - e.place) ≡ e.size *ℤ t.at
  pub den : s.den ≡ e.size *ℤ t.den
  pub row : s.row ≡ t.row
  pub times : s.times ≡ factor_of (pivot_of e) x *ℤ t.times
  pub base : s.base ≡ r
  pub base_times : s.base_times ≡ e.sign *ℤ (t.den *ℤ entry o e.place -ℤ t.times *ℤ entry x.c e.place)
