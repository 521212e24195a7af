-- Bounds of the last variable, on the line of a row that has become an equation. They are plain numbers: bodies of 64 and of 128 bits share them.
use Rattle.std.specs.Prelude.{◌≡◌, ◌⊎◌, ℕ, ◌+◌, ◌*◌, ◌<◌, ℤ, pos, negsuc, ◌-ℤ◌, ◌*ℤ◌, ◌<ℤ◌, ◌≤ℤ◌, List, length, true}
use Rattle.lp_cert.specs.Program.{entry}
use Rattle.lp_core.specs.Lines.{line_at, is_seen}
use Rattle.lp_core.specs.Reduced.{Reduced}
use Rattle.lp_core.specs.Elimination.{factor_of}
use Rattle.lp_core.specs.declared.reduced.Line.{Line}
use Rattle.lp_core.specs.declared.pivot.Pivot.{Pivot}

-- ---- what is left of a row and of an objective
abbrev pub left_entry : Pivot → Line → ℕ → ℤ
left_entry p x k = factor_of p x *ℤ entry x.c k -ℤ (p.sign *ℤ entry x.c p.place) *ℤ entry p.line.c k

abbrev pub left_side : Pivot → Line → ℤ
left_side p x = factor_of p x *ℤ x.h -ℤ (p.sign *ℤ entry x.c p.place) *ℤ p.line.h

abbrev pub left_objective : Pivot → List ℤ → ℕ → ℤ
left_objective p o k = p.size *ℤ entry o k -ℤ (p.sign *ℤ entry o p.place) *ℤ entry p.line.c k

-- a row of a program that was seen
abbrev pub IsSeenRow : Reduced → ℕ → ℕ → Type 0
IsSeenRow P r l = (l < length P.lines) × (is_seen P.live r l ≡ true)

-- ---- bounds
-- the two rows of the box of a variable
abbrev pub IsBoxRow : ℕ → ℕ → Type 0
IsBoxRow k l = (l ≡ 2 * k) ⊎ (l ≡ 2 * k + 1)

-- a variable, or its opposite, is at most side / entry by the row of this number
pub record Limit : Type 0 where
  pub row : ℕ
  pub entry : ℤ
  pub side : ℤ

-- the least bound of a variable, and that of its opposite
pub record Reach : Type 0 where
  pub upper : Limit
  pub lower : Limit

-- the better end of what is left of the line
pub record Peak : Type 0 where
  pub row : ℕ
  pub at : ℤ
  pub den : ℤ
  pub times : ℤ

-- a bound of the variable at place k, or of its opposite, where s is -1: that of one of the rows, and the least among the rows that are done
pub record IsLimit (s : ℤ) (lines : List Line) (p : Pivot) (k : ℕ) (done rows : ℕ → Type 0) (b : Limit) : Type 0 where
  pub row : rows b.row
  pub positive : pos 0 <ℤ b.entry
  pub entry : b.entry ≡ s *ℤ left_entry p (line_at lines b.row) k
  pub side : b.side ≡ left_side p (line_at lines b.row)
  pub below : (l : ℕ) → done l → pos 0 <ℤ (s *ℤ left_entry p (line_at lines l) k) → (b.side *ℤ (s *ℤ left_entry p (line_at lines l) k)) ≤ℤ (left_side p (line_at lines l) *ℤ b.entry)

-- the bounds that the rows that are done make
pub record IsReach (lines : List Line) (p : Pivot) (k : ℕ) (done rows : ℕ → Type 0) (e : Reach) : Type 0 where
  pub upper : IsLimit (pos 1) lines p k done rows e.upper
  pub lower : IsLimit (negsuc 0) lines p k done rows e.lower
  pub flat : (l : ℕ) → done l → left_entry p (line_at lines l) k ≡ pos 0 → pos 0 ≤ℤ left_side p (line_at lines l)

pub record IsTighter (old new b : Limit) : Type 0 where
  pub which : (b ≡ old) ⊎ (b ≡ new)
  pub by_old : (b.side *ℤ old.entry) ≤ℤ (old.side *ℤ b.entry)
  pub by_new : (b.side *ℤ new.entry) ≤ℤ (new.side *ℤ b.entry)

-- one more row, of which entry * y ≤ side is left
pub record IsUpperCut (e : Reach) (entry side : ℤ) (l : ℕ) (f : Reach) : Type 0 where
  pub sign : pos 0 <ℤ entry
  pub lower : f.lower ≡ e.lower
  pub upper : IsTighter e.upper (record { row = l; entry = entry; side = side }) f.upper

pub record IsLowerCut (e : Reach) (entry side : ℤ) (l : ℕ) (f : Reach) : Type 0 where
  pub sign : entry <ℤ pos 0
  pub upper : f.upper ≡ e.upper
  pub lower : IsTighter e.lower (record { row = l; entry = pos 0 -ℤ entry; side = side }) f.lower

pub record IsFlatCut (e : Reach) (entry side : ℤ) (f : Reach) : Type 0 where
  pub sign : entry ≡ pos 0
  pub same : f ≡ e
  pub met : pos 0 ≤ℤ side

abbrev pub IsCut : Reach → ℤ → ℤ → ℕ → Reach → Type 0
IsCut e entry side l f = IsUpperCut e entry side l f ⊎ (IsLowerCut e entry side l f ⊎ IsFlatCut e entry side f)

-- a row that no point meets
pub record IsMissed (entry side : ℤ) : Type 0 where
  pub none : entry ≡ pos 0
  pub below : side <ℤ pos 0

-- one of the rows, which no point of the line meets
pub record IsApart (lines : List Line) (p : Pivot) (k : ℕ) (rows : ℕ → Type 0) (l : ℕ) : Type 0 where
  pub row : rows l
  pub none : left_entry p (line_at lines l) k ≡ pos 0
  pub side : left_side p (line_at lines l) <ℤ pos 0

-- ---- the better end
pub record IsUpperPeak (e : Reach) (o : ℤ) (t : Peak) : Type 0 where
  pub row : t.row ≡ e.upper.row
  pub at : t.at ≡ e.upper.side
  pub den : t.den ≡ e.upper.entry
  pub times : t.times ≡ o
  pub sign : pos 0 ≤ℤ o

pub record IsLowerPeak (e : Reach) (o : ℤ) (t : Peak) : Type 0 where
  pub row : t.row ≡ e.lower.row
  pub at : t.at ≡ pos 0 -ℤ e.lower.side
  pub den : t.den ≡ e.lower.entry
  pub times : t.times ≡ pos 0 -ℤ o
  pub sign : o <ℤ pos 0

abbrev pub IsPeak : Reach → ℤ → Peak → Type 0
IsPeak e o t = IsUpperPeak e o t ⊎ IsLowerPeak e o t

-- ---- what is known of a row that is looked at
abbrev pub IsCutByRow : List Line → Pivot → ℕ → Reach → ℕ → Reach → Type 0
IsCutByRow lines p k e l f = IsCut e (left_entry p (line_at lines l) k) (left_side p (line_at lines l)) l f

abbrev pub IsMissedRow : List Line → Pivot → ℕ → ℕ → Type 0
IsMissedRow lines p k l = IsMissed (left_entry p (line_at lines l) k) (left_side p (line_at lines l))
