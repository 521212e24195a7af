-- The best corner of a box.
use Rattle.std.specs.Prelude.{◌≡◌, ◌⊎◌, ℕ, ◌+◌, ◌*◌, ℤ, pos, ◌+ℤ◌, ◌-ℤ◌, ◌<ℤ◌, ◌≤ℤ◌, List}
use Rattle.lp_core.specs.Lines.{line_at}
use Rattle.lp_core.specs.declared.reduced.Line.{Line}
use Rattle.lp_core.specs.declared.corner.End.{End}

-- the ends of the box of a variable
abbrev pub upper_side : List Line → ℕ → ℤ
upper_side lines k = (line_at lines (2 * k)).h

abbrev pub lower_side : List Line → ℕ → ℤ
lower_side lines k = (line_at lines (2 * k + 1)).h

pub record IsUpperEnd (lines : List Line) (k : ℕ) (o : ℤ) (e : End) : Type 0 where
  pub row : e.row ≡ 2 * k
  pub at : e.at ≡ upper_side lines k
  pub times : e.times ≡ o
  pub sign : pos 0 ≤ℤ o

pub record IsLowerEnd (lines : List Line) (k : ℕ) (o : ℤ) (e : End) : Type 0 where
  pub row : e.row ≡ 2 * k + 1
  pub at : e.at ≡ pos 0 -ℤ lower_side lines k
  pub times : e.times ≡ pos 0 -ℤ o
  pub sign : o <ℤ pos 0

-- the end at which the variable adds most to the objective, where its coefficient is o
pub record IsEnd (lines : List Line) (k : ℕ) (o : ℤ) (e : End) : Type 0 where
  pub some : pos 0 ≤ℤ (upper_side lines k +ℤ lower_side lines k)
  pub which : IsUpperEnd lines k o e ⊎ IsLowerEnd lines k o e
