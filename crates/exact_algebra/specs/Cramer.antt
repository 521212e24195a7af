-- Three equations in three unknowns.
use Rattle.std.specs.Prelude.{ℤ, ◌+ℤ◌, ◌-ℤ◌, ◌*ℤ◌}

-- the coefficients of an equation
pub record Coefficients : Type 0 where
  pub a : ℤ
  pub b : ℤ
  pub c : ℤ

-- what an equation's left side is at the unknowns x, y and z
abbrev pub sum_at : Coefficients → ℤ → ℤ → ℤ → ℤ
sum_at r x y z = r.a *ℤ x +ℤ r.b *ℤ y +ℤ r.c *ℤ z

-- the determinant of three rows
abbrev pub determinant : Coefficients → Coefficients → Coefficients → ℤ
determinant r s t = r.a *ℤ (s.b *ℤ t.c -ℤ s.c *ℤ t.b) -ℤ r.b *ℤ (s.a *ℤ t.c -ℤ s.c *ℤ t.a) +ℤ r.c *ℤ (s.a *ℤ t.b -ℤ s.b *ℤ t.a)

-- a row with another first coefficient
abbrev pub with_first : ℤ → Coefficients → Coefficients
with_first d r = record { a = d; b = r.b; c = r.c }
