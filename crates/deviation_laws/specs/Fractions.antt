-- Fractions that are only added and multiplied. Their denominators are positive.
use Rattle.std.specs.Prelude.{ℤ, pos, ◌+ℤ◌, ◌*ℤ◌}

pub record Fraction : Type 0 where
  pub num : ℤ
  pub den : ℤ

abbrev pub whole : ℤ → Fraction
whole z = record { num = z; den = pos 1 }

abbrev pub plus : Fraction → Fraction → Fraction
plus x y = record { num = (x.num *ℤ y.den) +ℤ (y.num *ℤ x.den); den = x.den *ℤ y.den }

abbrev pub times : ℤ → Fraction → Fraction
times z x = record { num = z *ℤ x.num; den = x.den }

abbrev pub divided_by : ℤ → Fraction → Fraction
divided_by z x = record { num = x.num; den = z *ℤ x.den }

abbrev pub product : Fraction → Fraction → Fraction
product x y = record { num = x.num *ℤ y.num; den = x.den *ℤ y.den }
