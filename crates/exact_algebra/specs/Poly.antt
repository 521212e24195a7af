-- Polynomials over signed whole numbers. A proof states both sides of a claim as polynomials, and proves it by arithmetic on
-- naturals: a polynomial is worth what it gains less what it loses, and both of these are naturals.
use Rattle.std.specs.Prelude.{◌≡◌, ℕ, zero, suc, ◌+◌, ◌*◌, ◌<◌, ◌≤◌, ℤ, pos, ◌+ℤ◌, ◌-ℤ◌, ◌*ℤ◌, List, [], ◌∷◌}
use borrow.Author.Differences.{up, down}
use lib.IntN.{neg_ℤ}

infixl 6 ◌⊕◌ ◌⊖◌
infixl 7 ◌⊗◌
-- the variable of a number, a constant, and the operations
pub data Poly : Type 0 where
  var : ℕ → Poly
  lit : ℤ → Poly
  neg : Poly → Poly
  ◌⊕◌ : Poly → Poly → Poly
  ◌⊖◌ : Poly → Poly → Poly
  ◌⊗◌ : Poly → Poly → Poly

-- the value of a variable; 0 where the list has none
abbrev pub value_at : List ℤ → ℕ → ℤ
value_at [] i = pos 0
value_at (x ∷ xs) zero = x
value_at (x ∷ xs) (suc i) = value_at xs i

-- what a polynomial is worth where its variables have the values of the list
abbrev pub value : List ℤ → Poly → ℤ
value xs (var i) = value_at xs i
value xs (lit z) = z
value xs (neg a) = neg_ℤ (value xs a)
value xs (a ⊕ b) = value xs a +ℤ value xs b
value xs (a ⊖ b) = value xs a -ℤ value xs b
value xs (a ⊗ b) = value xs a *ℤ value xs b

-- a natural that is gained and one that is lost
pub record Parts : Type 0 where
  pub gain : ℕ
  pub loss : ℕ

-- the parts of a number: one of them is 0
abbrev pub parts_of : ℤ → Parts
parts_of z = record { gain = up z; loss = down z }

-- what a polynomial gains and loses
abbrev pub parts : List ℤ → Poly → Parts
parts xs (var i) = parts_of (value_at xs i)
parts xs (lit z) = parts_of z
parts xs (neg a) = record { gain = (parts xs a).loss; loss = (parts xs a).gain }
parts xs (a ⊕ b) = record { gain = (parts xs a).gain + (parts xs b).gain; loss = (parts xs a).loss + (parts xs b).loss }
parts xs (a ⊖ b) = record { gain = (parts xs a).gain + (parts xs b).loss; loss = (parts xs a).loss + (parts xs b).gain }
parts xs (a ⊗ b) = record {
  gain = (parts xs a).gain * (parts xs b).gain + (parts xs a).loss * (parts xs b).loss;
  loss = (parts xs a).gain * (parts xs b).loss + (parts xs a).loss * (parts xs b).gain;
}

-- two polynomials are equal, at most one another or below one another, said by their parts
abbrev pub SameParts : List ℤ → Poly → Poly → Type 0
SameParts xs a b = (parts xs a).gain + (parts xs b).loss ≡ (parts xs b).gain + (parts xs a).loss

abbrev pub AtMostParts : List ℤ → Poly → Poly → Type 0
AtMostParts xs a b = (parts xs a).gain + (parts xs b).loss ≤ (parts xs b).gain + (parts xs a).loss

abbrev pub BelowParts : List ℤ → Poly → Poly → Type 0
BelowParts xs a b = (parts xs a).gain + (parts xs b).loss < (parts xs b).gain + (parts xs a).loss
