-- How claims on polynomials are proved: by `same`, `at_most` and `below`, from hypotheses by `same_parts`, `at_most_parts` and `below_parts`.
use Rattle.std.proofs.Common.{◌≡◌, ℕ, ◌+◌, ◌*◌, List, ap, arith}
use Rattle.std.specs.Prelude.{ℤ, ◌≤ℤ◌, ◌<ℤ◌}
use borrow.Author.Differences.{up, down, sum_is_lem, neg_is, product_is, same_in, at_most_in, below_in, le_out, lt_out, same_out}
use lib.IntN.{neg_ℤ}
use Rattle.exact_algebra.specs.Poly.{Poly, var, lit, neg, ◌⊕◌, ◌⊖◌, ◌⊗◌, value, parts, SameParts, AtMostParts, BelowParts}

-- a product of differences: u - d = g - l and u' - d' = g' - l' give (u - d)(u' - d') = (g - l)(g' - l')
cross : (u d g l u' d' g' l' : ℕ) → u + l ≡ d + g → u' + l' ≡ d' + g' → (u * u' + d * d') + (g * l' + l * g') ≡ (u * d' + d * u') + (g * g' + l * l')
cross u d g l u' d' g' l' e e' =
    let p : u' * (u + l) ≡ u' * (d + g) = ap (λ n. u' * n) e in
    let q : d' * (u + l) ≡ d' * (d + g) = ap (λ n. d' * n) e in
    let r : g * (u' + l') ≡ g * (d' + g') = ap (λ n. g * n) e' in
    let s : l * (u' + l') ≡ l * (d' + g') = ap (λ n. l * n) e' in
    omega arith

-- a polynomial is worth what it gains less what it loses
pub value_is : (xs : List ℤ) (e : Poly) → up (value xs e) + (parts xs e).loss ≡ down (value xs e) + (parts xs e).gain
value_is xs (var i) = omega arith
value_is xs (lit z) = omega arith
value_is xs (neg a) = omega (arith, value_is xs a, neg_is (value xs a))
value_is xs (a ⊕ b) = omega (arith, value_is xs a, value_is xs b, sum_is_lem (value xs a) (value xs b))
value_is xs (a ⊖ b) = omega (arith, value_is xs a, value_is xs b, neg_is (value xs b), sum_is_lem (value xs a) (neg_ℤ (value xs b)))
value_is xs (a ⊗ b) =
    omega (arith, product_is (value xs a) (value xs b), cross (up (value xs a)) (down (value xs a)) (parts xs a).gain (parts xs a).loss (up (value xs b)) (down (value xs b)) (parts xs b).gain (parts xs b).loss (value_is xs a) (value_is xs b))

pub same : (xs : List ℤ) (a b : Poly) → SameParts xs a b → value xs a ≡ value xs b
same xs a b h = same_in (value xs a) (value xs b) (omega (arith, value_is xs a, value_is xs b))

pub at_most : (xs : List ℤ) (a b : Poly) → AtMostParts xs a b → value xs a ≤ℤ value xs b
at_most xs a b h = at_most_in (value xs a) (value xs b) (omega (arith, value_is xs a, value_is xs b))

pub below : (xs : List ℤ) (a b : Poly) → BelowParts xs a b → value xs a <ℤ value xs b
below xs a b h = below_in (value xs a) (value xs b) (omega (arith, value_is xs a, value_is xs b))

-- what a hypothesis says of the parts
pub same_parts : (xs : List ℤ) (a b : Poly) → value xs a ≡ value xs b → SameParts xs a b
same_parts xs a b h = omega (arith, value_is xs a, value_is xs b, same_out (value xs a) (value xs b) h)

pub at_most_parts : (xs : List ℤ) (a b : Poly) → value xs a ≤ℤ value xs b → AtMostParts xs a b
at_most_parts xs a b h = omega (arith, value_is xs a, value_is xs b, le_out (value xs a) (value xs b) h)

pub below_parts : (xs : List ℤ) (a b : Poly) → value xs a <ℤ value xs b → BelowParts xs a b
below_parts xs a b h = omega (arith, value_is xs a, value_is xs b, lt_out (value xs a) (value xs b) h)
