use Rattle.std.proofs.Common.{◌≡◌, ap, ◌∙◌, rules, arith, to_z, of_z, FitsSigned}
use Rattle.std.specs.Prelude.{ℤ, pos, ◌+ℤ◌, ◌-ℤ◌, ◌*ℤ◌}
use mir.Syntax.{w64}
use Rattle.std.proofs.lemmas.Int.{to_z-of_z, fits_signed_from_abs}
use Rattle.inner_sets.proofs.Steps.{product_swap}
use Rattle.inner_sets.proofs.lattice.lattice_part.Goals as goal

pub returns : goal.returns
returns c =
    let f1 : FitsSigned w64 c.times-least.result = search rules in
    let f2 : FitsSigned w64 c.times-more.result = search rules in
    let f3 : FitsSigned w64 c.sum.result = search rules in
    let f4 : FitsSigned w64 c.span.result = search rules in
    let r0 : to_z w64 (of_z w64 c.args.range.0) ≡ c.args.range.0 = to_z-of_z w64 c.args.range.0 (fits_signed_from_abs w64 c.args.range.0 (omega (arith, c.requires.low))) in
    let r1 : to_z w64 (of_z w64 c.args.range.1) ≡ c.args.range.1 = to_z-of_z w64 c.args.range.1 (fits_signed_from_abs w64 c.args.range.1 (omega (arith, c.requires.high))) in
    let s1 : to_z w64 (of_z w64 c.times-least.result) ≡ c.times-least.result = to_z-of_z w64 c.times-least.result f1 in
    let s2 : to_z w64 (of_z w64 c.times-more.result) ≡ c.times-more.result = to_z-of_z w64 c.times-more.result f2 in
    let s3 : to_z w64 (of_z w64 c.sum.result) ≡ c.sum.result = to_z-of_z w64 c.sum.result f3 in
    let s4 : to_z w64 (of_z w64 c.span.result) ≡ c.span.result = to_z-of_z w64 c.span.result f4 in
    let e1 : c.times-least.result ≡ pos c.args.n *ℤ c.args.range.0 = cc (c.times-least.ensures.product) in
    let wide : c.span.result ≡ c.args.range.1 -ℤ c.args.range.0 = cc (c.span.ensures.span) in
    let e2 : c.times-more.result ≡ pos c.args.j *ℤ (c.args.range.1 -ℤ c.args.range.0) = cc (c.times-more.ensures.product) in
    let swapped : pos c.args.j *ℤ (c.args.range.1 -ℤ c.args.range.0) ≡ (c.args.range.1 -ℤ c.args.range.0) *ℤ pos c.args.j = product_swap (pos c.args.j) (c.args.range.1 -ℤ c.args.range.0) in
    s3 ∙ (c.sum.ensures.sum ∙ (ap (λ (z : ℤ). z +ℤ to_z w64 (of_z w64 c.times-more.result)) (s1 ∙ e1) ∙ ap (λ (z : ℤ). pos c.args.n *ℤ c.args.range.0 +ℤ z) (s2 ∙ (e2 ∙ swapped))))
