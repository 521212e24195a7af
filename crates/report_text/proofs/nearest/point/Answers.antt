use Rattle.std.proofs.Common.{◌≡◌, ℕ, ◌<◌, [], ◌∷◌, length, refl, subst, ◌∙◌, arith, rules, SFits, to_z, pos}
use Rattle.std.specs.Int.{w128}
use Rattle.std.proofs.lemmas.Int.{ints, to_z-of_z}
use Rattle.std.proofs.lemmas.List.{length-set}
use Rattle.report_text.proofs.PointLoop.{ReadParts, below_three, no_part, part_taken, parts_end, parts_more, short_point, zero_part}
use Rattle.report_text.proofs.nearest.point.Goals as goal

pub loop-i-init : goal.loop-i-init
loop-i-init c =
    let r = c.zero-parts.result in
    let zero = zero_part r (pos 1) c.zero-parts.ensures.value in
    record {
      three = refl;
      common = (omega (arith, ints), omega (arith, ints));
      parts = below_three _ zero zero zero;
      read = λ y words rest h w e. no_part y h.denominator words rest c.args.words.now (r ∷ r ∷ r ∷ []) (pos 1) refl e;
    }

pub loop-i-preserved : goal.loop-i-preserved
loop-i-preserved c =
    let k = c.loop-i.invariant in
    let parts = c.loop-i.parts in
    let i = c.loop-i.i in
    let r = c.part.result.0 in
    let here : i < length parts = omega (arith, k.three, c.loop-i-test.true, c.requires) in
    let f : SFits w128 c.part.result.1 = first_of (search rules, omega (arith, ints, c.part.ensures.common.0, c.part.ensures.common.1)) in
    rw (to_z-of_z w128 c.part.result.1 f)
    (record {
      three = length-set parts i r ∙ k.three;
      common = c.part.ensures.common;
      parts = parts_more parts i r _ c.part.result.1 here c.part.ensures.divides.1 c.part.ensures.lowest c.part.ensures.divides.0 c.part.ensures.small k.parts;
      read = λ y words rest h w e.
          part_taken c.args.players y words rest c.loop-i.words c.fraction.new.self i parts _ c.part.result.1 c.fraction.result r h w c.loop-i-test.true here (k.read y words rest h w e) c.fraction.ensures.read c.fraction.ensures.rest c.part.ensures.read;
    })

pub returns-clause-keeps : goal.returns-clause-keeps
returns-clause-keeps c =
    let k = c.loop-i.invariant in
    short_point c.args.players c.joined.result (to_z w128 c.loop-i.den-bits) c.requires k.common.0 k.common.1 c.joined.ensures.den c.joined.ensures.small

pub returns-clause-read : goal.returns-clause-read
returns-clause-read c = λ y words rest h w e.
    let k = c.loop-i.invariant in
    let last : c.loop-i.i ≡ c.args.players = omega (arith, c.loop-i-test.false, c.loop-i.auto.i-end) in
    parts_end c.args.players y c.joined.result h.denominator words rest c.loop-i.words c.loop-i.parts (to_z w128 c.loop-i.den-bits) c.requires w
    (subst (λ (n : ℕ). ReadParts y h.denominator words rest n c.loop-i.parts (to_z w128 c.loop-i.den-bits) c.loop-i.words) last (k.read y words rest h w e)) k.parts c.joined.ensures.den c.joined.ensures.parts
