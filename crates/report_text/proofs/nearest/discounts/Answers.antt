use Rattle.std.proofs.Common.{◌≡◌, ℕ, ◌+◌, ◌<◌, ◌≤◌, List, [], ◌∷◌, ◌++◌, refl, sym, ap, subst, ◌∙◌, arith, rules, SFits, to_z, ℤ, pos}
use Rattle.std.specs.Int.{w128, ◌∣◌}
use Rattle.std.specs.Int.RustNames.{unsigned_abs}
use Rattle.std.proofs.Math.Nat.{dvd_refl}
use Rattle.std.proofs.lemmas.Int.{ints, to_z-of_z}
use Rattle.std.proofs.lemmas.List.{length_push}
use Rattle.std.proofs.lemmas.List.Elements.{All-nil, All-push, All-weaker}
use Rattle.std.proofs.lemmas.Nat.Gcd.{dvd_trans}
use Rattle.report_text.specs.Rules.{IsDiscount}
use Rattle.report_text.proofs.Discounts.{ReadDiscounts, common_size, discount_taken, discounts_end, first_taken}
use Rattle.report_text.proofs.nearest.discounts.Goals as goal

pub loop-kept-init : goal.loop-kept-init
loop-kept-init c =
    let last = c.first_discount-last.result in
    let one : c.push.new.self ≡ last ∷ [] = c.in_ok-push.ensures.ok ∙ ap (λ (xs : List (ℕ × ℕ)). xs ++ last ∷ []) c.new-discounts.ensures in
    let common : c.from-common.result ≡ pos last.1 = first_of (assumption c.from-common.ensures, omega (arith, ints, c.from-common.ensures), search (rules, c.from-common.ensures)) in
    let f : SFits w128 c.from-common.result = search rules in
    let right = c.first_discount-last.ensures.keeps in
    let p : 0 < last.0 = right.positive in
    let q : last.0 < last.1 = right.below_one in
    let few : last.1 ≤ 1024 = c.first_discount-last.ensures.few in
    let divides : last.1 ∣ unsigned_abs c.from-common.result = subst (λ (z : ℤ). last.1 ∣ unsigned_abs z) (sym common) (dvd_refl last.1) in
    rw (to_z-of_z w128 c.from-common.result f, one)
    (record {
      count = refl;
      each = All-push IsDiscount [] last (All-nil IsDiscount) right;
      last = right;
      common = (omega (arith, ints, common), omega (arith, ints, common));
      divides = divides;
      multiple = All-push (λ (d : ℕ × ℕ). d.1 ∣ unsigned_abs c.from-common.result) [] last (All-nil _) divides;
      read = λ ds shown rest h w e.
          first_taken c.args.players ds shown rest c.args.words.now c.skip.new.self c.fraction.new.self c.fraction.result last c.from-common.result h w c.requires e c.skip.ensures c.fraction.ensures.rest c.fraction.ensures.read c.first_discount-last.ensures.read common;
    })

pub loop-kept-preserved : goal.loop-kept-preserved
loop-kept-preserved c =
    let k = c.loop-kept.invariant in
    let old = c.loop-kept.discounts in
    let d = c.next_discount.result.0 in
    let m = c.next_discount.result.1 in
    let common = to_z w128 c.loop-kept.common-bits in
    let more : c.push-in-loop-kept.new.self ≡ old ++ d ∷ [] = c.in_ok-push-2.ensures.ok in
    let f : SFits w128 m = first_of (search rules, omega (arith, ints, c.next_discount.ensures.common.0, c.next_discount.ensures.common.1)) in
    rw (to_z-of_z w128 m f, more)
    (record {
      count = length_push old d ∙ ap (λ (n : ℕ). n + 1) k.count;
      each = All-push IsDiscount old d k.each c.next_discount.ensures.keeps;
      last = c.next_discount.ensures.keeps;
      common = c.next_discount.ensures.common;
      divides = c.next_discount.ensures.divides.0;
      multiple = All-push (λ (x : ℕ × ℕ). x.1 ∣ unsigned_abs m) old d
          (All-weaker (λ (x : ℕ × ℕ). x.1 ∣ unsigned_abs common) (λ (x : ℕ × ℕ). x.1 ∣ unsigned_abs m) (λ x h. dvd_trans x.1 h c.next_discount.ensures.divides.1) old k.multiple) c.next_discount.ensures.divides.0;
      read = λ ds shown rest h w e.
          discount_taken c.args.players ds shown rest c.loop-kept._kept old c.loop-kept.last common c.loop-kept.words c.next_discount.new.words c.next_discount.result h w c.loop-kept.auto._kept c.loop-kept-test.true (k.read ds shown rest h w e)
          c.next_discount.ensures.again c.next_discount.ensures.read;
    })

pub returns-clause-keeps : goal.returns-clause-keeps
returns-clause-keeps c =
    let k = c.loop-kept.invariant in
    let size = common_size (to_z w128 c.loop-kept.common-bits) k.common.0 k.common.1 in
    record {
      one_each = omega (arith, k.count, c.loop-kept-test.false, c.loop-kept.auto._kept-end c.requires);
      each = k.each;
      common = (unsigned_abs (to_z w128 c.loop-kept.common-bits), record { positive = size.0; few = size.1; multiple = k.multiple });
    }

pub returns-clause-read : goal.returns-clause-read
returns-clause-read c = λ ds shown rest h w e.
    let k = c.loop-kept.invariant in
    let last : c.loop-kept._kept ≡ c.args.players = omega (arith, c.loop-kept-test.false, c.loop-kept.auto._kept-end c.requires) in
    discounts_end c.args.players ds shown rest c.loop-kept.discounts c.loop-kept.last (to_z w128 c.loop-kept.common-bits) c.loop-kept.words h w c.requires
    (subst (λ (n : ℕ). ReadDiscounts c.args.players ds shown rest n c.loop-kept.discounts c.loop-kept.last (to_z w128 c.loop-kept.common-bits) c.loop-kept.words) last (k.read ds shown rest h w e))
