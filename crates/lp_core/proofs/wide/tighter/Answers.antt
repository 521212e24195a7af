use Rattle.std.proofs.Common.{◌≡◌, ◌∙◌, [], ◌∷◌, refl, arith, inl, inr, rules}
use Rattle.std.specs.Prelude.{◌*ℤ◌, ◌<ℤ◌, ◌≤ℤ◌, ℤ}
use Rattle.std.specs.Int.{w128}
use Rattle.std.specs.Int.RustNames.{FitsSigned}
use Rattle.std.proofs.lemmas.Int.{ints, to_z-of_z}
use Rattle.exact_algebra.specs.Poly.{var, ◌⊗◌}
use Rattle.exact_algebra.proofs.Normal.{ring}
use Rattle.exact_algebra.proofs.Order.{at_most_self}
use Rattle.lp_core.proofs.wide.tighter.Goals as goal

turned : (a b : ℤ) → a *ℤ b ≡ b *ℤ a
turned a b = ring (a ∷ b ∷ []) (var 0 ⊗ var 1) (var 1 ⊗ var 0) refl

most : (a b x y : ℤ) → a <ℤ b → a ≡ x → b ≡ y → x ≤ℤ y
most a b x y h e f = omega (arith, ints)

other : (a b x y : ℤ) → b ≤ℤ a → a ≡ x → b ≡ y → y ≤ℤ x
other a b x y h e f = omega (arith, ints)

pub returns-then-multiple : goal.returns-then-multiple
returns-then-multiple c =
    let old = c.args.old in
    let new = c.args.new in
    let f1 : FitsSigned w128 c.multiple.result = record { sfits = c.multiple.type_inv } in
    let f2 : FitsSigned w128 c.multiple-2.result = record { sfits = c.multiple-2.type_inv } in
    let f3 : FitsSigned w128 c.args.old.entry = search rules in
    let f4 : FitsSigned w128 c.args.new.side = search rules in
    let f5 : FitsSigned w128 c.args.new.entry = search rules in
    let f6 : FitsSigned w128 c.args.old.side = search rules in
    let e1 = simp to_z-of_z at c.multiple.ensures in
    let e2 = simp to_z-of_z at c.multiple-2.ensures in
    let less : c.multiple.result <ℤ c.multiple-2.result = omega (arith, ints) in
    record {
      which = inr refl;
      by_old = most c.multiple.result c.multiple-2.result (new.side *ℤ old.entry) (old.side *ℤ new.entry) less (e1 ∙ turned old.entry new.side) (e2 ∙ turned new.entry old.side);
      by_new = at_most_self (new.side *ℤ new.entry);
    }

pub returns-else-multiple : goal.returns-else-multiple
returns-else-multiple c =
    let old = c.args.old in
    let new = c.args.new in
    let f1 : FitsSigned w128 c.multiple.result = record { sfits = c.multiple.type_inv } in
    let f2 : FitsSigned w128 c.multiple-2.result = record { sfits = c.multiple-2.type_inv } in
    let f3 : FitsSigned w128 c.args.old.entry = search rules in
    let f4 : FitsSigned w128 c.args.new.side = search rules in
    let f5 : FitsSigned w128 c.args.new.entry = search rules in
    let f6 : FitsSigned w128 c.args.old.side = search rules in
    let e1 = simp to_z-of_z at c.multiple.ensures in
    let e2 = simp to_z-of_z at c.multiple-2.ensures in
    let less : c.multiple-2.result ≤ℤ c.multiple.result = omega (arith, ints) in
    record {
      which = inl refl;
      by_old = at_most_self (old.side *ℤ old.entry);
      by_new = other c.multiple.result c.multiple-2.result (new.side *ℤ old.entry) (old.side *ℤ new.entry) less (e1 ∙ turned old.entry new.side) (e2 ∙ turned new.entry old.side);
    }
