use Rattle.std.proofs.Common.{◌≡◌, ◌≢◌, ℕ, zero, suc, ◌-◌, ◌^◌, ◌<◌, ◌≤◌, [], ◌∷◌, to_z, of_z, refl, ap, sym, subst, ◌∙◌, arith, rules}
use Rattle.std.specs.Prelude.{ℤ, pos, ◌-ℤ◌, ◌*ℤ◌, Bool, true, false, cond, nat_eq}
use Rattle.std.specs.Int.{w64}
use Rattle.std.specs.Int.RustNames.{FitsSigned, unsigned_abs}
use Rattle.std.proofs.lemmas.Bool.Decides.{nat_tests}
use Rattle.std.proofs.lemmas.Int.{to_z-of_z}
use Rattle.exact_algebra.specs.Normal.{is_nought}
use Rattle.exact_algebra.specs.Poly.{var, ◌⊖◌, ◌⊗◌}
use Rattle.exact_algebra.proofs.Normal.{ring}
use Rattle.exact_algebra.proofs.Order.{abs_product}
use Rattle.lp_cert.specs.Program.{entry}
use Rattle.lp_core.specs.Planar.{half_line}
use Rattle.lp_core.proofs.Narrow.{difference_within}
use Rattle.lp_core.proofs.edge.Edge.spot.Goals as goal

-- the parts at both places
parts : (place : ℕ) (a b x y : ℤ) → place < 2 → (0 ≡ place → a ≡ x) → (0 ≢ place → a ≡ y) → (1 ≡ place → b ≡ x) → (1 ≢ place → b ≡ y)
    → (entry (a ∷ b ∷ pos 0 ∷ []) place ≡ x) × (entry (a ∷ b ∷ pos 0 ∷ []) (1 - place) ≡ y)
parts zero a b x y l a1 a2 b1 b2 = (a1 refl, b2 (λ e. absurd (omega (arith, e))))
parts (suc zero) a b x y l a1 a2 b1 b2 = (b1 refl, a2 (λ e. absurd (omega (arith, e))))
parts (suc (suc n)) a b x y l a1 a2 b1 b2 = absurd (omega (arith, l))

-- a part that is one of two
part_small : (k place m : ℕ) (a x y : ℤ) → (k ≡ place → a ≡ x) → (k ≢ place → a ≡ y) → unsigned_abs x ≤ m → unsigned_abs y ≤ m → unsigned_abs a ≤ m
part_small k place m a x y e f g h = by_case (nat_eq k place) refl
  where
    by_case : (b : Bool) → nat_eq k place ≡ b → unsigned_abs a ≤ m
    by_case true i = subst (λ z. unsigned_abs z ≤ m) (sym (e (grind (arith, nat_tests)))) g
    by_case false i = subst (λ z. unsigned_abs z ≤ m) (sym (f (grind (arith, nat_tests)))) h

pub signed-requires : goal.signed-requires
signed-requires c =
    let t = c.args.tip in
    let f1 : FitsSigned w64 c.at-own.result = record { sfits = c.at-own.type_inv } in
    let f2 : FitsSigned w64 c.difference.result = record { sfits = c.difference.type_inv } in
    let f3 : FitsSigned w64 c.args.tip.den = search rules in
    let f4 : FitsSigned w64 c.args.tip.times = search rules in
    let f5 : FitsSigned w64 c.weight-weight.result = record { sfits = c.weight-weight.type_inv } in
    let d = simp to_z-of_z at c.difference.ensures in
    let s = difference_within t.den c.weight-weight.result c.at-own.result t.times 18 8192 3 49152 t.small_den c.weight-weight.ensures.small c.at-own.ensures.small t.small_times in
    let small : unsigned_abs c.difference.result ≤ 2 ^ 57 = subst (λ z. unsigned_abs z ≤ 2 ^ 57) (sym d) (omega (arith, s)) in
    simp to_z-of_z small

pub invariant_of-result : goal.invariant_of-result
invariant_of-result c =
    let e = c.args.self.now in
    let t = c.args.tip in
    let f1 : FitsSigned w64 c.args.self.now.other = search rules in
    let f2 : FitsSigned w64 c.difference-along.result = record { sfits = c.difference-along.type_inv } in
    let f3 : FitsSigned w64 c.args.tip.den = search rules in
    let f4 : FitsSigned w64 c.args.tip.at = search rules in
    let f5 : FitsSigned w64 c.args.self.now.side = search rules in
    let f6 : FitsSigned w64 c.args.self.now.size = search rules in
    let f8 : FitsSigned w64 c.multiple-across.result = record { sfits = c.multiple-across.type_inv } in
    let f9 : FitsSigned w64 c.placed.result = record { sfits = c.placed.type_inv } in
    let f10 : FitsSigned w64 c.placed-2.result = record { sfits = c.placed-2.type_inv } in
    let f11 : FitsSigned w64 c.multiple.result = record { sfits = c.multiple.type_inv } in
    let f12 : FitsSigned w64 c.multiple-2.result = record { sfits = c.multiple-2.type_inv } in
    let f13 : FitsSigned w64 c.signed.result = record { sfits = c.signed.type_inv } in
    let d = simp to_z-of_z at c.difference-along.ensures in
    let s = difference_within t.den e.side e.other t.at 18 (2 ^ 51) 3 (2 ^ 54) t.small_den e.small_side e.small_other t.small_at in
    let along : unsigned_abs c.difference-along.result ≤ 2 ^ 57 = subst (λ z. unsigned_abs z ≤ 2 ^ 57) (sym d) (omega (arith, s)) in
    let m = simp to_z-of_z at c.multiple-across.ensures in
    let q = abs_product e.size t.at 3 (2 ^ 54) e.small_size t.small_at in
    let across : unsigned_abs c.multiple-across.result ≤ 2 ^ 57 = subst (λ z. unsigned_abs z ≤ 2 ^ 57) (sym m) (omega (arith, q)) in
    let n = simp to_z-of_z at c.multiple.ensures in
    let den : unsigned_abs c.multiple.result ≤ 54 = subst (λ z. unsigned_abs z ≤ 54) (sym n) (abs_product e.size t.den 3 18 e.small_size t.small_den) in
    let a1 = simp to_z-of_z at c.placed.ensures.own in
    let a2 = simp to_z-of_z at c.placed.ensures.other in
    let b1 = simp to_z-of_z at c.placed-2.ensures.own in
    let b2 = simp to_z-of_z at c.placed-2.ensures.other in
    let first : unsigned_abs c.placed.result ≤ 2 ^ 57 = part_small 0 e.place (2 ^ 57) c.placed.result c.difference-along.result c.multiple-across.result a1 a2 along across in
    let second : unsigned_abs c.placed-2.result ≤ 2 ^ 57 = part_small 1 e.place (2 ^ 57) c.placed-2.result c.difference-along.result c.multiple-across.result b1 b2 along across in
    simp to_z-of_z (record { small_first = first; small_second = second; small_den = den })

pub returns : goal.returns
returns c =
    let e = c.args.self.now in
    let t = c.args.tip in
    let o = c.args.objective in
    let x = half_line c.args.row in
    let f1 : FitsSigned w64 c.args.self.now.other = search rules in
    let f2 : FitsSigned w64 c.difference-along.result = record { sfits = c.difference-along.type_inv } in
    let f3 : FitsSigned w64 c.args.tip.den = search rules in
    let f4 : FitsSigned w64 c.args.tip.at = search rules in
    let f5 : FitsSigned w64 c.args.self.now.side = search rules in
    let f6 : FitsSigned w64 c.args.self.now.size = search rules in
    let f8 : FitsSigned w64 c.multiple-across.result = record { sfits = c.multiple-across.type_inv } in
    let f9 : FitsSigned w64 c.placed.result = record { sfits = c.placed.type_inv } in
    let f10 : FitsSigned w64 c.placed-2.result = record { sfits = c.placed-2.type_inv } in
    let f11 : FitsSigned w64 c.multiple.result = record { sfits = c.multiple.type_inv } in
    let f12 : FitsSigned w64 c.multiple-2.result = record { sfits = c.multiple-2.type_inv } in
    let f13 : FitsSigned w64 c.signed.result = record { sfits = c.signed.type_inv } in
    let f14 : FitsSigned w64 c.at-own.result = record { sfits = c.at-own.type_inv } in
    let f15 : FitsSigned w64 c.difference.result = record { sfits = c.difference.type_inv } in
    let f16 : FitsSigned w64 c.args.tip.times = search rules in
    let f17 : FitsSigned w64 c.weight-weight.result = record { sfits = c.weight-weight.type_inv } in
    let f18 : FitsSigned w64 c.factor.result = record { sfits = c.factor.type_inv } in
    let q1 : to_z w64 (of_z w64 c.placed.result) ≡ c.placed.result = to_z-of_z w64 c.placed.result f9 in
    let q2 : to_z w64 (of_z w64 c.placed-2.result) ≡ c.placed-2.result = to_z-of_z w64 c.placed-2.result f10 in
    let a1 = simp to_z-of_z at c.placed.ensures.own in
    let a2 = simp to_z-of_z at c.placed.ensures.other in
    let b1 = simp to_z-of_z at c.placed-2.ensures.own in
    let b2 = simp to_z-of_z at c.placed-2.ensures.other in
    let both = parts e.place (to_z w64 (of_z w64 c.placed.result)) (to_z w64 (of_z w64 c.placed-2.result)) c.difference-along.result c.multiple-across.result e.planar
    (λ k. q1 ∙ a1 k) (λ k. q1 ∙ a2 k) (λ k. q2 ∙ b1 k) (λ k. q2 ∙ b2 k) in
    let d = simp to_z-of_z at c.difference-along.ensures in
    let m = simp to_z-of_z at c.multiple-across.ensures in
    let n = simp to_z-of_z at c.multiple.ensures in
    let n2 = simp to_z-of_z at c.multiple-2.ensures in
    let f = simp to_z-of_z at c.factor.ensures.value in
    let s = simp to_z-of_z at c.signed.ensures.value in
    let d2 = simp to_z-of_z at c.difference.ensures in
    let own = c.at-own.ensures.value in
    record {
      own = both.0 ∙ d ∙ ap (λ z. t.den *ℤ z -ℤ e.other *ℤ t.at) (sym e.is_side) ∙ ap (λ z. t.den *ℤ (e.sign *ℤ e.row.side) -ℤ z *ℤ t.at) (sym e.is_other)
          ∙ ring (t.den ∷ e.sign ∷ e.row.side ∷ entry (half_line e.row).c (1 - e.place) ∷ t.at ∷ []) (var 0 ⊗ (var 1 ⊗ var 2) ⊖ (var 1 ⊗ var 3) ⊗ var 4) (var 1 ⊗ (var 2 ⊗ var 0 ⊖ var 3 ⊗ var 4)) refl;
      other = both.1 ∙ m;
      den = to_z-of_z w64 c.multiple.result f11 ∙ n;
      row = refl;
      times = to_z-of_z w64 c.multiple-2.result f12 ∙ n2 ∙ ap (λ z. z *ℤ t.times) (f ∙ ap (λ z. cond (is_nought z) (pos 1) e.size) own);
      base = refl;
      base_times = to_z-of_z w64 c.signed.result f13 ∙ s ∙ ap (λ z. e.sign *ℤ z) (d2 ∙ ap (λ z. t.den *ℤ z -ℤ c.at-own.result *ℤ t.times) c.weight-weight.ensures.value ∙ ap (λ z. t.den *ℤ entry o e.place -ℤ z *ℤ t.times) own ∙ ap (λ z. t.den *ℤ entry o e.place -ℤ z) (turned (entry x.c e.place) t.times));
    }
  where
    turned : (a b : ℤ) → a *ℤ b ≡ b *ℤ a
    turned a b = ring (a ∷ b ∷ []) (var 0 ⊗ var 1) (var 1 ⊗ var 0) refl
