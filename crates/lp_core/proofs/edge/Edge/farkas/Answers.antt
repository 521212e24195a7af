use Rattle.std.proofs.Common.{◌≡◌, ℕ, ◌*◌, ◌≤◌, ◌^◌, List, [], ◌∷◌, ◌++◌, ap, sym, subst, ◌∙◌, arith, lit<, lit≤}
use Rattle.std.specs.Prelude.{ℤ, pos, cond, ◌+ℤ◌, ◌-ℤ◌, ◌*ℤ◌}
use Rattle.std.specs.Int.{w64, w128}
use Rattle.std.specs.Int.RustNames.{FitsSigned, unsigned_abs}
use Rattle.std.proofs.lemmas.Int.{to_z-of_z}
use Rattle.exact_algebra.specs.Normal.{is_nought}
use Rattle.exact_algebra.proofs.Order.{abs_difference, abs_product}
use Rattle.lp_cert.specs.Program.{entry}
use Rattle.lp_core.specs.declared.reduced.Line.{Line}
use Rattle.lp_core.specs.Lines.{line_at}
use Rattle.lp_core.specs.Planar.{lines_of}
use Rattle.lp_core.proofs.Fits.{fits}
use Rattle.lp_core.proofs.Narrow.{narrow, sum_within}
use Rattle.lp_core.proofs.edge.Edge.farkas.Goals as goal

abbrev triple : ℕ → ℤ → ℕ → ℤ → ℕ → ℤ → List (ℕ × ℤ)
triple a u c w r z = (a, u) ∷ (c, w) ∷ (r, z) ∷ []

triples : (a c r : ℕ) (u v w x y z : ℤ) → u ≡ v → w ≡ x → y ≡ z → triple a u c w r y ≡ triple a v c x r z
triples a c r u v w x y z f g h = ap (λ t. triple a t c w r y) f ∙ ap (λ t. triple a v c t r y) g ∙ ap (λ t. triple a v c x r t) h

pub signed-back-requires : goal.signed-back-requires
signed-back-requires c =
    let e = c.args.self.now in
    let f1 : FitsSigned w64 c.at-own.result = record { sfits = c.at-own.type_inv } in
    let f2 : FitsSigned w64 c.at-other.result = record { sfits = c.at-other.type_inv } in
    let f3 : FitsSigned w64 c.sum.result = record { sfits = c.sum.type_inv } in
    let f4 : FitsSigned w64 c.args.first.1 = narrow _ _ c.requires.first_times (lit< tt) in
    let f5 : FitsSigned w64 c.args.second.1 = narrow _ _ c.requires.second_times (lit< tt) in
    let d = simp to_z-of_z at c.sum.ensures in
    let s = sum_within c.args.first.1 c.at-own.result c.args.second.1 c.at-other.result 18 3 18 3 c.requires.first_times c.at-own.ensures.small c.requires.second_times c.at-other.ensures.small in
    let small : unsigned_abs c.sum.result ≤ 2 ^ 57 = subst (λ z. unsigned_abs z ≤ 2 ^ 57) (sym d) (omega (arith, s)) in
    simp to_z-of_z small

pub overflow_sub-back : goal.overflow_sub-back
overflow_sub-back c =
    let e = c.args.self.now in
    let f1 : FitsSigned w64 c.at-own.result = record { sfits = c.at-own.type_inv } in
    let f2 : FitsSigned w64 c.at-other.result = record { sfits = c.at-other.type_inv } in
    let f3 : FitsSigned w64 c.sum.result = record { sfits = c.sum.type_inv } in
    let f4 : FitsSigned w64 c.args.first.1 = narrow _ _ c.requires.first_times (lit< tt) in
    let f5 : FitsSigned w64 c.args.second.1 = narrow _ _ c.requires.second_times (lit< tt) in
    let d = simp to_z-of_z at c.sum.ensures in
    let s = sum_within c.args.first.1 c.at-own.result c.args.second.1 c.at-other.result 18 3 18 3 c.requires.first_times c.at-own.ensures.small c.requires.second_times c.at-other.ensures.small in
    let small : unsigned_abs c.sum.result ≤ 2 ^ 57 = subst (λ z. unsigned_abs z ≤ 2 ^ 57) (sym d) (omega (arith, s)) in
    let f6 : FitsSigned w64 c.signed-back.result = record { sfits = c.signed-back.type_inv } in
    let g = simp to_z-of_z at c.signed-back.ensures.small in
    let back : unsigned_abs c.signed-back.result ≤ 2 ^ 57 = omega (arith, g, small) in
    let f7 : FitsSigned w128 c.signed-back.result = fits _ _ back (lit< tt) in
    let f8 : FitsSigned w128 (pos 0 -ℤ c.signed-back.result) = fits _ _ (abs_difference (pos 0) c.signed-back.result 0 (2 ^ 57) (lit≤ tt) back) (lit< tt) in
    simp to_z-of_z f8

pub returns : goal.returns
returns c =
    let e = c.args.self.now in
    let f1 : FitsSigned w64 c.at-own.result = record { sfits = c.at-own.type_inv } in
    let f2 : FitsSigned w64 c.at-other.result = record { sfits = c.at-other.type_inv } in
    let f3 : FitsSigned w64 c.sum.result = record { sfits = c.sum.type_inv } in
    let f4 : FitsSigned w64 c.args.first.1 = narrow _ _ c.requires.first_times (lit< tt) in
    let f5 : FitsSigned w64 c.args.second.1 = narrow _ _ c.requires.second_times (lit< tt) in
    let d = simp to_z-of_z at c.sum.ensures in
    let s = sum_within c.args.first.1 c.at-own.result c.args.second.1 c.at-other.result 18 3 18 3 c.requires.first_times c.at-own.ensures.small c.requires.second_times c.at-other.ensures.small in
    let small : unsigned_abs c.sum.result ≤ 2 ^ 57 = subst (λ z. unsigned_abs z ≤ 2 ^ 57) (sym d) (omega (arith, s)) in
    let f6 : FitsSigned w64 c.signed-back.result = record { sfits = c.signed-back.type_inv } in
    let g = simp to_z-of_z at c.signed-back.ensures.small in
    let back : unsigned_abs c.signed-back.result ≤ 2 ^ 57 = omega (arith, g, small) in
    let f7 : FitsSigned w128 c.signed-back.result = fits _ _ back (lit< tt) in
    let f8 : FitsSigned w128 (pos 0 -ℤ c.signed-back.result) = fits _ _ (abs_difference (pos 0) c.signed-back.result 0 (2 ^ 57) (lit≤ tt) back) (lit< tt) in
    let lines = lines_of c.args.rows.now in
    let f9 : FitsSigned w64 c.factor.result = record { sfits = c.factor.type_inv } in
    let f10 : FitsSigned w64 c.factor-2.result = record { sfits = c.factor-2.type_inv } in
    let f11 : FitsSigned w64 c.multiple.result = record { sfits = c.multiple.type_inv } in
    let f12 : FitsSigned w64 c.multiple-2.result = record { sfits = c.multiple-2.type_inv } in
    let m1 = simp to_z-of_z at c.multiple.ensures in
    let m2 = simp to_z-of_z at c.multiple-2.ensures in
    let b1 : unsigned_abs c.multiple.result ≤ 3 * 18 = subst (λ z. unsigned_abs z ≤ 3 * 18) (sym m1) (abs_product c.factor.result c.args.first.1 3 18 c.factor.ensures.small c.requires.first_times) in
    let b2 : unsigned_abs c.multiple-2.result ≤ 3 * 18 = subst (λ z. unsigned_abs z ≤ 3 * 18) (sym m2) (abs_product c.factor-2.result c.args.second.1 3 18 c.factor-2.ensures.small c.requires.second_times) in
    let f13 : FitsSigned w128 c.multiple.result = fits _ _ b1 (lit< tt) in
    let f14 : FitsSigned w128 c.multiple-2.result = fits _ _ b2 (lit< tt) in
    let v1 = simp to_z-of_z at c.factor.ensures.value in
    let v2 = simp to_z-of_z at c.factor-2.ensures.value in
    let v3 = simp to_z-of_z at c.signed-back.ensures.value in
    let p1 = simp to_z-of_z at c.push.ensures in
    let p2 = simp to_z-of_z at c.push-2.ensures in
    let p3 = simp to_z-of_z at c.push-3.ensures in
    let own : c.at-own.result ≡ entry (line_at lines c.args.first.0).c e.place = c.at-own.ensures.value ∙ ap (λ (x : Line). entry x.c e.place) c.known_at.ensures in
    let other : c.at-other.result ≡ entry (line_at lines c.args.second.0).c e.place = c.at-other.ensures.value ∙ ap (λ (x : Line). entry x.c e.place) c.known_at-2.ensures in
    p3 ∙ ap (λ xs. xs ++ (c.args.r, pos 0 -ℤ c.signed-back.result) ∷ []) (p2 ∙ ap (λ xs. xs ++ (c.args.second.0, c.multiple-2.result) ∷ []) (p1 ∙ ap (λ xs. xs ++ (c.args.first.0, c.multiple.result) ∷ []) c.new-items.ensures))
    ∙ triples c.args.first.0 c.args.second.0 c.args.r c.multiple.result _ c.multiple-2.result _ (pos 0 -ℤ c.signed-back.result) _
    (m1 ∙ ap (λ z. z *ℤ c.args.first.1) (v1 ∙ ap (λ z. cond (is_nought z) (pos 1) e.size) own))
    (m2 ∙ ap (λ z. z *ℤ c.args.second.1) (v2 ∙ ap (λ z. cond (is_nought z) (pos 1) e.size) other))
    (ap (λ z. pos 0 -ℤ z) (v3 ∙ ap (λ z. e.sign *ℤ z) (d ∙ ap (λ z. c.args.first.1 *ℤ z +ℤ c.args.second.1 *ℤ c.at-other.result) own ∙ ap (λ z. c.args.first.1 *ℤ entry (line_at lines c.args.first.0).c e.place +ℤ c.args.second.1 *ℤ z) other)))
