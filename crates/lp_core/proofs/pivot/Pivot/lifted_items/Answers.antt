use Rattle.std.proofs.Common.{◌≡◌, ℕ, ◌*◌, ◌+◌, ◌<◌, ◌≤◌, ◌^◌, [], ◌∷◌, ◌++◌, length, map, take, lit<, arith, sym, ap, subst, ◌∙◌, to_z}
use Rattle.std.specs.Prelude.{ℤ, ◌+ℤ◌, ◌-ℤ◌, ◌*ℤ◌}
use Rattle.std.specs.Int.{w128}
use Rattle.std.specs.Int.RustNames.{FitsSigned, unsigned_abs}
use Rattle.std.proofs.lemmas.Int.{to_z-of_z}
use Rattle.std.proofs.lemmas.List.{take_all}
use Rattle.exact_algebra.proofs.Order.{abs_difference}
use Rattle.lp_cert.specs.Program.{entry}
use Rattle.lp_cert.proofs.Steps.{got, total_by_more, bound_more, times_small}
use Rattle.lp_core.specs.Lines.{line_at}
use Rattle.lp_core.specs.Sizes.{AreAtMost}
use Rattle.lp_core.specs.Elimination.{factor_of, source_of, lifted_item, pivot_sum}
use Rattle.lp_core.proofs.Steps.{map_more}
use Rattle.lp_core.proofs.Fits.{fits, sign_times, sign_fits}
use Rattle.lp_core.proofs.pivot.Pivot.lifted_items.Goals as goal

pub weighed-sum-requires-clause-small : goal.weighed-sum-requires-clause-small
weighed-sum-requires-clause-small c =
    let p = c.args.self.now in
    let lines = c.args.program.now.lines in
    let live = c.args.program.now.live in
    let items = c.args.items.now in
    let i = c.loop-i.i in
    let item = c.get.result.now in
    let few : i < 3 = omega (arith, c.len-i-end.ensures.value, c.loop-i-test.true, c.requires.few) in
    let l : i < length items = omega (arith, c.len-i-end.ensures.value, c.loop-i-test.true) in
    let times : unsigned_abs item.1 ≤ 2 ^ 20 = times_small items i item c.requires.small l c.get.ensures in
    let fits_times : FitsSigned w128 c.get.result.now.1 = fits _ _ times (lit< tt) in
    let exists : source_of p live c.args.r item.0 < length lines = subst (λ (x : ℕ × ℤ). source_of p live c.args.r x.0 < length lines) (got items i item c.get.ensures item) (c.requires.rows i item l) in
    let from : c.line-line.result ≡ line_at lines (source_of p live c.args.r item.0) = c.line-line.ensures ∙ ap (λ k. line_at lines k) c.source-source.ensures in
    subst (λ x. AreAtMost (2 ^ 10) x.c) (sym from) (c.requires.lines (source_of p live c.args.r item.0) exists).entries

pub weighed-sum-requires-clause-times : goal.weighed-sum-requires-clause-times
weighed-sum-requires-clause-times c =
    let p = c.args.self.now in
    let lines = c.args.program.now.lines in
    let live = c.args.program.now.live in
    let items = c.args.items.now in
    let i = c.loop-i.i in
    let item = c.get.result.now in
    let few : i < 3 = omega (arith, c.len-i-end.ensures.value, c.loop-i-test.true, c.requires.few) in
    let l : i < length items = omega (arith, c.len-i-end.ensures.value, c.loop-i-test.true) in
    let times : unsigned_abs item.1 ≤ 2 ^ 20 = times_small items i item c.requires.small l c.get.ensures in
    let fits_times : FitsSigned w128 c.get.result.now.1 = fits _ _ times (lit< tt) in
    let exists : source_of p live c.args.r item.0 < length lines = subst (λ (x : ℕ × ℤ). source_of p live c.args.r x.0 < length lines) (got items i item c.get.ensures item) (c.requires.rows i item l) in
    let from : c.line-line.result ≡ line_at lines (source_of p live c.args.r item.0) = c.line-line.ensures ∙ ap (λ k. line_at lines k) c.source-source.ensures in
    simp to_z-of_z times

pub overflow_add-sum : goal.overflow_add-sum
overflow_add-sum c =
    let p = c.args.self.now in
    let lines = c.args.program.now.lines in
    let live = c.args.program.now.live in
    let items = c.args.items.now in
    let i = c.loop-i.i in
    let item = c.get.result.now in
    let few : i < 3 = omega (arith, c.len-i-end.ensures.value, c.loop-i-test.true, c.requires.few) in
    let l : i < length items = omega (arith, c.len-i-end.ensures.value, c.loop-i-test.true) in
    let times : unsigned_abs item.1 ≤ 2 ^ 20 = times_small items i item c.requires.small l c.get.ensures in
    let fits_times : FitsSigned w128 c.get.result.now.1 = fits _ _ times (lit< tt) in
    let exists : source_of p live c.args.r item.0 < length lines = subst (λ (x : ℕ × ℤ). source_of p live c.args.r x.0 < length lines) (got items i item c.get.ensures item) (c.requires.rows i item l) in
    let from : c.line-line.result ≡ line_at lines (source_of p live c.args.r item.0) = c.line-line.ensures ∙ ap (λ k. line_at lines k) c.source-source.ensures in
    let s = to_z w128 c.loop-i.sum-bits in
    let t = c.weighed-sum.result in
    let bound : unsigned_abs (s +ℤ t) ≤ (i + 1) * (2 ^ 30) = bound_more s t i (2 ^ 30) c.loop-i.invariant.2 c.weighed-sum.ensures.bound in
    let fits_t : FitsSigned w128 t = fits t _ c.weighed-sum.ensures.bound (lit< tt) in
    let fits_sum : FitsSigned w128 (s +ℤ t) = fits (s +ℤ t) (3 * 2 ^ 30) (omega (arith, bound, few)) (lit< tt) in
    simp to_z-of_z fits_sum

pub loop-i-preserved : goal.loop-i-preserved
loop-i-preserved c =
    let p = c.args.self.now in
    let lines = c.args.program.now.lines in
    let live = c.args.program.now.live in
    let items = c.args.items.now in
    let i = c.loop-i.i in
    let item = c.get.result.now in
    let few : i < 3 = omega (arith, c.len-i-end.ensures.value, c.loop-i-test.true, c.requires.few) in
    let l : i < length items = omega (arith, c.len-i-end.ensures.value, c.loop-i-test.true) in
    let times : unsigned_abs item.1 ≤ 2 ^ 20 = times_small items i item c.requires.small l c.get.ensures in
    let fits_times : FitsSigned w128 c.get.result.now.1 = fits _ _ times (lit< tt) in
    let exists : source_of p live c.args.r item.0 < length lines = subst (λ (x : ℕ × ℤ). source_of p live c.args.r x.0 < length lines) (got items i item c.get.ensures item) (c.requires.rows i item l) in
    let from : c.line-line.result ≡ line_at lines (source_of p live c.args.r item.0) = c.line-line.ensures ∙ ap (λ k. line_at lines k) c.source-source.ensures in
    let s = to_z w128 c.loop-i.sum-bits in
    let t = c.weighed-sum.result in
    let bound : unsigned_abs (s +ℤ t) ≤ (i + 1) * (2 ^ 30) = bound_more s t i (2 ^ 30) c.loop-i.invariant.2 c.weighed-sum.ensures.bound in
    let fits_t : FitsSigned w128 t = fits t _ c.weighed-sum.ensures.bound (lit< tt) in
    let fits_sum : FitsSigned w128 (s +ℤ t) = fits (s +ℤ t) (3 * 2 ^ 30) (omega (arith, bound, few)) (lit< tt) in
    let f = lifted_item p lines live c.args.r in
    let g = λ (x : ℕ × ℤ). x.1 *ℤ entry (line_at lines (source_of p live c.args.r x.0)).c p.place in
    let fits_lifted : FitsSigned w128 c.lifted_times.result = record { sfits = c.lifted_times.type_inv } in
    let times_is : c.lifted_times.result ≡ factor_of p c.line-line.result *ℤ item.1 = simp to_z-of_z at c.lifted_times.ensures in
    let pushed = simp to_z-of_z at c.push.ensures in
    let pair : (c.source-source.result, c.lifted_times.result) ≡ f item =
    ap (λ z. (z, c.lifted_times.result)) c.source-source.ensures
    ∙ ap (λ z. (source_of p live c.args.r item.0, z)) (times_is ∙ ap (λ x. factor_of p x *ℤ item.1) from) in
    let first : c.push.new.self ≡ map f (take (i + 1) items) =
    pushed ∙ ap (λ z. c.loop-i.lifted ++ z ∷ []) pair ∙ ap (λ z. z ++ f item ∷ []) c.loop-i.invariant.0 ∙ sym (map_more f items i item l c.get.ensures) in
    let value : t ≡ item.1 *ℤ entry c.line-line.result.c p.place = simp to_z-of_z at c.weighed-sum.ensures.value in
    let second : s +ℤ t ≡ pivot_sum p lines live c.args.r (take (i + 1) items) =
    ap (λ z. z +ℤ t) c.loop-i.invariant.1 ∙ ap (λ z. pivot_sum p lines live c.args.r (take i items) +ℤ z) (value ∙ ap (λ x. item.1 *ℤ entry x.c p.place) from)
    ∙ sym (total_by_more g items i item l c.get.ensures) in
    (first, simp to_z-of_z second, simp to_z-of_z bound)

pub overflow_mul-self : goal.overflow_mul-self
overflow_mul-self c =
    let p = c.args.self.now in
    let lines = c.args.program.now.lines in
    let live = c.args.program.now.live in
    let items = c.args.items.now in
    let i = c.loop-i.i in
    let few : i ≤ 3 = omega (arith, c.len-i-end.ensures.value, c.loop-i.auto.i-end, c.requires.few) in
    let s = to_z w128 c.loop-i.sum-bits in
    let small : unsigned_abs s ≤ 3 * 2 ^ 30 = omega (arith, few, c.loop-i.invariant.2) in
    let d = abs_difference c.args.wanted s (2 ^ 40) (3 * 2 ^ 30) c.requires.wanted small in
    let m = sign_times p (c.args.wanted -ℤ s) (2 ^ 40 + 3 * 2 ^ 30) d in
    let f1 : FitsSigned w128 c.args.self.now.sign = sign_fits p in
    let f2 : FitsSigned w128 c.args.wanted = fits _ _ c.requires.wanted (lit< tt) in
    let f3 : FitsSigned w128 (c.args.wanted -ℤ to_z w128 c.loop-i.sum-bits) = fits _ _ d (lit< tt) in
    let f4 : FitsSigned w128 (c.args.self.now.sign *ℤ (c.args.wanted -ℤ to_z w128 c.loop-i.sum-bits)) = fits _ _ m (lit< tt) in
    simp to_z-of_z f4

pub returns : goal.returns
returns c =
    let p = c.args.self.now in
    let lines = c.args.program.now.lines in
    let live = c.args.program.now.live in
    let items = c.args.items.now in
    let i = c.loop-i.i in
    let few : i ≤ 3 = omega (arith, c.len-i-end.ensures.value, c.loop-i.auto.i-end, c.requires.few) in
    let s = to_z w128 c.loop-i.sum-bits in
    let small : unsigned_abs s ≤ 3 * 2 ^ 30 = omega (arith, few, c.loop-i.invariant.2) in
    let d = abs_difference c.args.wanted s (2 ^ 40) (3 * 2 ^ 30) c.requires.wanted small in
    let m = sign_times p (c.args.wanted -ℤ s) (2 ^ 40 + 3 * 2 ^ 30) d in
    let f1 : FitsSigned w128 c.args.self.now.sign = sign_fits p in
    let f2 : FitsSigned w128 c.args.wanted = fits _ _ c.requires.wanted (lit< tt) in
    let f3 : FitsSigned w128 (c.args.wanted -ℤ to_z w128 c.loop-i.sum-bits) = fits _ _ d (lit< tt) in
    let f4 : FitsSigned w128 (c.args.self.now.sign *ℤ (c.args.wanted -ℤ to_z w128 c.loop-i.sum-bits)) = fits _ _ m (lit< tt) in
    let f = lifted_item p lines live c.args.r in
    let all : take i items ≡ items = take_all i items (omega (arith, c.len-i-end.ensures.value, c.loop-i-test.false)) in
    let pushed = simp to_z-of_z at c.push-2.ensures in
    pushed
    ∙ ap (λ z. z ++ (c.args.r, p.sign *ℤ (c.args.wanted -ℤ s)) ∷ []) (c.loop-i.invariant.0 ∙ ap (map f) all)
    ∙ ap (λ z. map f items ++ (c.args.r, p.sign *ℤ (c.args.wanted -ℤ z)) ∷ []) (c.loop-i.invariant.1 ∙ ap (λ xs. pivot_sum p lines live c.args.r xs) all)
