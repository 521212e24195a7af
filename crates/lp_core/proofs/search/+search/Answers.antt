use Rattle.std.proofs.Common.{◌≡◌, ℕ, suc, ◌+◌, ◌*◌, ◌<◌, ◌^◌, get_or, lit<, arith, refl, ap, sym, subst, ◌∙◌}
use Rattle.std.specs.Prelude.{List, Bool, ◌≢◌, nat_eq, slice_index_or, pos, ◌*ℤ◌, ◌<ℤ◌, ◌≤ℤ◌, true, false}
use Rattle.std.specs.Int.{w128}
use Rattle.std.specs.Int.RustNames.{FitsSigned}
use Rattle.std.proofs.lemmas.Bool.Decides.{nat_tests}
use Rattle.std.proofs.lemmas.Int.{to_z-of_z}
use Rattle.lp_cert.specs.Program.{entry}
use Rattle.lp_core.specs.Lines.{all_seen, along, is_seen, line_at}
use Rattle.lp_core.specs.Sizes.{level}
use Rattle.lp_core.specs.Reduced.{Reduced}
use Rattle.lp_core.specs.Search.{IsEmpty, IsOutcome, IsReduced}
use Rattle.lp_core.specs.Smaller.{IsOther, rest_of, smaller}
use Rattle.lp_core.proofs.Edges.{step_of}
use Rattle.lp_core.proofs.Back.{best_back, empty_back, met_more, only_empty}
use Rattle.lp_core.proofs.Fits.{fits, pivot_small}
use Rattle.lp_core.proofs.Levels.{objective_fits, num_fits, items_fit, den_bound, dual_bound, farkas_bound}
use Rattle.lp_core.proofs.Smaller.{small_line, small_lines, IsStep, pivot_live, smaller_is_reduced, source_within, levels, few}
use Rattle.lp_core.proofs.search.+search.Goals as goal

never : {A : Type 0} → false ≡ true → A
never e = absurd (grind (arith, e))

by_place : (live : List Bool) (place k : ℕ) → slice_index_or live place false ≡ true → (k ≢ place → slice_index_or live k false ≡ true) → slice_index_or live k false ≡ true
by_place live place k h other = by_case (nat_eq k place) refl
  where
    by_case : (b : Bool) → nat_eq k place ≡ b → slice_index_or live k false ≡ true
    by_case true e = let m : k ≡ place = grind (arith, nat_tests) in subst (λ i. slice_index_or live i false ≡ true) (sym m) h
    by_case false e = other (grind (arith, nat_tests))

pub tightened-meets-requires-clause-small : goal.tightened-meets-requires-clause-small
tightened-meets-requires-clause-small t c = small_line c.args.program.now c.args.objective c.args.r c.line-line.result c.requires.reduced c.requires.within c.line-line.ensures

pub tightened-returns-then-meets : goal.tightened-returns-then-meets
tightened-returns-then-meets t c =
    let P = c.args.program.now in
    let o = c.args.objective in
    let r = c.args.r in
    let n = level P.live in
    let b = c.args.best.now in
    let den : FitsSigned w128 c.args.best.now.den = fits _ (2 ^ 10) (omega (arith, c.requires.best.den, den_bound n)) (lit< tt) in
    let meets = simp to_z-of_z at c.if-meets.ensures in
    met_more P o r b c.requires.best (subst (λ x. along x.c b.num ≤ℤ (x.h *ℤ b.den)) c.line-line.ensures (meets.0 refl))

pub on_plane-pivot_of-requires : goal.on_plane-pivot_of-requires
on_plane-pivot_of-requires t c = small_line c.args.program.now c.args.objective c.args.r c.args.line c.requires.reduced c.requires.within c.requires.line

pub on_plane-returns-in_default : goal.on_plane-returns-in_default
on_plane-returns-in_default t c =
    let P = c.args.program.now in
    let r = c.args.r in
    let b = c.args.best.now in
    subst (λ items. IsEmpty P items) (sym c.only.ensures)
    (only_empty P r b.num b.den c.requires.within c.requires.best.met.positive
    (subst (λ x. (k : ℕ) → k < 3 → entry x.c k ≡ pos 0) c.requires.line c.in_default.ensures)
    (subst (λ x. (x.h *ℤ b.den) <ℤ along x.c b.num) c.requires.line c.requires.broken))

pub on_plane-forced-requires-clause-broken : goal.on_plane-forced-requires-clause-broken
on_plane-forced-requires-clause-broken t c =
    let b = c.args.best.now in
    subst (λ x. (x.h *ℤ b.den) <ℤ along x.c b.num) (sym c.in-Some.ensures) c.requires.broken

pub on_plane-inner-requires : goal.on_plane-inner-requires
on_plane-inner-requires t c =
    let P = c.args.program.now in
    let fall : 4 * level P.live < t = omega (arith, c.decreases) in (
      fall,
      (
        c.requires.reduced,
        (
          c.requires.within,
          (
            c.in-Some.ensures ∙ c.requires.line,
            λ h. never (c.if-is_alone.ensures.1 (subst (λ (xs : List Bool). (k : ℕ) → k < 3 → k ≢ c.in-Some.pivot.place → slice_index_or xs k false ≡ false) (sym c.live.ensures) h)),
          ),
        ),
      ),
    )

pub inner-other_of-requires-clause-some : goal.inner-other_of-requires-clause-some
inner-other_of-requires-clause-some t c =
    λ h. c.requires.some (subst (λ (xs : List Bool). (k : ℕ) → k < 3 → k ≢ c.args.pivot.now.place → slice_index_or xs k false ≡ false) c.live.ensures h)

pub inner-without-requires-clause-own : goal.inner-without-requires-clause-own
inner-without-requires-clause-own t c = small_line c.args.program.now c.args.objective c.args.r c.args.pivot.now.line c.requires.reduced c.requires.within c.requires.line

pub inner-rest-requires-clause-own : goal.inner-rest-requires-clause-own
inner-rest-requires-clause-own t c = small_line c.args.program.now c.args.objective c.args.r c.args.pivot.now.line c.requires.reduced c.requires.within c.requires.line

pub inner-rest-requires-clause-small : goal.inner-rest-requires-clause-small
inner-rest-requires-clause-small t c = objective_fits (level c.args.program.now.live) c.args.objective c.requires.reduced.objective

pub inner-solved-requires-in-None-walked : goal.inner-solved-requires-in-None-walked
inner-solved-requires-in-None-walked t c =
    let P = c.args.program.now in
    let o = c.args.objective in
    let r = c.args.r in
    let p = c.args.pivot.now in
    let Q = smaller c.args.pivot.now c.args.program.now c.args.r in
    let rest = rest_of p o in
    let s : IsStep P o r p Q rest = step_of P o r p c.requires.reduced c.requires.within c.requires.line in
    let one : level P.live ≡ suc (level Q.live) = levels P o r p Q rest s in
    let same : level c.without.result.live ≡ level Q.live = ap (λ (q : Reduced). level q.live) c.without.ensures in
    let fall : 4 * level c.without.result.live + 3 < t = omega (arith, c.decreases, one, same) in
    (fall, subst (λ (q : Reduced). IsReduced q c.rest.result) (sym c.without.ensures) (subst (λ xs. IsReduced Q xs) (sym c.rest.ensures) (smaller_is_reduced P o r p Q rest s)))

pub inner-without-requires-clause-all : goal.inner-without-requires-clause-all
inner-without-requires-clause-all t c =
    let P = c.args.program.now in
    let p = c.args.pivot.now in
    λ k l. by_place P.live p.place k (pivot_live P c.args.objective c.args.r p c.requires.reduced c.requires.within c.requires.line)
    (λ n. subst (λ (xs : List Bool). slice_index_or xs k false ≡ true) c.live.ensures (c.in-None.ensures k l n))

pub inner-solved-requires-clause-other : goal.inner-solved-requires-clause-other
inner-solved-requires-clause-other t c = subst (λ (xs : List Bool). IsOther xs c.args.pivot.now.place c.in-Some.k) c.live.ensures c.in-Some.ensures

pub on_plane-lifted-requires-clause-den : goal.on_plane-lifted-requires-clause-den
on_plane-lifted-requires-clause-den t c =
    let Q = smaller c.in-Some.pivot c.args.program.now c.args.r in
    let best = c.in-Best.ensures in
    omega (arith, best.den, den_bound (level Q.live))

pub on_plane-lifted-requires-clause-own : goal.on_plane-lifted-requires-clause-own
on_plane-lifted-requires-clause-own t c = small_line c.args.program.now c.args.objective c.args.r c.in-Some.pivot.line c.requires.reduced c.requires.within (c.in-Some.ensures ∙ c.requires.line)

pub on_plane-lifted-requires-clause-num : goal.on_plane-lifted-requires-clause-num
on_plane-lifted-requires-clause-num t c =
    let Q = smaller c.in-Some.pivot c.args.program.now c.args.r in
    let inner = c.in-Best.inner in
    let best = c.in-Best.ensures in
    num_fits (level Q.live) inner.num best.num

pub on_plane-lifted-requires-clause-objective : goal.on_plane-lifted-requires-clause-objective
on_plane-lifted-requires-clause-objective t c = objective_fits (level c.args.program.now.live) c.args.objective c.requires.reduced.objective

pub on_plane-lifted-requires-clause-few : goal.on_plane-lifted-requires-clause-few
on_plane-lifted-requires-clause-few t c =
    let P = c.args.program.now in
    let o = c.args.objective in
    let r = c.args.r in
    let p = c.in-Some.pivot in
    let from : p.line ≡ line_at P.lines r = c.in-Some.ensures ∙ c.requires.line in
    let Q = smaller c.in-Some.pivot c.args.program.now c.args.r in
    let rest = rest_of c.in-Some.pivot c.args.objective in
    let s : IsStep P o r p Q rest = step_of P o r p c.requires.reduced c.requires.within from in
    let less : level Q.live < 3 = few P o r p Q rest s in
    let best = c.in-Best.ensures in
    omega (arith, best.few.few, less)

pub on_plane-lifted-requires-clause-small : goal.on_plane-lifted-requires-clause-small
on_plane-lifted-requires-clause-small t c =
    let Q = smaller c.in-Some.pivot c.args.program.now c.args.r in
    let inner = c.in-Best.inner in
    let best = c.in-Best.ensures in
    items_fit _ _ inner.items (dual_bound (level Q.live)) best.few

pub on_plane-lifted-requires-clause-rows : goal.on_plane-lifted-requires-clause-rows
on_plane-lifted-requires-clause-rows t c =
    let P = c.args.program.now in
    let o = c.args.objective in
    let r = c.args.r in
    let p = c.in-Some.pivot in
    let from : p.line ≡ line_at P.lines r = c.in-Some.ensures ∙ c.requires.line in
    let Q = smaller c.in-Some.pivot c.args.program.now c.args.r in
    let rest = rest_of c.in-Some.pivot c.args.objective in
    let s : IsStep P o r p Q rest = step_of P o r p c.requires.reduced c.requires.within from in
    let inner = c.in-Best.inner in
    let best = c.in-Best.ensures in
    λ k d l. source_within P o r p Q rest s (get_or inner.items k d).0 (best.dual.rows k d l)

pub on_plane-lifted-requires-clause-lines : goal.on_plane-lifted-requires-clause-lines
on_plane-lifted-requires-clause-lines t c = small_lines c.args.program.now c.args.objective c.requires.reduced

pub on_plane-lifted_items-requires-clause-few : goal.on_plane-lifted_items-requires-clause-few
on_plane-lifted_items-requires-clause-few t c =
    let P = c.args.program.now in
    let o = c.args.objective in
    let r = c.args.r in
    let p = c.in-Some.pivot in
    let from : p.line ≡ line_at P.lines r = c.in-Some.ensures ∙ c.requires.line in
    let Q = smaller c.in-Some.pivot c.args.program.now c.args.r in
    let rest = rest_of c.in-Some.pivot c.args.objective in
    let s : IsStep P o r p Q rest = step_of P o r p c.requires.reduced c.requires.within from in
    let less : level Q.live < 3 = few P o r p Q rest s in
    let none = c.in-Infeasible.ensures in
    omega (arith, none.few.few, less)

pub on_plane-lifted_items-requires-clause-small : goal.on_plane-lifted_items-requires-clause-small
on_plane-lifted_items-requires-clause-small t c =
    let Q = smaller c.in-Some.pivot c.args.program.now c.args.r in
    let items = c.in-Infeasible.items in
    let none = c.in-Infeasible.ensures in
    items_fit _ _ items (farkas_bound (level Q.live)) none.few

pub on_plane-lifted_items-requires-clause-rows : goal.on_plane-lifted_items-requires-clause-rows
on_plane-lifted_items-requires-clause-rows t c =
    let P = c.args.program.now in
    let o = c.args.objective in
    let r = c.args.r in
    let p = c.in-Some.pivot in
    let from : p.line ≡ line_at P.lines r = c.in-Some.ensures ∙ c.requires.line in
    let Q = smaller c.in-Some.pivot c.args.program.now c.args.r in
    let rest = rest_of c.in-Some.pivot c.args.objective in
    let s : IsStep P o r p Q rest = step_of P o r p c.requires.reduced c.requires.within from in
    let items = c.in-Infeasible.items in
    let none = c.in-Infeasible.ensures in
    λ k d l. source_within P o r p Q rest s (get_or items k d).0 (none.none.rows k d l)

pub on_plane-lifted_items-requires-clause-lines : goal.on_plane-lifted_items-requires-clause-lines
on_plane-lifted_items-requires-clause-lines t c = small_lines c.args.program.now c.args.objective c.requires.reduced

pub on_plane-lifted_items-requires-clause-size : goal.on_plane-lifted_items-requires-clause-size
on_plane-lifted_items-requires-clause-size t c =
    pivot_small c.in-Some.pivot (2 ^ 10) (2 ^ 80) (small_line c.args.program.now c.args.objective c.args.r c.in-Some.pivot.line c.requires.reduced c.requires.within (c.in-Some.ensures ∙ c.requires.line))

pub on_plane-returns-in-Best : goal.on_plane-returns-in-Best
on_plane-returns-in-Best t c =
    let P = c.args.program.now in
    let o = c.args.objective in
    let r = c.args.r in
    let b = c.args.best.now in
    let p = c.in-Some.pivot in
    let from : p.line ≡ line_at P.lines r = c.in-Some.ensures ∙ c.requires.line in
    let Q = smaller c.in-Some.pivot c.args.program.now c.args.r in
    let rest = rest_of c.in-Some.pivot c.args.objective in
    let s : IsStep P o r p Q rest = step_of P o r p c.requires.reduced c.requires.within from in
    let inner = c.in-Best.inner in
    best_back P o r p Q rest s b inner c.lifted.result c.requires.best (subst (λ x. (x.h *ℤ b.den) <ℤ along x.c b.num) (sym c.in-Some.ensures) c.requires.broken) c.in-Best.ensures c.lifted.ensures.num c.lifted.ensures.den c.lifted.ensures.items

pub on_plane-returns-in-Infeasible : goal.on_plane-returns-in-Infeasible
on_plane-returns-in-Infeasible t c =
    let P = c.args.program.now in
    let o = c.args.objective in
    let r = c.args.r in
    let b = c.args.best.now in
    let p = c.in-Some.pivot in
    let from : p.line ≡ line_at P.lines r = c.in-Some.ensures ∙ c.requires.line in
    let Q = smaller c.in-Some.pivot c.args.program.now c.args.r in
    let rest = rest_of c.in-Some.pivot c.args.objective in
    let s : IsStep P o r p Q rest = step_of P o r p c.requires.reduced c.requires.within from in
    let items = c.in-Infeasible.items in
    empty_back P o r p Q rest s b items c.lifted_items.result c.requires.best (subst (λ x. (x.h *ℤ b.den) <ℤ along x.c b.num) (sym c.in-Some.ensures) c.requires.broken) c.in-Infeasible.ensures c.lifted_items.ensures

pub tightened-returns-then-is_seen : goal.tightened-returns-then-is_seen
tightened-returns-then-is_seen t c =
    let P = c.args.program.now in
    let r = c.args.r in
    let seen : is_seen P.live r r ≡ true = sym c.is_seen.ensures ∙ c.if-is_seen.true in
    met_more P c.args.objective r c.args.best.now c.requires.best (c.requires.best.met.each r c.requires.within seen)

pub tightened-meets-requires-clause-num : goal.tightened-meets-requires-clause-num
tightened-meets-requires-clause-num t c = num_fits (level c.args.program.now.live) c.args.best.now.num c.requires.best.num
