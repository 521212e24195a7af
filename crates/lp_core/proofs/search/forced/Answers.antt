use Rattle.std.proofs.Common.{◌≡◌, ℕ, ◌+◌, ◌<◌, ◌^◌, [], ◌∷◌, length, to_z, of_z, refl, ap, ◌∙◌, sym, subst, lit<, lit≤, arith, below_more}
use Rattle.std.specs.Prelude.{pos, ◌-ℤ◌, ◌*ℤ◌, ◌<ℤ◌, ◌≤ℤ◌, true, false}
use Rattle.std.specs.Int.{w128}
use Rattle.std.specs.Int.RustNames.{FitsSigned}
use Rattle.std.proofs.lemmas.Int.{to_z-of_z, by_lt_z}
use Rattle.lp_cert.specs.Program.{entry}
use Rattle.lp_core.specs.declared.reduced.Line.{Line}
use Rattle.lp_core.specs.Lines.{along, is_seen, line_at}
use Rattle.lp_core.specs.Sizes.{level, AreAtMost, IsSmallLine}
use Rattle.lp_core.specs.Search.{IsBest, IsEmpty}
use Rattle.lp_core.proofs.Alone.{point_of, point_small, point_best, crossing_empty}
use Rattle.lp_core.proofs.Fits.{fits, more, pivot_small}
use Rattle.lp_core.proofs.Levels.{line_fits}
use Rattle.lp_core.proofs.search.forced.Goals as goal
use Rattle.lp_core.proofs.search.forced.Goals.{else-is_seen-via-then-is_seen+else-not-meets, else-is_seen-via-else-is_seen}

never : {A : Type 0} → false ≡ true → A
never e = absurd (grind (arith, e))

pub only_point-num-requires : goal.only_point-num-requires
only_point-num-requires c =
    let P = c.args.program.now in
    let p = c.args.pivot.now in
    let r = c.args.r in
    let n = level P.live in
    let small : (l : ℕ) → l < length P.lines → IsSmallLine (2 ^ 10) (2 ^ 80) (line_at P.lines l) = λ l h. line_fits n (line_at P.lines l) (c.requires.reduced.lines l h) in
    let own : IsSmallLine (2 ^ 10) (2 ^ 80) p.line = subst (λ x. IsSmallLine (2 ^ 10) (2 ^ 80) x) (sym c.requires.line) (small r c.requires.within) in
    let size = pivot_small p (2 ^ 10) (2 ^ 80) own in
    let fits_size : FitsSigned w128 c.args.pivot.now.size = fits _ _ size (lit< tt) in
    own

pub meets-requires-clause-small : goal.meets-requires-clause-small
meets-requires-clause-small c =
    let P = c.args.program.now in
    let p = c.args.pivot.now in
    let r = c.args.r in
    let n = level P.live in
    let small : (l : ℕ) → l < length P.lines → IsSmallLine (2 ^ 10) (2 ^ 80) (line_at P.lines l) = λ l h. line_fits n (line_at P.lines l) (c.requires.reduced.lines l h) in
    let own : IsSmallLine (2 ^ 10) (2 ^ 80) p.line = subst (λ x. IsSmallLine (2 ^ 10) (2 ^ 80) x) (sym c.requires.line) (small r c.requires.within) in
    let size = pivot_small p (2 ^ 10) (2 ^ 80) own in
    let fits_size : FitsSigned w128 c.args.pivot.now.size = fits _ _ size (lit< tt) in
    let l : c.loop-l.l < length P.lines = omega (arith, c.loop-l-test.true, c.len-l-end.ensures) in
    let line : IsSmallLine (2 ^ 10) (2 ^ 80) c.line-line.result = subst (λ x. IsSmallLine (2 ^ 10) (2 ^ 80) x) (sym c.line-line.ensures) (small c.loop-l.l l) in
    line

pub meets-requires-clause-num : goal.meets-requires-clause-num
meets-requires-clause-num c =
    let P = c.args.program.now in
    let p = c.args.pivot.now in
    let r = c.args.r in
    let n = level P.live in
    let small : (l : ℕ) → l < length P.lines → IsSmallLine (2 ^ 10) (2 ^ 80) (line_at P.lines l) = λ l h. line_fits n (line_at P.lines l) (c.requires.reduced.lines l h) in
    let own : IsSmallLine (2 ^ 10) (2 ^ 80) p.line = subst (λ x. IsSmallLine (2 ^ 10) (2 ^ 80) x) (sym c.requires.line) (small r c.requires.within) in
    let size = pivot_small p (2 ^ 10) (2 ^ 80) own in
    let fits_size : FitsSigned w128 c.args.pivot.now.size = fits _ _ size (lit< tt) in
    subst (λ y. AreAtMost (2 ^ 90) y) (sym c.only_point-num.ensures) (more (2 ^ 80) (2 ^ 90) (point_of p) (lit≤ tt) (point_small p (2 ^ 80) own.side))

pub meets-requires-clause-den : goal.meets-requires-clause-den
meets-requires-clause-den c =
    let P = c.args.program.now in
    let p = c.args.pivot.now in
    let r = c.args.r in
    let n = level P.live in
    let small : (l : ℕ) → l < length P.lines → IsSmallLine (2 ^ 10) (2 ^ 80) (line_at P.lines l) = λ l h. line_fits n (line_at P.lines l) (c.requires.reduced.lines l h) in
    let own : IsSmallLine (2 ^ 10) (2 ^ 80) p.line = subst (λ x. IsSmallLine (2 ^ 10) (2 ^ 80) x) (sym c.requires.line) (small r c.requires.within) in
    let size = pivot_small p (2 ^ 10) (2 ^ 80) own in
    let fits_size : FitsSigned w128 c.args.pivot.now.size = fits _ _ size (lit< tt) in
    simp to_z-of_z size

pub crossing-requires : goal.crossing-requires
crossing-requires c =
    let P = c.args.program.now in
    let p = c.args.pivot.now in
    let r = c.args.r in
    let n = level P.live in
    let small : (l : ℕ) → l < length P.lines → IsSmallLine (2 ^ 10) (2 ^ 80) (line_at P.lines l) = λ l h. line_fits n (line_at P.lines l) (c.requires.reduced.lines l h) in
    let own : IsSmallLine (2 ^ 10) (2 ^ 80) p.line = subst (λ x. IsSmallLine (2 ^ 10) (2 ^ 80) x) (sym c.requires.line) (small r c.requires.within) in
    let size = pivot_small p (2 ^ 10) (2 ^ 80) own in
    let fits_size : FitsSigned w128 c.args.pivot.now.size = fits _ _ size (lit< tt) in
    let l : c.loop-l.l < length P.lines = omega (arith, c.loop-l-test.true, c.len-l-end.ensures) in
    let line : IsSmallLine (2 ^ 10) (2 ^ 80) c.line-line.result = subst (λ x. IsSmallLine (2 ^ 10) (2 ^ 80) x) (sym c.line-line.ensures) (small c.loop-l.l l) in
    line.entries

pub returns-then-not-meets : goal.returns-then-not-meets
returns-then-not-meets c =
    let P = c.args.program.now in
    let p = c.args.pivot.now in
    let r = c.args.r in
    let n = level P.live in
    let small : (l : ℕ) → l < length P.lines → IsSmallLine (2 ^ 10) (2 ^ 80) (line_at P.lines l) = λ l h. line_fits n (line_at P.lines l) (c.requires.reduced.lines l h) in
    let own : IsSmallLine (2 ^ 10) (2 ^ 80) p.line = subst (λ x. IsSmallLine (2 ^ 10) (2 ^ 80) x) (sym c.requires.line) (small r c.requires.within) in
    let size = pivot_small p (2 ^ 10) (2 ^ 80) own in
    let fits_size : FitsSigned w128 c.args.pivot.now.size = fits _ _ size (lit< tt) in
    let l : c.loop-l.l < length P.lines = omega (arith, c.loop-l-test.true, c.len-l-end.ensures) in
    let line : IsSmallLine (2 ^ 10) (2 ^ 80) c.line-line.result = subst (λ x. IsSmallLine (2 ^ 10) (2 ^ 80) x) (sym c.line-line.ensures) (small c.loop-l.l l) in
    let m = simp to_z-of_z at c.if-not-meets.ensures in
    let x = line_at P.lines c.loop-l.l in
    let broken : (c.line-line.result.h *ℤ p.size) <ℤ along c.line-line.result.c c.only_point-num.result =
    by_lt_z (c.line-line.result.h *ℤ p.size) (along c.line-line.result.c c.only_point-num.result) (λ k. k) (λ k. never (m.1 k)) in
    let misses : (x.h *ℤ p.size) <ℤ along x.c (point_of p) =
    subst (λ y. (x.h *ℤ p.size) <ℤ along x.c y) c.only_point-num.ensures (subst (λ (z : Line). (z.h *ℤ p.size) <ℤ along z.c c.only_point-num.result) c.line-line.ensures broken) in
    let items = c.crossing.ensures ∙ ap (λ (z : Line). (c.loop-l.l, p.size) ∷ (r, pos 0 -ℤ p.sign *ℤ entry z.c p.place) ∷ []) c.line-line.ensures in
    subst (λ z. IsEmpty P z) (sym items)
    (crossing_empty P c.args.objective r p c.requires.reduced c.requires.within c.requires.line c.requires.alone c.args.best.now c.requires.best c.requires.broken c.loop-l.l l (sym c.if-is_seen.ensures) misses)

pub loop-l-preserved : goal.loop-l-preserved
loop-l-preserved c =
    let P = c.args.program.now in
    let p = c.args.pivot.now in
    let r = c.args.r in
    let n = level P.live in
    let small : (l : ℕ) → l < length P.lines → IsSmallLine (2 ^ 10) (2 ^ 80) (line_at P.lines l) = λ l h. line_fits n (line_at P.lines l) (c.requires.reduced.lines l h) in
    let own : IsSmallLine (2 ^ 10) (2 ^ 80) p.line = subst (λ x. IsSmallLine (2 ^ 10) (2 ^ 80) x) (sym c.requires.line) (small r c.requires.within) in
    let size = pivot_small p (2 ^ 10) (2 ^ 80) own in
    let fits_size : FitsSigned w128 c.args.pivot.now.size = fits _ _ size (lit< tt) in
    let l : c.loop-l.l < length P.lines = omega (arith, c.loop-l-test.true, c.len-l-end.ensures) in
    let line : IsSmallLine (2 ^ 10) (2 ^ 80) c.line-line.result = subst (λ x. IsSmallLine (2 ^ 10) (2 ^ 80) x) (sym c.line-line.ensures) (small c.loop-l.l l) in
    below_more (λ i. is_seen P.live r i ≡ true → along (line_at P.lines i).c (point_of p) ≤ℤ ((line_at P.lines i).h *ℤ p.size)) c.loop-l.l c.loop-l.invariant
    (elim c.else-is_seen.branch [
      | else-is_seen-via-then-is_seen+else-not-meets w ↦ λ e.
          let m = simp to_z-of_z at w.if-not-meets.ensures in
          subst (λ (x : Line). along x.c (point_of p) ≤ℤ (x.h *ℤ p.size)) c.line-line.ensures
          (subst (λ y. along c.line-line.result.c y ≤ℤ (c.line-line.result.h *ℤ p.size)) c.only_point-num.ensures (m.0 refl))
      | else-is_seen-via-else-is_seen w ↦ λ e. never (w.if-is_seen.ensures ∙ e)
    ])

pub returns : goal.returns
returns c =
    let P = c.args.program.now in
    let p = c.args.pivot.now in
    let r = c.args.r in
    let n = level P.live in
    let small : (l : ℕ) → l < length P.lines → IsSmallLine (2 ^ 10) (2 ^ 80) (line_at P.lines l) = λ l h. line_fits n (line_at P.lines l) (c.requires.reduced.lines l h) in
    let own : IsSmallLine (2 ^ 10) (2 ^ 80) p.line = subst (λ x. IsSmallLine (2 ^ 10) (2 ^ 80) x) (sym c.requires.line) (small r c.requires.within) in
    let size = pivot_small p (2 ^ 10) (2 ^ 80) own in
    let fits_size : FitsSigned w128 c.args.pivot.now.size = fits _ _ size (lit< tt) in
    let best = point_best P c.args.objective r p c.requires.reduced c.requires.within c.requires.line c.requires.alone c.args.best.now c.requires.best c.requires.broken
    (λ l h e. c.loop-l.invariant l (omega (arith, h, c.loop-l-test.false, c.len-l-end.ensures)) e) in
    subst (λ y. IsBest (is_seen P.live (r + 1)) P c.args.objective (record { num = y; den = to_z w128 (of_z w128 c.args.pivot.now.size); items = c.only_bound-items.result })) (sym c.only_point-num.ensures)
    (subst (λ items. IsBest (is_seen P.live (r + 1)) P c.args.objective (record { num = point_of p; den = to_z w128 (of_z w128 c.args.pivot.now.size); items = items })) (sym c.only_bound-items.ensures)
    (simp to_z-of_z best))
