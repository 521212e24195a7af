use Rattle.std.proofs.Common.{◌≡◌, ◌+◌, ◌≤◌, ◌^◌, [], ◌∷◌, set, sym, subst, ◌∙◌, arith, lit<, rules}
use Rattle.std.specs.Prelude.{pos, slice_index_or, true, false}
use Rattle.std.specs.Int.{w128}
use Rattle.std.specs.Int.RustNames.{FitsSigned, unsigned_abs}
use Rattle.std.proofs.lemmas.Int.{to_z-of_z}
use Rattle.lp_cert.specs.Program.{entry}
use Rattle.lp_core.specs.Corner.{IsEnd}
use Rattle.lp_core.specs.Sizes.{level, objective_most}
use Rattle.lp_core.specs.Search.{IsEmpty}
use Rattle.lp_core.proofs.Corners.{IsCornerTo, no_corner, corner_dead, corner_live, corner_best, empty_box}
use Rattle.lp_core.proofs.Fits.{fits, at_place}
use Rattle.lp_core.proofs.Levels.{objective_bound, live_below_few}
use Rattle.lp_core.proofs.corner.corner.Goals as goal
use Rattle.lp_core.proofs.corner.corner.Goals.{then-live-k+in-Some, else-live-k}

pub loop-k-init : goal.loop-k-init
loop-k-init c = subst (λ items. IsCornerTo 0 c.args.program.now c.args.objective (pos 0 ∷ pos 0 ∷ pos 0 ∷ []) items) (sym c.new-items.ensures) (no_corner c.args.program.now c.args.objective)

pub returns-in_default : goal.returns-in_default
returns-in_default c =
    subst (λ items. IsEmpty c.args.program.now items) (sym c.empty_box.ensures)
    (empty_box c.loop-k.k c.args.program.now c.args.objective c.loop-k-test.true c.requires (subst (λ xs. slice_index_or xs c.loop-k.k false ≡ true) c.live-live.ensures c.if-live-k.true) c.in_default.ensures)

pub push-requires : goal.push-requires
push-requires c = omega (arith, c.loop-k.invariant.few, live_below_few c.args.program.now.live c.loop-k.k, c.loop-k-test.true)

pub loop-k-preserved : goal.loop-k-preserved
loop-k-preserved c =
    let p = c.args.program.now in
    let o = c.args.objective in
    let k = c.loop-k.k in
    let n = level p.live in
    elim c.if-live-k.branch [
      | then-live-k+in-Some w ↦
          let e = w.in-Some.end in
          let at_fits : FitsSigned w128 w.in-Some.end.at = search rules in
          let times_fits : FitsSigned w128 w.in-Some.end.times = search rules in
          let small : unsigned_abs (entry c.args.objective c.loop-k.k) ≤ objective_most n = at_place (objective_most n) k o c.loop-k-test.true c.requires.objective in
          let fits_o : FitsSigned w128 (entry c.args.objective c.loop-k.k) = fits _ (2 ^ 21) (omega (arith, small, objective_bound n)) (lit< tt) in
          let is : IsEnd c.args.program.now.lines c.loop-k.k (entry c.args.objective c.loop-k.k) w.in-Some.end = simp to_z-of_z at w.in-Some.ensures in
          let pushed = simp to_z-of_z at w.push.ensures in
          let moved = simp to_z-of_z at w.num-is in
          subst (λ num. IsCornerTo (k + 1) p o num c.if-live-k.items) (sym moved)
          (subst (λ items. IsCornerTo (k + 1) p o (set c.loop-k.num k e.at) items) (sym (w.items-is ∙ pushed))
          (corner_live k p o c.loop-k.num c.loop-k.items e c.loop-k-test.true c.requires (subst (λ xs. slice_index_or xs c.loop-k.k false ≡ true) c.live-live.ensures w.if-live-k.true) is c.loop-k.invariant))
      | else-live-k w ↦
          subst (λ num. IsCornerTo (k + 1) p o num c.if-live-k.items) (sym w.num-is)
          (subst (λ items. IsCornerTo (k + 1) p o c.loop-k.num items) (sym w.items-is)
          (corner_dead k p o c.loop-k.num c.loop-k.items c.loop-k-test.true c.requires (subst (λ xs. slice_index_or xs c.loop-k.k false ≡ false) c.live-live.ensures w.if-live-k.false) c.loop-k.invariant))
    ]

pub returns : goal.returns
returns c =
    let three : c.loop-k.k ≡ 3 = omega (arith, c.loop-k-test.false, c.loop-k.auto.k-end) in
    corner_best c.args.program.now c.args.objective c.loop-k.num c.loop-k.items c.requires
    (subst (λ k. IsCornerTo k c.args.program.now c.args.objective c.loop-k.num c.loop-k.items) three c.loop-k.invariant)
