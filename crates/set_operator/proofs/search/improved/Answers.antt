-- a profile that wins, one that doesn't, and one that admits nothing
use Rattle.std.proofs.Common.{arith, subst, to_z, of_z}
use Rattle.std.specs.Int.{w128}
use Rattle.std.specs.Prelude.{◌*ℤ◌, ◌<ℤ◌, ◌≤ℤ◌, Some}
use Rattle.std.proofs.lemmas.Bool.{iff_false}
use Rattle.level_table.specs.Levels.{levels_in}
use Rattle.set_operator.proofs.SearchLemmas.{greater_is_earliest, kept_103, kept_den, not_below, so_far_greater, so_far_lower, so_far_skip}
use Rattle.set_operator.proofs.search.improved.Goals as goal

pub returns-then-is_above-clause-largest : goal.returns-then-is_above-clause-largest
returns-then-is_above-clause-largest c =
    let best = c.args.best in
    let here = c.in-Some.here in
    let new = c.in-Some.ensures.some in
    let above : (best.value *ℤ here.point.den) <ℤ (here.value *ℤ best.point.den) =
    subst (λ z. (best.value *ℤ here.point.den) <ℤ (z *ℤ best.point.den)) (kept_103 here.value new.small.value_small)
    (subst (λ d. (best.value *ℤ d) <ℤ (to_z w128 (of_z w128 here.value) *ℤ best.point.den)) (kept_den here.point.den new.small.positive new.small.den_small) (c.is_above.ensures.0 c.if-is_above.true)) in
    so_far_greater c.args.p.now (levels_in c.args.levels.now) c.args.program.now.state c.args.dir c.args.program.now.profile best here c.requires.of_profile.profile c.requires.best new above

pub returns-then-is_above-clause-earliest : goal.returns-then-is_above-clause-earliest
returns-then-is_above-clause-earliest c =
    let best = c.args.best in
    let here = c.in-Some.here in
    let new = c.in-Some.ensures.some in
    let above : (best.value *ℤ here.point.den) <ℤ (here.value *ℤ best.point.den) =
    subst (λ z. (best.value *ℤ here.point.den) <ℤ (z *ℤ best.point.den)) (kept_103 here.value new.small.value_small)
    (subst (λ d. (best.value *ℤ d) <ℤ (to_z w128 (of_z w128 here.value) *ℤ best.point.den)) (kept_den here.point.den new.small.positive new.small.den_small) (c.is_above.ensures.0 c.if-is_above.true)) in
    λ _ b y below adm. greater_is_earliest c.args.p.now (levels_in c.args.levels.now) c.args.program.now.state c.args.dir c.args.program.now.profile best here c.requires.best new above b y (omega (arith, new.profile_is)) adm

pub returns-else-is_above-clause-largest : goal.returns-else-is_above-clause-largest
returns-else-is_above-clause-largest c =
    let best = c.args.best in
    let here = c.in-Some.here in
    let new = c.in-Some.ensures.some in
    let low : (here.value *ℤ best.point.den) ≤ℤ (best.value *ℤ here.point.den) =
    subst (λ z. (z *ℤ best.point.den) ≤ℤ (best.value *ℤ here.point.den)) (kept_103 here.value new.small.value_small)
    (subst (λ d. (to_z w128 (of_z w128 here.value) *ℤ best.point.den) ≤ℤ (best.value *ℤ d)) (kept_den here.point.den new.small.positive new.small.den_small) (not_below _ _ (iff_false c.is_above.ensures c.if-is_above.false))) in
    so_far_lower c.args.p.now (levels_in c.args.levels.now) c.args.program.now.state c.args.dir c.args.program.now.profile best here c.requires.best new low

pub returns-in-None-clause-largest : goal.returns-in-None-clause-largest
returns-in-None-clause-largest c =
    so_far_skip c.args.p.now (levels_in c.args.levels.now) c.args.program.now.state c.args.dir c.args.program.now.profile (Some c.args.best) c.requires.best c.in-None.ensures.none
