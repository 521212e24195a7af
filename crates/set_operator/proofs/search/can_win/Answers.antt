-- a bound that leaves none above
use Rattle.std.proofs.Common.{subst}
use Rattle.std.specs.Prelude.{pos, ◌*ℤ◌, ◌≤ℤ◌}
use Rattle.level_table.specs.Levels.{levels_in}
use Rattle.set_operator.proofs.SearchLemmas.{kept_80, none_above, not_below}
use Rattle.set_operator.proofs.search.can_win.Goals as goal

pub returns-then-is_above : goal.returns-then-is_above
returns-then-is_above c = λ no.
    let most = c.most_in_box.result in
    let best = c.args.best.now in
    let low : (most *ℤ best.point.den) ≤ℤ (best.value *ℤ pos 1) =
    subst (λ z. (z *ℤ best.point.den) ≤ℤ (best.value *ℤ pos 1)) (kept_80 most c.most_in_box.ensures.small) (not_below _ _ (λ l. no (c.is_above-then-is_above.ensures.1 l))) in
    none_above c.args.p.now (levels_in c.args.levels.now) c.args.program.now.state c.args.dir c.args.program.now.profile best most c.requires.best c.most_in_box.ensures.most low

pub returns-else-is_above : goal.returns-else-is_above
returns-else-is_above c = λ no.
    let most = c.most_value.result in
    let best = c.args.best.now in
    let low : (most *ℤ best.point.den) ≤ℤ (best.value *ℤ pos 1) =
    subst (λ z. (z *ℤ best.point.den) ≤ℤ (best.value *ℤ pos 1)) (kept_80 most c.most_value.ensures.small) (not_below _ _ (λ l. no (c.is_above.ensures.1 l))) in
    none_above c.args.p.now (levels_in c.args.levels.now) c.args.program.now.state c.args.dir c.args.program.now.profile best most c.requires.best c.most_value.ensures.most low
