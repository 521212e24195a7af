-- the product fits
use Rattle.std.proofs.Common.{◌≡◌, ◌∙◌, ap, pos}
use Rattle.std.specs.Prelude.{◌-ℤ◌, ◌*ℤ◌}
use Rattle.std.specs.Int.{w64}
use Rattle.std.proofs.lemmas.Int.{to_z-of_z}
use Rattle.set_operator.proofs.SearchLemmas.{kept_103, lt_test, reach_by_code}
use Rattle.set_operator.proofs.search.reaches.Goals as goal

pub returns : goal.returns
returns c =
    let from : c.from.result ≡ c.args.level = c.from.ensures ∙ to_z-of_z w64 c.args.level c.ranges.level in
    let left = reach_by_code c.args.level c.from.result c.value_unit.result c.ranges.level from c.value_unit.ensures.small in
    let unit = ap (λ z. (c.args.level -ℤ pos 1) *ℤ z) c.value_unit.ensures.unit in
    let value = kept_103 c.args.best.now.value c.requires.value_small in
    lt_test _ _ _ _ (left ∙ unit) value
