use Rattle.std.proofs.Common.{◌≡◌, length, take, arith, ap}
use Rattle.std.specs.List.{filter}
use Rattle.std.proofs.lemmas.List.{length-take-le}
use Rattle.lp_core.specs.Kept.{is_kept}
use Rattle.lp_core.proofs.Filters.{filter_few}
use Rattle.lp_core.proofs.kept.without_zeros.Goals as goal

pub push-requires : goal.push-requires
push-requires c =
    let items = c.args.items.now in
    let i = c.loop-i.i in
    let count : length (take i items) ≡ i = length-take-le i items (omega (arith, c.loop-i.auto.i-end, c.len-i-end.ensures.value)) in
    let same : length c.loop-i.kept ≡ length (filter is_kept (take i items)) = ap (λ xs. length xs) c.loop-i.invariant in
    omega (arith, count, same, filter_few (take i items), c.loop-i-test.true, c.len-i-end.ensures.room)
