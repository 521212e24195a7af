use Rattle.std.proofs.Common.{◌≤◌, ◌^◌}
use Rattle.std.specs.Prelude.{ℤ}
use Rattle.std.specs.Int.RustNames.{unsigned_abs}
use Rattle.std.proofs.lemmas.List.Elements.{All-take}
use Rattle.lp_core.proofs.tests.generated.Goals as goal

pub boxed-rows-requires-clause-upper : goal.boxed-rows-requires-clause-upper
boxed-rows-requires-clause-upper c = All-take (λ (h : ℤ). unsigned_abs h ≤ 2 ^ 64) c.args.dimension c.sides-upper.result c.sides-upper.ensures

pub boxed-rows-requires-clause-lower : goal.boxed-rows-requires-clause-lower
boxed-rows-requires-clause-lower c = All-take (λ (h : ℤ). unsigned_abs h ≤ 2 ^ 64) c.args.dimension c.sides-lower.result c.sides-lower.ensures
