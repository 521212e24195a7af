use Rattle.std.proofs.Common.{◌<◌, ◌≤◌, ◌^◌, List, length, sym, ap, subst, arith}
use Rattle.std.specs.Prelude.{unsigned_abs}
use Rattle.std.proofs.lemmas.List.{get_or_read}
use Rattle.game_model.specs.SelfGeneration.{part}
use Rattle.inner_sets.specs.declared.item.Item.{Item}
use Rattle.inner_sets.specs.Rows.{no_item}
use Rattle.inner_sets.proofs.row.Row.item.Goals as goal

pub returns-clause-small : goal.returns-clause-small
returns-clause-small c = λ i h.
    let inside : c.args.k < length c.self.inside.items.items = omega (arith, c.requires, ap (λ (xs : List Item). length xs) c.self.view_is) in
    subst (λ (x : Item). unsigned_abs (part x.point i) ≤ 2 ^ 30) (sym (get_or_read c.self.inside.items.items c.args.k c.index.result.now inside c.index.ensures no_item)) (c.self.invariant.small c.args.k i inside h)
