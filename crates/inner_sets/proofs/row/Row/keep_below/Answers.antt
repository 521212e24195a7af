use Rattle.std.proofs.Common.{◌≡◌, sym, subst, rules, nat_lt}
use Rattle.std.specs.Prelude.{filter}
use Rattle.std.proofs.lemmas.Fn.{filter_same}
use Rattle.inner_sets.specs.declared.item.Item.{Item}
use Rattle.inner_sets.specs.Rows.{IsSmallRow}
use Rattle.inner_sets.proofs.Steps.{small_filter}
use Rattle.inner_sets.proofs.row.Row.keep_below.Goals as goal

pub invariant_of-self : goal.invariant_of-self
invariant_of-self c =
    let e : c.retain.new.self.items ≡ filter (λ (x : Item). nat_lt x.profile c.args.profiles) c.self.inside.items.items = filter_same _ (λ (x : Item). nat_lt x.profile c.args.profiles) _ (λ x b f' k. search rules) _ _ c.retain.ensures.filtered in
    subst IsSmallRow (sym e) (small_filter (λ (x : Item). nat_lt x.profile c.args.profiles) c.self.inside.items.items c.self.invariant)

pub returns : goal.returns
returns c =
    let e : c.retain.new.self.items ≡ filter (λ (x : Item). nat_lt x.profile c.args.profiles) c.self.inside.items.items = filter_same _ (λ (x : Item). nat_lt x.profile c.args.profiles) _ (λ x b f' k. search rules) _ _ c.retain.ensures.filtered in
    cc
