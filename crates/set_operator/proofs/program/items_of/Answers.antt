use Rattle.std.proofs.Common.{◌≡◌, ◌≤◌, ◌<◌, ◌+◌, ◌^◌, ℕ, List, [], ◌∷◌, ◌++◌, length, take, arith, sym, ◌∙◌, subst, ap, length-append, lit<}
use Rattle.std.specs.Prelude.{ℤ}
use Rattle.std.specs.Int.{w128}
use Rattle.std.specs.Int.RustNames.{FitsSigned, unsigned_abs}
use Rattle.std.proofs.lemmas.Int.{to_z-of_z}
use Rattle.std.proofs.lemmas.List.{take_more}
use Rattle.level_table.specs.Levels.{levels_in}
use Rattle.level_table.specs.declared.reason.Item.{Item}
use Rattle.lp_cert.proofs.Steps.{got, times_small}
use Rattle.exact_algebra.proofs.Fits.{fits128}
use Rattle.set_operator.specs.Program.{AreItemsOf, IsItemOf}
use Rattle.set_operator.proofs.Items.{items_more}
use Rattle.set_operator.proofs.program.items_of.Goals as goal

pub item_of-requires-clause-row : goal.item_of-requires-clause-row
item_of-requires-clause-row c =
    let ms = c.args.multipliers.now in
    let item = c.get.result.now in
    let l : c.loop-i.i < length ms = omega (arith, c.len-i-end.ensures.value, c.loop-i-test.true) in
    subst (λ (x : ℕ × ℤ). x.0 < length c.args.p.now.directions) (got ms c.loop-i.i item c.get.ensures item) (c.requires.rows c.loop-i.i item l)

pub loop-i-preserved : goal.loop-i-preserved
loop-i-preserved c =
    let ms = c.args.multipliers.now in
    let i = c.loop-i.i in
    let item = c.get.result.now in
    let list = c.loop-i.items in
    let l : i < length ms = omega (arith, c.len-i-end.ensures.value, c.loop-i-test.true) in
    let small : unsigned_abs item.1 ≤ 2 ^ 20 = times_small ms i item c.requires.small l c.get.ensures in
    let f1 : FitsSigned w128 item.1 = fits128 item.1 (2 ^ 20) small (lit< tt) in
    let is : IsItemOf c.args.p.now (levels_in c.args.levels.now) c.args.found.now item.0 item.1 c.item_of.result = simp to_z-of_z at c.item_of.ensures in
    let more : take (i + 1) ms ≡ take i ms ++ item ∷ [] = take_more ms i item l ∙ ap (λ (x : ℕ × ℤ). take i ms ++ x ∷ []) (got ms i item c.get.ensures item) in
    record {
      items = subst (λ (xs : List (ℕ × ℤ)). AreItemsOf c.args.p.now (levels_in c.args.levels.now) c.args.found.now xs c.push.new.self) (sym more)
          (subst (λ (xs : List Item). AreItemsOf c.args.p.now (levels_in c.args.levels.now) c.args.found.now (take i ms ++ item ∷ []) xs) (sym c.push.ensures)
          (items_more c.args.p.now (levels_in c.args.levels.now) c.args.found.now (take i ms) list item c.item_of.result c.loop-i.invariant.items is));
      count = ap length c.push.ensures ∙ length-append list (c.item_of.result ∷ []) ∙ ap (λ n. n + 1) c.loop-i.invariant.count;
    }
