use Rattle.std.proofs.Common.{◌≡◌, ◌*◌, List, sym, ap, subst, ◌∙◌, rules, to_z, of_z, FitsSigned}
use Rattle.std.specs.Prelude.{ℤ, pos, ◌<ℤ◌, unsigned_abs}
use mir.Syntax.{w64}
use Rattle.std.proofs.lemmas.Int.{to_z-of_z, unsigned_abs-mul}
use Rattle.selfgen_check.specs.Promises.{Promises}
use Rattle.inner_sets.specs.declared.item.Item.{Item}
use Rattle.inner_sets.specs.Built.{AllBuilt, IsReady}
use Rattle.inner_sets.specs.Rows.{choice_of}
use Rattle.inner_sets.specs.Summaries.{PointSummary, AreSummaries}
use Rattle.inner_sets.proofs.Sets.{ready}
use Rattle.inner_sets.proofs.Steps.{common_positive}
use Rattle.inner_sets.proofs.inner.correspondence.Goals as goal

pub new-requires : goal.new-requires
new-requires g c =
    let fits : FitsSigned w64 c.common.result = search rules in
    subst (λ (z : ℤ). pos 0 <ℤ z) (sym (to_z-of_z w64 c.common.result fits ∙ c.common.ensures)) (common_positive c.args.game.now.denominator c.args.n c.players-players.ensures.is_game.denominator_positive c.requires.n_positive)

pub returns : goal.returns
returns g c =
    let fits : FitsSigned w64 c.common.result = search rules in
    let are : AreSummaries c.args.game.now (choice_of c.in_ok-rows.rows.items) c.in_ok-summaries.summaries.items = subst (λ (xs : List (List Item)). AreSummaries c.args.game.now (choice_of xs) c.in_ok-summaries.summaries.items) c.deref.ensures.value (c.in_ok-summaries.ensures {u = tt}) in
    let built : AllBuilt c.args.game.now c.args.n c.in_ok-summaries.summaries.items c.in_ok-rows.rows.items c.in_ok-entries.entries =
    subst (λ (xs : List (List Item)). AllBuilt c.args.game.now c.args.n c.in_ok-summaries.summaries.items xs c.in_ok-entries.entries) c.deref-3.ensures.value
    (subst (λ (ys : List PointSummary). AllBuilt c.args.game.now c.args.n ys c.deref-3.result.now c.in_ok-entries.entries) c.deref-2.ensures.value (c.in_ok-entries.ensures {u = tt})) in
    let product : unsigned_abs (to_z w64 (of_z w64 c.common.result)) ≡ unsigned_abs c.args.game.now.denominator * c.args.n =
    ap unsigned_abs (to_z-of_z w64 c.common.result fits ∙ c.common.ensures) ∙ unsigned_abs-mul c.args.game.now.denominator (pos c.args.n) in
    subst (λ (p : Promises). IsReady c.args.game.now c.args.n p) (sym c.new.ensures)
    (ready c.args.game.now c.args.n c.players-players.ensures.is_game c.requires.players c.requires.n_positive c.requires.n_small c.in_ok-rows.rows.items (c.in_ok-rows.ensures {u = tt}) c.in_ok-summaries.summaries.items are c.in_ok-entries.entries built (unsigned_abs (to_z w64 (of_z w64 c.common.result))) product)
