use Rattle.std.proofs.Common.{◌≡◌, ℕ, ◌+◌, ◌<◌, List, [], ◌∷◌, ◌++◌, length, get_or, sym, ap, subst, ◌∙◌}
use Rattle.std.proofs.lemmas.List.{length_push}
use Rattle.game_model.specs.SelfGeneration.{Entry}
use Rattle.inner_sets.specs.Built.{AreBuilt}
use Rattle.inner_sets.specs.Rows.{row_at}
use Rattle.inner_sets.proofs.Steps.{push_each}
use Rattle.inner_sets.proofs.inner.all_entries.Goals as goal

pub loop-s-preserved : goal.loop-s-preserved
loop-s-preserved c =
    let items : c.push.new.self ≡ c.loop-s.entries ++ c.in_ok-entries_of.field-0 ∷ [] = (c.in_ok-push.ensures {u = tt}).ok in
    record {
      count = ap (λ (xs : List (List Entry)). length xs) items ∙ (length_push c.loop-s.entries c.in_ok-entries_of.field-0 ∙ ap (λ (m : ℕ). m + 1) c.loop-s.invariant.count);
      each = subst (λ (xs : List (List Entry)). (t : ℕ) → t < c.loop-s.s + 1 → AreBuilt c.args.game.now c.args.n c.args.summaries.now t (row_at c.args.rows.now t) (get_or xs t [])) (sym items)
          (push_each (λ (t : ℕ) (es : List Entry). AreBuilt c.args.game.now c.args.n c.args.summaries.now t (row_at c.args.rows.now t) es) c.loop-s.entries c.in_ok-entries_of.field-0 [] c.loop-s.s c.loop-s.invariant.count c.loop-s.invariant.each (c.in_ok-entries_of.ensures {u = tt}));
    }
