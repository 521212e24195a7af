use Rattle.std.proofs.Common.{◌≡◌, ℕ, ◌+◌, ◌<◌, List, [], ◌∷◌, ◌++◌, length, get_or, sym, ap, subst, ◌∙◌, arith}
use Rattle.std.proofs.lemmas.List.{get_or_read, length_push}
use Rattle.game_model.specs.Game.{counts, profile_count}
use Rattle.game_model.specs.SelfGeneration.{Entry, no_entry}
use Rattle.inner_sets.specs.declared.item.Item.{Item}
use Rattle.inner_sets.specs.Built.{IsBuilt}
use Rattle.inner_sets.specs.Rows.{item_at, row_at}
use Rattle.inner_sets.specs.Summaries.{Continues}
use Rattle.inner_sets.proofs.Steps.{push_each, settled_passes}
use Rattle.inner_sets.proofs.inner.entries_of.Goals as goal

pub entry_of-requires-clause-trial : goal.entry_of-requires-clause-trial
entry_of-requires-clause-trial c =
    let row : c.index-rows-s.result ≡ row_at c.args.rows.now c.args.s = get_or_read c.args.rows.now c.args.s c.index-rows-s.result (omega (arith, c.requires.settled.open_rows.one_each, c.requires.state)) c.index-rows-s.is [] in
    let long : length c.index-rows-s.result ≡ length (row_at c.args.rows.now c.args.s) = ap (λ (xs : List Item). length xs) row in
    let both = settled_passes c.args.game.now c.args.n c.args.rows.now c.args.summaries.now c.args.s c.loop-k.k c.players-players.ensures.is_game c.requires.players c.requires.settled c.requires.summaries c.requires.state (omega (arith, long, c.loop-k-test.true, c.len-k-end.ensures.count)) in
    let item : c.item-item.result ≡ item_at (row_at c.args.rows.now c.args.s) c.loop-k.k = c.item-item.ensures.item ∙ ap (λ (xs : List Item). item_at xs c.loop-k.k) row in
    record {
      game = c.players-players.ensures.is_game;
      two_players = c.requires.players;
      n_small = c.requires.n;
      one_each = c.requires.summaries.one_each;
      state = c.requires.state;
      profile = subst (λ (x : Item). x.profile < profile_count (counts c.args.game.now c.args.s)) (sym item) both.0;
    }

pub entry_of-requires-clause-continues : goal.entry_of-requires-clause-continues
entry_of-requires-clause-continues c =
    let row : c.index-rows-s.result ≡ row_at c.args.rows.now c.args.s = get_or_read c.args.rows.now c.args.s c.index-rows-s.result (omega (arith, c.requires.settled.open_rows.one_each, c.requires.state)) c.index-rows-s.is [] in
    let long : length c.index-rows-s.result ≡ length (row_at c.args.rows.now c.args.s) = ap (λ (xs : List Item). length xs) row in
    let both = settled_passes c.args.game.now c.args.n c.args.rows.now c.args.summaries.now c.args.s c.loop-k.k c.players-players.ensures.is_game c.requires.players c.requires.settled c.requires.summaries c.requires.state (omega (arith, long, c.loop-k-test.true, c.len-k-end.ensures.count)) in
    let item : c.item-item.result ≡ item_at (row_at c.args.rows.now c.args.s) c.loop-k.k = c.item-item.ensures.item ∙ ap (λ (xs : List Item). item_at xs c.loop-k.k) row in
    subst (λ (x : Item). Continues c.args.game.now c.args.n c.args.summaries.now c.args.s x.profile x.point) (sym item) both.1.continuation

pub loop-k-preserved : goal.loop-k-preserved
loop-k-preserved c =
    let items : c.push.new.self ≡ c.loop-k.entries ++ c.in_ok-entry_of.field-0 ∷ [] = (c.in_ok-push.ensures {u = tt}).ok in
    let here : IsBuilt c.args.game.now c.args.n c.args.summaries.now c.args.s (item_at c.index-rows-s.result c.loop-k.k).profile (item_at c.index-rows-s.result c.loop-k.k).point c.in_ok-entry_of.field-0 =
    subst (λ (x : Item). IsBuilt c.args.game.now c.args.n c.args.summaries.now c.args.s x.profile x.point c.in_ok-entry_of.field-0) c.item-item.ensures.item (c.in_ok-entry_of.ensures {u = tt}) in
    record {
      count = ap (λ (xs : List Entry). length xs) items ∙ (length_push c.loop-k.entries c.in_ok-entry_of.field-0 ∙ ap (λ (m : ℕ). m + 1) c.loop-k.invariant.count);
      each = subst (λ (xs : List Entry). (j : ℕ) → j < c.loop-k.k + 1 → IsBuilt c.args.game.now c.args.n c.args.summaries.now c.args.s (item_at c.index-rows-s.result j).profile (item_at c.index-rows-s.result j).point (get_or xs j no_entry)) (sym items)
          (push_each (λ (j : ℕ) (e : Entry). IsBuilt c.args.game.now c.args.n c.args.summaries.now c.args.s (item_at c.index-rows-s.result j).profile (item_at c.index-rows-s.result j).point e) c.loop-k.entries c.in_ok-entry_of.field-0 no_entry c.loop-k.k c.loop-k.invariant.count c.loop-k.invariant.each here);
    }
