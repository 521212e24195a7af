use Rattle.std.proofs.Common.{◌≡◌, ◌∙◌, ap, sym, subst, arith, get_or, ℕ, [], ◌∷◌}
use Rattle.game_model.specs.Game.{IsGame}
use Rattle.game_model.specs.SelfGeneration.{Entry, IsGenerated, entry_at, punishment}
use Rattle.selfgen_check.specs.Promises.{correspondence_of}
use Rattle.selfgen_check.proofs.Profiles.{one_each}
use Rattle.deviation_laws.specs.Plans.{outcomes_after}
use Rattle.deviation_laws.proofs.Averages.{own_read, follows, outcomes_own, outcomes_other}
use Rattle.deviation_laws.proofs.following.outcomes_after.Goals as goal

pub returns-then-strategy-get-clause-outcomes : goal.returns-then-strategy-get-clause-outcomes
returns-then-strategy-get-clause-outcomes c =
    let ok : IsGame c.args.set.now.game = subst IsGame c.game.ensures.game c.players-players.ensures.is_game in
    let made : IsGenerated c.args.set.now.game (correspondence_of c.args.set.now.game c.args.set.now.corr) c.args.state (entry_at (correspondence_of c.args.set.now.game c.args.set.now.corr) c.args.state c.args.entry) = c.game.ensures.checked.self_generating.generated c.args.state c.args.entry c.requires.state c.requires.entry in
    let e : c.entry-promise.result.now ≡ (entry_at (correspondence_of c.args.set.now.game c.args.set.now.corr) c.args.state c.args.entry) = rw c.corr.ensures.corr at c.entry-promise.ensures in
    let own : c.get.result.now ≡ get_or (entry_at (correspondence_of c.args.set.now.game c.args.set.now.corr) c.args.state c.args.entry).profile c.args.player 0 = own_read _ _ _ _ (c.profile.ensures.profile ∙ ap (λ (x : Entry). x.profile) e) c.get.ensures (omega (arith, made.profile.0, one_each c.args.set.now.game c.args.state ok c.requires.state, c.requires.player)) in
    let o : c.copy_of.result ≡ outcomes_after c.args.set.now.game c.args.state (entry_at (correspondence_of c.args.set.now.game c.args.set.now.corr) c.args.state c.args.entry) c.args.player c.args.strategy =
    c.copy_of.ensures ∙ (c.lottery.ensures ∙ (ap (λ (x : Entry). x.lottery) e ∙ sym (outcomes_own c.args.set.now.game c.args.state (entry_at (correspondence_of c.args.set.now.game c.args.set.now.corr) c.args.state c.args.entry) c.args.player c.args.strategy made.profile (c.if-strategy-get.true ∙ own)))) in
    o

pub returns-then-strategy-get-clause-known : goal.returns-then-strategy-get-clause-known
returns-then-strategy-get-clause-known c =
    let ok : IsGame c.args.set.now.game = subst IsGame c.game.ensures.game c.players-players.ensures.is_game in
    let made : IsGenerated c.args.set.now.game (correspondence_of c.args.set.now.game c.args.set.now.corr) c.args.state (entry_at (correspondence_of c.args.set.now.game c.args.set.now.corr) c.args.state c.args.entry) = c.game.ensures.checked.self_generating.generated c.args.state c.args.entry c.requires.state c.requires.entry in
    let e : c.entry-promise.result.now ≡ (entry_at (correspondence_of c.args.set.now.game c.args.set.now.corr) c.args.state c.args.entry) = rw c.corr.ensures.corr at c.entry-promise.ensures in
    let own : c.get.result.now ≡ get_or (entry_at (correspondence_of c.args.set.now.game c.args.set.now.corr) c.args.state c.args.entry).profile c.args.player 0 = own_read _ _ _ _ (c.profile.ensures.profile ∙ ap (λ (x : Entry). x.profile) e) c.get.ensures (omega (arith, made.profile.0, one_each c.args.set.now.game c.args.state ok c.requires.state, c.requires.player)) in
    let o : c.copy_of.result ≡ outcomes_after c.args.set.now.game c.args.state (entry_at (correspondence_of c.args.set.now.game c.args.set.now.corr) c.args.state c.args.entry) c.args.player c.args.strategy =
    c.copy_of.ensures ∙ (c.lottery.ensures ∙ (ap (λ (x : Entry). x.lottery) e ∙ sym (outcomes_own c.args.set.now.game c.args.state (entry_at (correspondence_of c.args.set.now.game c.args.set.now.corr) c.args.state c.args.entry) c.args.player c.args.strategy made.profile (c.if-strategy-get.true ∙ own)))) in
    rw o (follows c.args.set.now.game (correspondence_of c.args.set.now.game c.args.set.now.corr) c.args.state (entry_at (correspondence_of c.args.set.now.game c.args.set.now.corr) c.args.state c.args.entry) c.args.player c.args.strategy ok c.requires.state made c.requires.player c.requires.strategy).known

pub returns-else-strategy-get-clause-outcomes : goal.returns-else-strategy-get-clause-outcomes
returns-else-strategy-get-clause-outcomes c =
    let ok : IsGame c.args.set.now.game = subst IsGame c.game.ensures.game c.players-players.ensures.is_game in
    let made : IsGenerated c.args.set.now.game (correspondence_of c.args.set.now.game c.args.set.now.corr) c.args.state (entry_at (correspondence_of c.args.set.now.game c.args.set.now.corr) c.args.state c.args.entry) = c.game.ensures.checked.self_generating.generated c.args.state c.args.entry c.requires.state c.requires.entry in
    let e : c.entry-promise.result.now ≡ (entry_at (correspondence_of c.args.set.now.game c.args.set.now.corr) c.args.state c.args.entry) = rw c.corr.ensures.corr at c.entry-promise.ensures in
    let own : c.get.result.now ≡ get_or (entry_at (correspondence_of c.args.set.now.game c.args.set.now.corr) c.args.state c.args.entry).profile c.args.player 0 = own_read _ _ _ _ (c.profile.ensures.profile ∙ ap (λ (x : Entry). x.profile) e) c.get.ensures (omega (arith, made.profile.0, one_each c.args.set.now.game c.args.state ok c.requires.state, c.requires.player)) in
    let o : c.one_outcome.result ≡ outcomes_after c.args.set.now.game c.args.state (entry_at (correspondence_of c.args.set.now.game c.args.set.now.corr) c.args.state c.args.entry) c.args.player c.args.strategy =
    c.one_outcome.ensures ∙ (ap (λ (x : ℕ). (x, 1) ∷ []) (c.punishment_of.ensures ∙ ap (λ (x : Entry). punishment c.args.set.now.game c.args.state x c.args.player c.args.strategy) e) ∙ sym (outcomes_other c.args.set.now.game c.args.state (entry_at (correspondence_of c.args.set.now.game c.args.set.now.corr) c.args.state c.args.entry) c.args.player c.args.strategy made.profile (λ h. c.if-strategy-get.false (h ∙ sym own)))) in
    o

pub returns-else-strategy-get-clause-known : goal.returns-else-strategy-get-clause-known
returns-else-strategy-get-clause-known c =
    let ok : IsGame c.args.set.now.game = subst IsGame c.game.ensures.game c.players-players.ensures.is_game in
    let made : IsGenerated c.args.set.now.game (correspondence_of c.args.set.now.game c.args.set.now.corr) c.args.state (entry_at (correspondence_of c.args.set.now.game c.args.set.now.corr) c.args.state c.args.entry) = c.game.ensures.checked.self_generating.generated c.args.state c.args.entry c.requires.state c.requires.entry in
    let e : c.entry-promise.result.now ≡ (entry_at (correspondence_of c.args.set.now.game c.args.set.now.corr) c.args.state c.args.entry) = rw c.corr.ensures.corr at c.entry-promise.ensures in
    let own : c.get.result.now ≡ get_or (entry_at (correspondence_of c.args.set.now.game c.args.set.now.corr) c.args.state c.args.entry).profile c.args.player 0 = own_read _ _ _ _ (c.profile.ensures.profile ∙ ap (λ (x : Entry). x.profile) e) c.get.ensures (omega (arith, made.profile.0, one_each c.args.set.now.game c.args.state ok c.requires.state, c.requires.player)) in
    let o : c.one_outcome.result ≡ outcomes_after c.args.set.now.game c.args.state (entry_at (correspondence_of c.args.set.now.game c.args.set.now.corr) c.args.state c.args.entry) c.args.player c.args.strategy =
    c.one_outcome.ensures ∙ (ap (λ (x : ℕ). (x, 1) ∷ []) (c.punishment_of.ensures ∙ ap (λ (x : Entry). punishment c.args.set.now.game c.args.state x c.args.player c.args.strategy) e) ∙ sym (outcomes_other c.args.set.now.game c.args.state (entry_at (correspondence_of c.args.set.now.game c.args.set.now.corr) c.args.state c.args.entry) c.args.player c.args.strategy made.profile (λ h. c.if-strategy-get.false (h ∙ sym own)))) in
    rw o (follows c.args.set.now.game (correspondence_of c.args.set.now.game c.args.set.now.corr) c.args.state (entry_at (correspondence_of c.args.set.now.game c.args.set.now.corr) c.args.state c.args.entry) c.args.player c.args.strategy ok c.requires.state made c.requires.player c.requires.strategy).known
