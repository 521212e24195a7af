use Rattle.std.proofs.Common.{◌≡◌, ◌<◌, suc, get_or, length, ◌∙◌, ap, subst, arith, add-one, Ok, Err}
use Rattle.std.specs.Prelude.{pos, ◌<ℤ◌, slice_index}
use Rattle.std.proofs.lemmas.Int.{ints}
use Rattle.std.proofs.lemmas.Result.{err_from_is_err_and}
use Rattle.std.proofs.lemmas.List.{get_or_read}
use Rattle.pay_frac.specs.Ratio.{Equals}
use Rattle.game_model.specs.Game.{IsGame, counts}
use Rattle.game_model.specs.SelfGeneration.{IsSelfGenerating, entry_at, part, total_weight}
use Rattle.selfgen_check.specs.Promises.{correspondence_of}
use Rattle.deviation_laws.specs.declared.plan.DevPlan.{Stop}
use Rattle.deviation_laws.specs.Fractions.{whole, plus}
use Rattle.deviation_laws.specs.Gains.{formed, now_share, units, weighed, Answers, IsFirstBeyond}
use Rattle.deviation_laws.specs.Lists.{FitInTurn, average_in_turn, formed_in_turn, worth_in_turn, formed_at, held}
use Rattle.deviation_laws.specs.Plans.{Fits, outcomes_after, profile_after, state_after}
use Rattle.deviation_laws.specs.declared.plan.DevPlan.TheViews.{Play}
use Rattle.deviation_laws.proofs.Averages.{follows}
use Rattle.deviation_laws.proofs.Outcomes.{read_back, read_part}
use Rattle.deviation_laws.proofs.Periods.{AllPositive, value_at, worth_positive, goes_start, goes_on, goes_end, plan_fails, outcome_fails, units_positive}
use Rattle.deviation_laws.proofs.Plays.{play_fits, play_strategy, play_answers, play_fails, period_answers, stop_equal, all_positive}
use Rattle.deviation_laws.proofs.Values.{err_answers}
use Rattle.deviation_laws.proofs.gains.+gaining.Goals as goal

pub average_of-loop-j-init : goal.average_of-loop-j-init
average_of-loop-j-init t c =
    goes_start c.args.set.now.game (correspondence_of c.args.set.now.game c.args.set.now.corr) c.args.player c.args.depth c.args.next c.args.outcomes.now c.args.plans.now c.of-sum.result
    c.of-sum.ensures.lowest c.of-sum.ensures.equal c.of-sum.ensures.num_no_greater c.of-sum.ensures.den_no_greater

pub average_of-returns-in_err-worth : goal.average_of-returns-in_err-worth
average_of-returns-in_err-worth t c =
    let p = err_from_is_err_and c.from_residual.result c.from_residual.ensures.1 in
    let ok : IsGame c.args.set.now.game = subst IsGame c.game.ensures.game c.players-players.ensures.is_game in
    let self : IsSelfGenerating c.args.set.now.game (correspondence_of c.args.set.now.game c.args.set.now.corr) = c.game.ensures.checked.self_generating in
    let u : pos 0 <ℤ units c.args.set.now.game (correspondence_of c.args.set.now.game c.args.set.now.corr) = units_positive c.args.set.now.game (correspondence_of c.args.set.now.game c.args.set.now.corr) ok self.scaled in
    let all : AllPositive c.args.set.now.game (correspondence_of c.args.set.now.game c.args.set.now.corr) c.args.player c.args.next c.args.outcomes.now c.args.plans.now = all_positive c.args.set.now.game (correspondence_of c.args.set.now.game c.args.set.now.corr) c.args.player ok self c.requires.player c.args.next c.requires.next c.args.outcomes.now c.args.plans.now c.requires.known c.requires.fit in
    let same : length c.args.plans.now ≡ length c.args.outcomes.now = c.requires.fit.0 in
    let within : c.loop-j.j < length c.args.plans.now = omega (arith, same, c.len-j-end.ensures.count, c.loop-j-test.true) in
    let plan : c.index-plans-j.result ≡ get_or c.args.plans.now c.loop-j.j Stop = get_or_read c.args.plans.now c.loop-j.j c.index-plans-j.result within c.index-plans-j.is Stop in
    let beyond : IsFirstBeyond (formed c.args.set.now.game (correspondence_of c.args.set.now.game c.args.set.now.corr) c.args.player (suc c.args.depth) c.args.next (get_or c.args.outcomes.now c.loop-j.j (0, 0)).0 (get_or c.args.plans.now c.loop-j.j Stop)) c.in_err-worth.field-0.0.depth =
    rw (← plan, ← c.entry.ensures, ← add-one) c.in_err-worth.ensures in
    err_answers (formed_in_turn c.args.set.now.game (correspondence_of c.args.set.now.game c.args.set.now.corr) c.args.player c.args.depth c.args.next (total_weight c.args.outcomes.now) (whole (pos 0)) c.args.outcomes.now c.args.plans.now) (average_in_turn c.args.set.now.game (correspondence_of c.args.set.now.game c.args.set.now.corr) c.args.player c.args.next c.args.outcomes.now c.args.plans.now) c.in_err-worth.field-0.0 c.from_residual.result (p.1 ∙ ap Err p.2)
    (plan_fails c.args.set.now.game (correspondence_of c.args.set.now.game c.args.set.now.corr) c.args.player c.args.depth c.args.next c.args.outcomes.now c.args.plans.now c.loop-j.sum c.loop-j.j c.in_err-worth.field-0.0.depth same within beyond c.loop-j.invariant)

pub average_of-returns-in_err-sum : goal.average_of-returns-in_err-sum
average_of-returns-in_err-sum t c =
    let p = err_from_is_err_and c.from_residual-in_err-sum.result c.from_residual-in_err-sum.ensures.1 in
    let ok : IsGame c.args.set.now.game = subst IsGame c.game.ensures.game c.players-players.ensures.is_game in
    let self : IsSelfGenerating c.args.set.now.game (correspondence_of c.args.set.now.game c.args.set.now.corr) = c.game.ensures.checked.self_generating in
    let u : pos 0 <ℤ units c.args.set.now.game (correspondence_of c.args.set.now.game c.args.set.now.corr) = units_positive c.args.set.now.game (correspondence_of c.args.set.now.game c.args.set.now.corr) ok self.scaled in
    let all : AllPositive c.args.set.now.game (correspondence_of c.args.set.now.game c.args.set.now.corr) c.args.player c.args.next c.args.outcomes.now c.args.plans.now = all_positive c.args.set.now.game (correspondence_of c.args.set.now.game c.args.set.now.corr) c.args.player ok self c.requires.player c.args.next c.requires.next c.args.outcomes.now c.args.plans.now c.requires.known c.requires.fit in
    let same : length c.args.plans.now ≡ length c.args.outcomes.now = c.requires.fit.0 in
    let within : c.loop-j.j < length c.args.plans.now = omega (arith, same, c.len-j-end.ensures.count, c.loop-j-test.true) in
    let plan : c.index-plans-j.result ≡ get_or c.args.plans.now c.loop-j.j Stop = get_or_read c.args.plans.now c.loop-j.j c.index-plans-j.result within c.index-plans-j.is Stop in
    let worth : Answers (formed c.args.set.now.game (correspondence_of c.args.set.now.game c.args.set.now.corr) c.args.player (suc c.args.depth) c.args.next (get_or c.args.outcomes.now c.loop-j.j (0, 0)).0 (get_or c.args.plans.now c.loop-j.j Stop)) (value_at c.args.set.now.game (correspondence_of c.args.set.now.game c.args.set.now.corr) c.args.player c.args.next c.args.outcomes.now c.args.plans.now c.loop-j.j) (Ok c.in_ok-worth.worth) =
    rw (← plan, ← c.entry.ensures, ← add-one) c.in_ok-worth.ensures in
    let w = read_back c.weight.result (get_or c.args.outcomes.now c.loop-j.j (0, 0)).1 c.weight.ensures.weight (omega (arith, c.weight.ensures.small)) in
    let all_weights = read_back c.total_of-total.result (total_weight c.args.outcomes.now) c.total_of-total.ensures.total c.total_of-total.ensures.small in
    let beyond : IsFirstBeyond (formed_at c.args.depth (get_or c.args.outcomes.now c.loop-j.j (0, 0)).1 (total_weight c.args.outcomes.now) (held c.loop-j.sum) (held c.in_ok-worth.worth)) c.in_err-sum.field-0.0.depth = rw (w, all_weights) at c.in_err-sum.ensures in
    err_answers (formed_in_turn c.args.set.now.game (correspondence_of c.args.set.now.game c.args.set.now.corr) c.args.player c.args.depth c.args.next (total_weight c.args.outcomes.now) (whole (pos 0)) c.args.outcomes.now c.args.plans.now) (average_in_turn c.args.set.now.game (correspondence_of c.args.set.now.game c.args.set.now.corr) c.args.player c.args.next c.args.outcomes.now c.args.plans.now) c.in_err-sum.field-0.0 c.from_residual-in_err-sum.result (p.1 ∙ ap Err p.2)
    (outcome_fails c.args.set.now.game (correspondence_of c.args.set.now.game c.args.set.now.corr) c.args.player c.args.depth c.args.next c.args.outcomes.now c.args.plans.now c.loop-j.sum c.in_ok-worth.worth c.loop-j.j c.in_err-sum.field-0.0.depth u c.requires.weights all same within worth beyond c.loop-j.invariant)

pub average_of-loop-j-preserved : goal.average_of-loop-j-preserved
average_of-loop-j-preserved t c =
    let ok : IsGame c.args.set.now.game = subst IsGame c.game.ensures.game c.players-players.ensures.is_game in
    let self : IsSelfGenerating c.args.set.now.game (correspondence_of c.args.set.now.game c.args.set.now.corr) = c.game.ensures.checked.self_generating in
    let u : pos 0 <ℤ units c.args.set.now.game (correspondence_of c.args.set.now.game c.args.set.now.corr) = units_positive c.args.set.now.game (correspondence_of c.args.set.now.game c.args.set.now.corr) ok self.scaled in
    let all : AllPositive c.args.set.now.game (correspondence_of c.args.set.now.game c.args.set.now.corr) c.args.player c.args.next c.args.outcomes.now c.args.plans.now = all_positive c.args.set.now.game (correspondence_of c.args.set.now.game c.args.set.now.corr) c.args.player ok self c.requires.player c.args.next c.requires.next c.args.outcomes.now c.args.plans.now c.requires.known c.requires.fit in
    let same : length c.args.plans.now ≡ length c.args.outcomes.now = c.requires.fit.0 in
    let within : c.loop-j.j < length c.args.plans.now = omega (arith, same, c.len-j-end.ensures.count, c.loop-j-test.true) in
    let plan : c.index-plans-j.result ≡ get_or c.args.plans.now c.loop-j.j Stop = get_or_read c.args.plans.now c.loop-j.j c.index-plans-j.result within c.index-plans-j.is Stop in
    let worth : Answers (formed c.args.set.now.game (correspondence_of c.args.set.now.game c.args.set.now.corr) c.args.player (suc c.args.depth) c.args.next (get_or c.args.outcomes.now c.loop-j.j (0, 0)).0 (get_or c.args.plans.now c.loop-j.j Stop)) (value_at c.args.set.now.game (correspondence_of c.args.set.now.game c.args.set.now.corr) c.args.player c.args.next c.args.outcomes.now c.args.plans.now c.loop-j.j) (Ok c.in_ok-worth.worth) =
    rw (← plan, ← c.entry.ensures, ← add-one) c.in_ok-worth.ensures in
    let w = read_back c.weight.result (get_or c.args.outcomes.now c.loop-j.j (0, 0)).1 c.weight.ensures.weight (omega (arith, c.weight.ensures.small)) in
    let all_weights = read_back c.total_of-total.result (total_weight c.args.outcomes.now) c.total_of-total.ensures.total c.total_of-total.ensures.small in
    let next : Answers (formed_at c.args.depth (get_or c.args.outcomes.now c.loop-j.j (0, 0)).1 (total_weight c.args.outcomes.now) (held c.loop-j.sum) (held c.in_ok-worth.worth)) (plus (held c.loop-j.sum) (weighed (get_or c.args.outcomes.now c.loop-j.j (0, 0)).1 (total_weight c.args.outcomes.now) (held c.in_ok-worth.worth))) (Ok c.in_ok-sum.sum) = rw (w, all_weights) at c.in_ok-sum.ensures in
    goes_on c.args.set.now.game (correspondence_of c.args.set.now.game c.args.set.now.corr) c.args.player c.args.depth c.args.next c.args.outcomes.now c.args.plans.now c.loop-j.sum c.in_ok-worth.worth c.in_ok-sum.sum c.loop-j.j u c.requires.weights all same within worth next c.loop-j.invariant

pub average_of-returns : goal.average_of-returns
average_of-returns t c =
    let ok : IsGame c.args.set.now.game = subst IsGame c.game.ensures.game c.players-players.ensures.is_game in
    let self : IsSelfGenerating c.args.set.now.game (correspondence_of c.args.set.now.game c.args.set.now.corr) = c.game.ensures.checked.self_generating in
    let u : pos 0 <ℤ units c.args.set.now.game (correspondence_of c.args.set.now.game c.args.set.now.corr) = units_positive c.args.set.now.game (correspondence_of c.args.set.now.game c.args.set.now.corr) ok self.scaled in
    goes_end c.args.set.now.game (correspondence_of c.args.set.now.game c.args.set.now.corr) c.args.player c.args.depth c.args.next c.args.outcomes.now c.args.plans.now c.loop-j.sum c.loop-j.j u c.requires.weights c.requires.fit.0 (omega (arith, c.requires.fit.0, c.len-j-end.ensures.count, c.loop-j-test.false)) c.loop-j.invariant

pub worth_of-returns-in_err-average-in-Play : goal.worth_of-returns-in_err-average-in-Play
worth_of-returns-in_err-average-in-Play t c =
    let p = err_from_is_err_and c.from_residual.result c.from_residual.ensures.1 in
    let beyond : IsFirstBeyond (formed_in_turn c.args.set.now.game (correspondence_of c.args.set.now.game c.args.set.now.corr) c.args.player c.args.depth (state_after c.args.set.now.game c.args.state (entry_at (correspondence_of c.args.set.now.game c.args.set.now.corr) c.args.state c.args.entry) c.args.player c.in-Play.strategy) (total_weight (outcomes_after c.args.set.now.game c.args.state (entry_at (correspondence_of c.args.set.now.game c.args.set.now.corr) c.args.state c.args.entry) c.args.player c.in-Play.strategy)) (whole (pos 0)) (outcomes_after c.args.set.now.game c.args.state (entry_at (correspondence_of c.args.set.now.game c.args.set.now.corr) c.args.state c.args.entry) c.args.player c.in-Play.strategy) c.in-Play.plans.items) c.in_err-average-in-Play.field-0.0.depth = rw (c.state_after-next.ensures.next, c.outcomes_after-outcomes.ensures.outcomes, c.deref.ensures.value) at c.in_err-average-in-Play.ensures in
    rw c.in-Play.is (play_fails c.args.set.now.game (correspondence_of c.args.set.now.game c.args.set.now.corr) c.args.player c.args.depth c.args.state c.args.entry c.in-Play.strategy c.in-Play.plans c.in_err-average-in-Play.field-0.0 c.from_residual.result (p.1 ∙ ap Err p.2) beyond)

pub worth_of-returns-in-Stop : goal.worth_of-returns-in-Stop
worth_of-returns-in-Stop t c =
    rw c.in-Stop.is (tt, c.in_units.ensures.lowest, stop_equal c.in_units.result _ (units c.args.set.now.game (correspondence_of c.args.set.now.game c.args.set.now.corr)) (rw (read_part c.part_of.result (part (entry_at (correspondence_of c.args.set.now.game c.args.set.now.corr) c.args.state c.args.entry).point c.args.player) c.part_of.ensures.part c.part_of.ensures.small) at c.in_units.ensures.equal), c.in_units.ensures.small)

pub worth_of-returns-in_ok-average-in-Play : goal.worth_of-returns-in_ok-average-in-Play
worth_of-returns-in_ok-average-in-Play t c =
    let ok : IsGame c.args.set.now.game = subst IsGame c.game.ensures.game c.players-players.ensures.is_game in
    let self : IsSelfGenerating c.args.set.now.game (correspondence_of c.args.set.now.game c.args.set.now.corr) = c.game.ensures.checked.self_generating in
    let u : pos 0 <ℤ units c.args.set.now.game (correspondence_of c.args.set.now.game c.args.set.now.corr) = units_positive c.args.set.now.game (correspondence_of c.args.set.now.game c.args.set.now.corr) ok self.scaled in
    let f : Fits c.args.set.now.game (correspondence_of c.args.set.now.game c.args.set.now.corr) c.args.player c.args.state c.args.entry (Play c.in-Play.strategy c.in-Play.plans) = rw c.in-Play.is at c.requires.fits in
    let strategy : c.in-Play.strategy < slice_index (counts c.args.set.now.game c.args.state) c.args.player = play_strategy c.args.set.now.game (correspondence_of c.args.set.now.game c.args.set.now.corr) c.args.player c.args.state c.args.entry c.in-Play.strategy c.in-Play.plans f in
    let made = self.generated c.args.state c.args.entry c.requires.state c.requires.entry in
    let after = follows c.args.set.now.game (correspondence_of c.args.set.now.game c.args.set.now.corr) c.args.state (entry_at (correspondence_of c.args.set.now.game c.args.set.now.corr) c.args.state c.args.entry) c.args.player c.in-Play.strategy ok c.requires.state made c.requires.player strategy in
    let fit : FitInTurn c.args.set.now.game (correspondence_of c.args.set.now.game c.args.set.now.corr) c.args.player (state_after c.args.set.now.game c.args.state (entry_at (correspondence_of c.args.set.now.game c.args.set.now.corr) c.args.state c.args.entry) c.args.player c.in-Play.strategy) (outcomes_after c.args.set.now.game c.args.state (entry_at (correspondence_of c.args.set.now.game c.args.set.now.corr) c.args.state c.args.entry) c.args.player c.in-Play.strategy) c.in-Play.plans.items = play_fits c.args.set.now.game (correspondence_of c.args.set.now.game c.args.set.now.corr) c.args.player c.args.state c.args.entry c.in-Play.strategy c.in-Play.plans f in
    let before : Answers (formed_in_turn c.args.set.now.game (correspondence_of c.args.set.now.game c.args.set.now.corr) c.args.player c.args.depth (state_after c.args.set.now.game c.args.state (entry_at (correspondence_of c.args.set.now.game c.args.set.now.corr) c.args.state c.args.entry) c.args.player c.in-Play.strategy) (total_weight (outcomes_after c.args.set.now.game c.args.state (entry_at (correspondence_of c.args.set.now.game c.args.set.now.corr) c.args.state c.args.entry) c.args.player c.in-Play.strategy)) (whole (pos 0)) (outcomes_after c.args.set.now.game c.args.state (entry_at (correspondence_of c.args.set.now.game c.args.set.now.corr) c.args.state c.args.entry) c.args.player c.in-Play.strategy) c.in-Play.plans.items) (average_in_turn c.args.set.now.game (correspondence_of c.args.set.now.game c.args.set.now.corr) c.args.player (state_after c.args.set.now.game c.args.state (entry_at (correspondence_of c.args.set.now.game c.args.set.now.corr) c.args.state c.args.entry) c.args.player c.in-Play.strategy) (outcomes_after c.args.set.now.game c.args.state (entry_at (correspondence_of c.args.set.now.game c.args.set.now.corr) c.args.state c.args.entry) c.args.player c.in-Play.strategy) c.in-Play.plans.items) (Ok c.in_ok-average-in-Play.average) = rw (c.state_after-next.ensures.next, c.outcomes_after-outcomes.ensures.outcomes, c.deref.ensures.value) at c.in_ok-average-in-Play.ensures in
    let now : Equals c.now_share-now.result (now_share c.args.set.now.game c.args.state (profile_after c.args.set.now.game c.args.state (entry_at (correspondence_of c.args.set.now.game c.args.set.now.corr) c.args.state c.args.entry) c.args.player c.in-Play.strategy) c.args.player).num (now_share c.args.set.now.game c.args.state (profile_after c.args.set.now.game c.args.state (entry_at (correspondence_of c.args.set.now.game c.args.set.now.corr) c.args.state c.args.entry) c.args.player c.in-Play.strategy) c.args.player).den = rw c.profile_after.ensures.profile at c.now_share-now.ensures.equal in
    rw c.in-Play.is (play_answers c.args.set.now.game (correspondence_of c.args.set.now.game c.args.set.now.corr) c.args.player c.args.depth c.args.state c.args.entry c.in-Play.strategy c.in-Play.plans c.discounted.result
    (period_answers c.args.set.now.game (correspondence_of c.args.set.now.game c.args.set.now.corr) c.args.player c.args.depth c.args.state c.args.entry c.in-Play.strategy (formed_in_turn c.args.set.now.game (correspondence_of c.args.set.now.game c.args.set.now.corr) c.args.player c.args.depth (state_after c.args.set.now.game c.args.state (entry_at (correspondence_of c.args.set.now.game c.args.set.now.corr) c.args.state c.args.entry) c.args.player c.in-Play.strategy) (total_weight (outcomes_after c.args.set.now.game c.args.state (entry_at (correspondence_of c.args.set.now.game c.args.set.now.corr) c.args.state c.args.entry) c.args.player c.in-Play.strategy)) (whole (pos 0)) (outcomes_after c.args.set.now.game c.args.state (entry_at (correspondence_of c.args.set.now.game c.args.set.now.corr) c.args.state c.args.entry) c.args.player c.in-Play.strategy) c.in-Play.plans.items) (worth_in_turn c.args.set.now.game (correspondence_of c.args.set.now.game c.args.set.now.corr) c.args.player (state_after c.args.set.now.game c.args.state (entry_at (correspondence_of c.args.set.now.game c.args.set.now.corr) c.args.state c.args.entry) c.args.player c.in-Play.strategy) (outcomes_after c.args.set.now.game c.args.state (entry_at (correspondence_of c.args.set.now.game c.args.set.now.corr) c.args.state c.args.entry) c.args.player c.in-Play.strategy) c.in-Play.plans.items) c.now_share-now.result c.in_ok-average-in-Play.average c.discounted.result
    (omega (arith, ok.discounts_below c.args.player c.requires.player)) (omega (arith, ints, ok.denominator_positive)) u after.weight
    (worth_positive c.args.set.now.game (correspondence_of c.args.set.now.game c.args.set.now.corr) c.args.player (state_after c.args.set.now.game c.args.state (entry_at (correspondence_of c.args.set.now.game c.args.set.now.corr) c.args.state c.args.entry) c.args.player c.in-Play.strategy) (outcomes_after c.args.set.now.game c.args.state (entry_at (correspondence_of c.args.set.now.game c.args.set.now.corr) c.args.state c.args.entry) c.args.player c.in-Play.strategy) c.in-Play.plans.items (all_positive c.args.set.now.game (correspondence_of c.args.set.now.game c.args.set.now.corr) c.args.player ok self c.requires.player (state_after c.args.set.now.game c.args.state (entry_at (correspondence_of c.args.set.now.game c.args.set.now.corr) c.args.state c.args.entry) c.args.player c.in-Play.strategy) after.next (outcomes_after c.args.set.now.game c.args.state (entry_at (correspondence_of c.args.set.now.game c.args.set.now.corr) c.args.state c.args.entry) c.args.player c.in-Play.strategy) c.in-Play.plans.items after.known fit))
    c.now_share-now.ensures.lowest now before c.discounted.ensures))
