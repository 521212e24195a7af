use Rattle.std.proofs.Common.{◌≡◌, ◌+◌, ◌-◌, ◌<◌, ◌≤◌, length, get_or, sym, arith, nat_lt, if◌then◌else◌}
use Rattle.std.proofs.lemmas.Grind.{common_steps}
use Rattle.game_model.specs.Game.{counts, IsGame}
use Rattle.game_model.specs.SelfGeneration.{deviation_place}
use Rattle.selfgen_check.proofs.Profiles.{one_each}
use Rattle.selfgen_check.proofs.Deviations.{place_is, place_below}
use Rattle.selfgen_check.proofs.sums.place_of.Goals as goal

pub overflow_add-result : goal.overflow_add-result
overflow_add-result c = let ok : IsGame c.args.game.now = c.players-players.ensures.is_game in
    let n = one_each c.args.game.now c.args.s ok c.requires.state in
    let few : get_or (counts c.args.game.now c.args.s) c.args.i 0 ≤ 16 = (ok.each_state c.args.s c.requires.state).few_strategies c.args.i c.requires.player in
    omega (arith, few, ok.three_players)

pub returns-clause-place : goal.returns-clause-place
returns-clause-place c = let lens : length c.args.profile.now ≡ length (counts c.args.game.now c.args.s) = c.requires.profile.0 in
    let n : length (counts c.args.game.now c.args.s) ≡ c.args.game.now.players = one_each c.args.game.now c.args.s c.players-players.ensures.is_game c.requires.state in
    let player : c.args.i < length (counts c.args.game.now c.args.s) = omega arith in
    let e : c.get.result.now ≡ get_or c.args.profile.now c.args.i 0 = grind (arith, common_steps) in
    let f : c.passed.result ≡ (if nat_lt c.args.b (get_or c.args.profile.now c.args.i 0) then c.args.b else (c.args.b - 1)) = rw e at c.passed.ensures.number in
    let p : c.deviations_before.result + c.passed.result ≡ deviation_place (counts c.args.game.now c.args.s) c.args.profile.now c.args.i c.args.b =
    rw (c.deviations_before.ensures.count, f) (sym (place_is (counts c.args.game.now c.args.s) c.args.profile.now c.args.i c.args.b lens player)) in
    p

pub returns-clause-within : goal.returns-clause-within
returns-clause-within c = let lens : length c.args.profile.now ≡ length (counts c.args.game.now c.args.s) = c.requires.profile.0 in
    let n : length (counts c.args.game.now c.args.s) ≡ c.args.game.now.players = one_each c.args.game.now c.args.s c.players-players.ensures.is_game c.requires.state in
    let player : c.args.i < length (counts c.args.game.now c.args.s) = omega arith in
    let e : c.get.result.now ≡ get_or c.args.profile.now c.args.i 0 = grind (arith, common_steps) in
    let f : c.passed.result ≡ (if nat_lt c.args.b (get_or c.args.profile.now c.args.i 0) then c.args.b else (c.args.b - 1)) = rw e at c.passed.ensures.number in
    let p : c.deviations_before.result + c.passed.result ≡ deviation_place (counts c.args.game.now c.args.s) c.args.profile.now c.args.i c.args.b =
    rw (c.deviations_before.ensures.count, f) (sym (place_is (counts c.args.game.now c.args.s) c.args.profile.now c.args.i c.args.b lens player)) in
    rw p (place_below (counts c.args.game.now c.args.s) c.args.profile.now c.args.i c.args.b lens player (c.requires.profile.1 c.args.i player) c.requires.strategy c.requires.other)
