use Rattle.std.proofs.Common.{◌*◌, ◌≤◌, arith, sym, subst, vec_capacity}
use Rattle.game_model.specs.Game.{counts, profile_count}
use Rattle.level_table.specs.Notes.{HasRoomFor}
use Rattle.set_operator.specs.Prepared.{PreparedState}
use Rattle.set_operator.proofs.LineLemmas.{room_for_all}
use Rattle.set_operator.proofs.prepared.Prepared.prepare.Goals as goal

pub fill_asks-requires-clause-room : goal.fill_asks-requires-clause-room
fill_asks-requires-clause-room c =
    let p = c.args.p.now in
    let fits : profile_count (counts p.game c.args.state) ≤ c.self.inside.room = subst (λ (v : PreparedState). HasRoomFor p.game v.room) (sym c.self.view_is) c.requires.room c.args.state c.requires.state in
    let room : 3 * c.self.inside.room ≤ vec_capacity c.self.inside.asks = c.self.invariant.1 in
    let all : p.game.players * profile_count (counts p.game c.args.state) ≤ 3 * c.self.inside.room = room_for_all p.game.players (profile_count (counts p.game c.args.state)) c.self.inside.room c.rules.ensures.game.three_players fits in
    omega (arith, all, room, c.clear.ensures.capacity)
