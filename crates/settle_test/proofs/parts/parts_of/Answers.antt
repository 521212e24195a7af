use Rattle.std.proofs.Common.{All, refl, sym, subst, arith}
use Rattle.std.proofs.lemmas.List.Elements.{All-push}
use Rattle.game_model.specs.Game.{DynamicGame}
use Rattle.level_table.specs.Notes.{HasRoomFor}
use Rattle.settle_test.specs.Parts.{IsRoomy}
use Rattle.settle_test.proofs.parts.parts_of.Goals as goal

pub loop-preserved : goal.loop-preserved
loop-preserved c =
    let p = c.args.p.now in
    let h = c.in_ok-push.ensures {u = tt} in
    record {
      one_each = omega (arith, h.len, c.loop.invariant.one_each);
      room = subst (All (IsRoomy p)) (sym h.items) (All-push (IsRoomy p) c.loop.parts.items _ c.loop.invariant.room
          (record { room = subst (λ (g : DynamicGame). HasRoomFor g c.in_ok-prepared.prepared.room) c.game.ensures.game (c.in_ok-prepared.ensures {u = tt}); places = refl }));
    }
