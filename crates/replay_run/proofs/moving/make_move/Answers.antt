use Rattle.std.proofs.Common.{subst}
use Rattle.schedule_core.specs.declared.moves.Move.TheVariants.{Load, Lower, Clear}
use Rattle.schedule_core.specs.Frame.{rows_of}
use Rattle.schedule_core.specs.Schedules.{FitsMove}
use Rattle.std.specs.Prelude.{length}
use Rattle.replay_run.proofs.Closed.{move_ready}
use Rattle.replay_run.proofs.moving.make_move.Goals as goal

pub returns-in-Load-clause-ready : goal.returns-in-Load-clause-ready
returns-in-Load-clause-ready c =
    let core = c.args.core.now in
    move_ready core c.step.new.state (Load c.in-Load.w c.in-Load.row) c.rules.ensures.frame c.rules.ensures.valid c.requires.ready
    (subst (FitsMove (length core.readers) (rows_of core.frame)) c.in-Load.is c.requires.fits) c.step.ensures.step

pub returns-in-Lower-clause-ready : goal.returns-in-Lower-clause-ready
returns-in-Lower-clause-ready c =
    let core = c.args.core.now in
    move_ready core c.lower.new.core (Lower c.in-Lower.w c.in-Lower.row) c.rules.ensures.frame c.rules.ensures.valid c.requires.ready
    (subst (FitsMove (length core.readers) (rows_of core.frame)) c.in-Lower.is c.requires.fits) c.lower.ensures.moved

pub returns-in-Clear-clause-ready : goal.returns-in-Clear-clause-ready
returns-in-Clear-clause-ready c =
    let core = c.args.core.now in
    move_ready core c.clear.new.core (Clear c.in-Clear.row) c.rules.ensures.frame c.rules.ensures.valid c.requires.ready
    (subst (FitsMove (length core.readers) (rows_of core.frame)) c.in-Clear.is c.requires.fits) c.clear.ensures.moved
