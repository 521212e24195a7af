use Rattle.std.proofs.Common.{◌∙◌, [], ◌∷◌, ap, subst, Err}
use Rattle.std.proofs.lemmas.Result.{err_from_is_err_and}
use Rattle.game_model.specs.Game.{IsGame}
use Rattle.selfgen_check.specs.Promises.{correspondence_of}
use Rattle.deviation_laws.specs.Gains.{formed, all_formed, gain_of}
use Rattle.deviation_laws.proofs.Plays.{gain_answers, gain_positive}
use Rattle.deviation_laws.proofs.Values.{err_answers, beyond_before, kept_as}
use Rattle.deviation_laws.proofs.gains.gained.Goals as goal

pub returns-in_err-worth-clause-answers : goal.returns-in_err-worth-clause-answers
returns-in_err-worth-clause-answers c =
    let p = err_from_is_err_and c.from_residual.result c.from_residual.ensures.1 in
    err_answers (all_formed c.args.set.now.game (correspondence_of c.args.set.now.game c.args.set.now.corr) c.args.player c.args.state c.args.entry c.args.plan.now) (gain_of c.args.set.now.game (correspondence_of c.args.set.now.game c.args.set.now.corr) c.args.player c.args.state c.args.entry c.args.plan.now) c.in_err-worth.field-0.0 c.from_residual.result (p.1 ∙ ap Err p.2)
    (beyond_before (formed c.args.set.now.game (correspondence_of c.args.set.now.game c.args.set.now.corr) c.args.player 0 c.args.state c.args.entry c.args.plan.now) ((0, gain_of c.args.set.now.game (correspondence_of c.args.set.now.game c.args.set.now.corr) c.args.player c.args.state c.args.entry c.args.plan.now) ∷ []) c.in_err-worth.field-0.0.depth c.in_err-worth.ensures)

pub returns-clause-answers : goal.returns-clause-answers
returns-clause-answers c =
    let ok : IsGame c.args.set.now.game = subst IsGame c.game.ensures.game c.players-players.ensures.is_game in
    gain_answers c.args.set.now.game (correspondence_of c.args.set.now.game c.args.set.now.corr) c.args.player ok c.game.ensures.checked.self_generating c.requires.player c.args.state c.args.entry c.requires.state c.requires.entry c.args.plan.now c.requires.fits
    c.in_ok-worth.worth c.less_part.result c.add.result c.kept.result c.in_ok-worth.ensures c.less_part.ensures.lowest c.less_part.ensures.equal c.add.ensures.lowest c.add.ensures.equal
    (kept_as c.add.result 0 c.kept.result c.kept.ensures.ok c.kept.ensures.err)

pub returns-in_err-worth-clause-positive : goal.returns-in_err-worth-clause-positive
returns-in_err-worth-clause-positive c =
    gain_positive c.args.set.now.game (correspondence_of c.args.set.now.game c.args.set.now.corr) c.args.player (subst IsGame c.game.ensures.game c.players-players.ensures.is_game) c.game.ensures.checked.self_generating c.requires.player c.args.state c.args.entry c.requires.state c.requires.entry c.args.plan.now c.requires.fits

pub returns-clause-positive : goal.returns-clause-positive
returns-clause-positive c =
    gain_positive c.args.set.now.game (correspondence_of c.args.set.now.game c.args.set.now.corr) c.args.player (subst IsGame c.game.ensures.game c.players-players.ensures.is_game) c.game.ensures.checked.self_generating c.requires.player c.args.state c.args.entry c.requires.state c.requires.entry c.args.plan.now c.requires.fits
