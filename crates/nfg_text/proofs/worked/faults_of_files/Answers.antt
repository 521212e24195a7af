use Rattle.std.proofs.Common.{refl}
use Rattle.pay_frac.specs.Number.{number_of, lowest}
use Rattle.token_text.specs.Tokens.{tokens_from, stream_of, next, rest}
use Rattle.nfg_text.specs.Wanted.{exact_at, quoted_at, open_at, close_at, many_at, number_at, times_at, end_at}
use Rattle.nfg_text.specs.Grammar.{nfg_of, file_at, title_at, tag_at, players_at, player_at, two_at, strategies_at, counts_at, count_at, body_at, chosen_at, outcomes_at, outcome_or_close_at, outcome_at, choices_at, choice_at, comment_at}
use Rattle.nfg_text.proofs.worked.faults_of_files.Goals as goal

pub returns-clause-whole : goal.returns-clause-whole
unfolding tokens_from stream_of next rest nfg_of file_at title_at exact_at tag_at quoted_at players_at open_at player_at two_at strategies_at counts_at count_at close_at body_at chosen_at outcomes_at many_at outcome_or_close_at outcome_at number_at number_of lowest choices_at times_at choice_at comment_at end_at
returns-clause-whole c = refl

pub returns-clause-cut : goal.returns-clause-cut
unfolding tokens_from stream_of next rest nfg_of file_at title_at exact_at tag_at quoted_at players_at open_at player_at two_at strategies_at counts_at count_at close_at body_at chosen_at outcomes_at many_at outcome_or_close_at outcome_at number_at number_of lowest choices_at times_at choice_at comment_at end_at
returns-clause-cut c = refl

pub returns-clause-longer : goal.returns-clause-longer
unfolding tokens_from stream_of next rest nfg_of file_at title_at exact_at tag_at quoted_at players_at open_at player_at two_at strategies_at counts_at count_at close_at body_at chosen_at outcomes_at many_at outcome_or_close_at outcome_at number_at number_of lowest choices_at times_at choice_at comment_at end_at
returns-clause-longer c = refl

pub returns-clause-no_number : goal.returns-clause-no_number
unfolding tokens_from stream_of next rest nfg_of file_at title_at exact_at tag_at quoted_at players_at open_at player_at two_at strategies_at counts_at count_at close_at body_at chosen_at outcomes_at many_at outcome_or_close_at outcome_at number_at number_of lowest choices_at times_at choice_at comment_at end_at
returns-clause-no_number c = refl

pub returns-clause-no_outcome : goal.returns-clause-no_outcome
unfolding tokens_from stream_of next rest nfg_of file_at title_at exact_at tag_at quoted_at players_at open_at player_at two_at strategies_at counts_at count_at close_at body_at chosen_at outcomes_at many_at outcome_or_close_at outcome_at number_at number_of lowest choices_at times_at choice_at comment_at end_at
returns-clause-no_outcome c = refl

pub returns-clause-third : goal.returns-clause-third
unfolding tokens_from stream_of next rest nfg_of file_at title_at exact_at tag_at quoted_at players_at open_at player_at two_at strategies_at counts_at count_at close_at body_at chosen_at outcomes_at many_at outcome_or_close_at outcome_at number_at number_of lowest choices_at times_at choice_at comment_at end_at
returns-clause-third c = refl

pub returns-clause-digits : goal.returns-clause-digits
unfolding tokens_from stream_of next rest nfg_of file_at title_at exact_at tag_at quoted_at players_at open_at player_at two_at strategies_at counts_at count_at close_at body_at chosen_at outcomes_at many_at outcome_or_close_at outcome_at number_at number_of lowest choices_at times_at choice_at comment_at end_at
returns-clause-digits c = refl
