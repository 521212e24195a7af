use Rattle.std.proofs.Common.{refl}
use Rattle.token_text.specs.Tokens.{tokens_from, stream_of, next, rest}
use Rattle.nfg_text.specs.Wanted.{exact_at, open_at, many_at, end_at}
use Rattle.schedule_core.specs.Schedules.{schedule_of, file_at, moves_at, move_or_close_at, load_at, lower_at, clear_at, ranged_at}
use Rattle.schedule_core.proofs.worked.faults_of_schedules.Goals as goal

pub returns-clause-whole : goal.returns-clause-whole
unfolding tokens_from stream_of next rest schedule_of file_at moves_at move_or_close_at load_at lower_at clear_at ranged_at exact_at open_at many_at end_at
returns-clause-whole c = refl

pub returns-clause-no_worker : goal.returns-clause-no_worker
unfolding tokens_from stream_of next rest schedule_of file_at moves_at move_or_close_at load_at lower_at clear_at ranged_at exact_at open_at many_at end_at
returns-clause-no_worker c = refl

pub returns-clause-many_workers : goal.returns-clause-many_workers
unfolding tokens_from stream_of next rest schedule_of file_at moves_at move_or_close_at load_at lower_at clear_at ranged_at exact_at open_at many_at end_at
returns-clause-many_workers c = refl

pub returns-clause-row : goal.returns-clause-row
unfolding tokens_from stream_of next rest schedule_of file_at moves_at move_or_close_at load_at lower_at clear_at ranged_at exact_at open_at many_at end_at
returns-clause-row c = refl

pub returns-clause-worker : goal.returns-clause-worker
unfolding tokens_from stream_of next rest schedule_of file_at moves_at move_or_close_at load_at lower_at clear_at ranged_at exact_at open_at many_at end_at
returns-clause-worker c = refl

pub returns-clause-not_owner : goal.returns-clause-not_owner
unfolding tokens_from stream_of next rest schedule_of file_at moves_at move_or_close_at load_at lower_at clear_at ranged_at exact_at open_at many_at end_at
returns-clause-not_owner c = refl

pub returns-clause-large : goal.returns-clause-large
unfolding tokens_from stream_of next rest schedule_of file_at moves_at move_or_close_at load_at lower_at clear_at ranged_at exact_at open_at many_at end_at
returns-clause-large c = refl

pub returns-clause-digits : goal.returns-clause-digits
unfolding tokens_from stream_of next rest schedule_of file_at moves_at move_or_close_at load_at lower_at clear_at ranged_at exact_at open_at many_at end_at
returns-clause-digits c = refl

pub returns-clause-open : goal.returns-clause-open
unfolding tokens_from stream_of next rest schedule_of file_at moves_at move_or_close_at load_at lower_at clear_at ranged_at exact_at open_at many_at end_at
returns-clause-open c = refl
