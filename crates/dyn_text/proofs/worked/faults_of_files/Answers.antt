use Rattle.std.proofs.Common.{◌≡◌, true, refl}
use Rattle.std.specs.Prelude.{codes}
use Rattle.std.specs.Str.{is_utf8}
use Rattle.token_text.specs.Tokens.{tokens_from, stream_of, next, rest}
use Rattle.nfg_text.specs.Wanted.{exact_at, quoted_at, open_at, close_at, many_at, end_at}
use Rattle.dyn_text.specs.Grammar.{dyn_of, file_at, states_at, state_at, state_or_close_at, successors_at, successor_or_close_at, file_name_at, full_at}
use Rattle.dyn_text.proofs.Ascii.{plain}
use Rattle.dyn_text.proofs.worked.faults_of_files.Goals as goal

plain_b : is_utf8 (codes "b") ≡ true
plain_b = plain (codes "b") refl

pub returns-clause-whole : goal.returns-clause-whole
unfolding tokens_from stream_of next rest dyn_of file_at states_at state_at state_or_close_at successors_at successor_or_close_at file_name_at full_at exact_at quoted_at open_at close_at many_at end_at
returns-clause-whole c =
    let e : is_utf8 (codes "pd.nfg") ≡ true = plain (codes "pd.nfg") refl in
    let f : is_utf8 (codes "nil.nfg") ≡ true = plain (codes "nil.nfg") refl in
    rw (e, f) refl

pub returns-clause-no_state : goal.returns-clause-no_state
unfolding tokens_from stream_of next rest dyn_of file_at states_at state_at state_or_close_at successors_at successor_or_close_at file_name_at full_at exact_at quoted_at open_at close_at many_at end_at
returns-clause-no_state c = refl

pub returns-clause-open : goal.returns-clause-open
unfolding tokens_from stream_of next rest dyn_of file_at states_at state_at state_or_close_at successors_at successor_or_close_at file_name_at full_at exact_at quoted_at open_at close_at many_at end_at
returns-clause-open c = let e : is_utf8 (codes "b") ≡ true = plain_b in rw e refl

pub returns-clause-longer : goal.returns-clause-longer
unfolding tokens_from stream_of next rest dyn_of file_at states_at state_at state_or_close_at successors_at successor_or_close_at file_name_at full_at exact_at quoted_at open_at close_at many_at end_at
returns-clause-longer c = let e : is_utf8 (codes "b") ≡ true = plain_b in rw e refl

pub returns-clause-large : goal.returns-clause-large
unfolding tokens_from stream_of next rest dyn_of file_at states_at state_at state_or_close_at successors_at successor_or_close_at file_name_at full_at exact_at quoted_at open_at close_at many_at end_at
returns-clause-large c = let e : is_utf8 (codes "b") ≡ true = plain_b in rw e refl

pub returns-clause-sign : goal.returns-clause-sign
unfolding tokens_from stream_of next rest dyn_of file_at states_at state_at state_or_close_at successors_at successor_or_close_at file_name_at full_at exact_at quoted_at open_at close_at many_at end_at
returns-clause-sign c = let e : is_utf8 (codes "b") ≡ true = plain_b in rw e refl
