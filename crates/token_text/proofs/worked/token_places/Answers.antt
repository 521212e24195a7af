use Rattle.std.proofs.Common.{refl}
use Rattle.token_text.specs.Tokens.{tokens_from, stream_of, next}
use Rattle.token_text.proofs.worked.token_places.Goals as goal

pub returns-clause-kinds : goal.returns-clause-kinds
unfolding tokens_from stream_of
returns-clause-kinds c = refl

pub returns-clause-places : goal.returns-clause-places
unfolding tokens_from stream_of
returns-clause-places c = refl

pub returns-clause-end : goal.returns-clause-end
unfolding tokens_from stream_of next
returns-clause-end c = refl
