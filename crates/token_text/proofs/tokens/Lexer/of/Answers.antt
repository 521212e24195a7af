use Rattle.std.proofs.Common.{refl}
use Rattle.token_text.specs.Tokens.{stream_of}
use Rattle.token_text.proofs.tokens.Lexer.of.Goals as goal

pub returns : goal.returns
unfolding stream_of
returns c = refl
