-- What a lexer holds: the bytes that are left and how many stand before them.
use Rattle.std.specs.Prelude.{◌+◌, ◌<◌, ◌^◌, length}
use Rattle.token_text.specs.declared.tokens.Lexer.TheInside.{Inside}
use Rattle.token_text.specs.Tokens.{Stream, stream_from}

abbrev pub tokens_left : Inside → Stream
tokens_left l = stream_from l.at l.rest.now

abbrev pub HasPlaces : Inside → Type 0
HasPlaces l = l.at + length l.rest.now < 2 ^ 64
