-- What a lexeme shows: its token.
use Rattle.token_text.specs.declared.tokens.Lexeme.{Lexeme}
use Rattle.token_text.specs.declared.tokens.LexemeKind.{LexemeKind}
use Rattle.token_text.specs.declared.tokens.LexemeKind.TheVariants.{Open, Close, Quoted, Word, Unclosed, End}
use Rattle.token_text.specs.Tokens.{Token, Kind, open_brace, close_brace, quoted, word, unclosed, ended, unescaped}

abbrev pub kind_of : LexemeKind → Kind
kind_of Open = open_brace
kind_of Close = close_brace
kind_of (Quoted text) = quoted (unescaped text.now)
kind_of (Word text) = word text.now
kind_of Unclosed = unclosed
kind_of End = ended

abbrev pub token_of : Lexeme → Token
token_of l = record { at = l.at; kind = kind_of l.kind }
