pub mod Lexer
pub mod LexerInside
pub mod Quoted
pub mod Tokens
