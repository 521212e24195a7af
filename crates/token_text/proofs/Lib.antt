pub mod Lexing
pub mod Written
