pub mod Lex
pub mod LexLaws
pub mod Yields
pub mod Lexed
pub mod Steps
pub mod Examples
