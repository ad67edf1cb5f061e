pub mod Lexing
pub mod Operators
pub mod Meets
