mod Strings
mod Numbers
mod Lexed
mod Phrases
mod Values
pub mod Demands
pub mod Marked
