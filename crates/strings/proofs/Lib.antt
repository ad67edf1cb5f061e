pub mod Stores
pub mod DecodingLaws
mod Rows
mod Reading
pub mod Utf8Laws
pub mod CharacterLaws
mod ValidLaws
pub mod LiteralLaws
mod Escapes
mod Walk
mod Steps
pub mod Always
pub mod Marked
