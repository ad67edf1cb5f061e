pub mod Tokens
pub mod Values
pub mod Json
pub mod Machine
pub mod Inner
pub mod Leaves
pub mod Steps
pub mod Importer
