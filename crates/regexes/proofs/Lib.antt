pub mod Bools
pub mod Derive
pub mod Tables
pub mod Longest
pub mod Exists
