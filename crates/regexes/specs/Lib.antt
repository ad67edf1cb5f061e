pub mod Regex
