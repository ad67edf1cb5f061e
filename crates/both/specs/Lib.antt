pub mod Solidus
