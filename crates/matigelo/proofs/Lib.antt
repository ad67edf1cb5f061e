pub mod Demands
pub mod Entry
