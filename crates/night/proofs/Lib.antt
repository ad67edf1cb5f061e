pub mod Parts
pub mod NightLaws
pub mod Demands
