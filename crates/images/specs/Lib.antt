pub mod Images
pub mod Children
pub mod Unmarked
pub mod Numbers
pub mod Inner
