pub mod Blocks
pub mod Inside
