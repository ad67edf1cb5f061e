pub mod Mass
pub mod Minutes
pub mod Numbers
pub mod Inner
