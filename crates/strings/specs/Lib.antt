pub mod Utf8
pub mod Decoding
pub mod Literals
pub mod Inner
pub mod Rows
pub mod Valid
