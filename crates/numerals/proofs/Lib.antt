mod Powers
mod Spellings
mod Orders
pub mod Scans
mod Caps
mod Parts
pub mod Marked
pub mod Always
