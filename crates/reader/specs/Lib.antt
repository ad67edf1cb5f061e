pub mod Reader
pub mod Five
