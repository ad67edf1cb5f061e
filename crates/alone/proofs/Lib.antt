pub mod Alone
pub mod NumberAlone
pub mod StringAlone
pub mod Blanks
