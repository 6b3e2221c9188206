pub mod Exported
pub mod Lent
