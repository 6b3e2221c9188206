pub mod Saving
pub mod Lent
