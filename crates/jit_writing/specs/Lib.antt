pub mod Writes
pub mod Lent
