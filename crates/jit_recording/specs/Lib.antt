pub mod Emits
pub mod Lent
