pub mod Instructions
pub mod Lent
