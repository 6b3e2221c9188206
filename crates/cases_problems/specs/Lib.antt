pub mod Problems
pub mod Lent
