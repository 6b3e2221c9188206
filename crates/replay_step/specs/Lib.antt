pub mod Classes
pub mod Steps
pub mod Lent
