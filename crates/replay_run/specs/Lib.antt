pub mod Running
pub mod Lent
