pub mod Codes
pub mod Lent
