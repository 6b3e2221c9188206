pub mod Emitted
pub mod Lent
