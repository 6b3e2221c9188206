pub mod Theorem
pub mod MapTheorem
pub mod Lent
