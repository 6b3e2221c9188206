pub mod Operands
pub mod Numbered
pub mod Acceptable
pub mod Lent
