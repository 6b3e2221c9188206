pub mod Bytes
pub mod Operand
pub mod Lent
