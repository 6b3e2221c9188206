pub mod Opcodes
pub mod Extensions
pub mod Onward
pub mod Lent
