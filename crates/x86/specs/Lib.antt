pub mod Registers
pub mod Instr
pub mod Encode
pub mod Decode
pub mod Code
pub mod Lowered
pub mod Fill
