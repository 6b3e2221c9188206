pub mod Insn
pub mod Tail
pub mod Opcode
pub mod Kinds
pub mod Named
