pub mod Useless
pub mod WroteLaws
pub mod InstructionWords
