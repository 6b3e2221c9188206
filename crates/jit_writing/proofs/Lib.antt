pub mod Writing
pub mod Useless
