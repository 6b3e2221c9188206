pub mod Proved
pub mod MapProved
pub mod Useless
