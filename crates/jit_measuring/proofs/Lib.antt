pub mod Listed
pub mod Seen
pub mod Glances
pub mod Glancing
pub mod LooksLaws
pub mod Measuring
pub mod Useless
