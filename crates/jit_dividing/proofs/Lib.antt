pub mod Skips
pub mod Pieces
pub mod Useless
