pub mod Unknown
pub mod ByExtension
pub mod Takes
pub mod Useless
