pub mod ArgumentsLaws
pub mod Useless
