pub mod Useless
