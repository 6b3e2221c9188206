pub mod ByRex
pub mod Chosen
