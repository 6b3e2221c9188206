pub mod Looks
pub mod Measures
pub mod Fits
pub mod Lent
