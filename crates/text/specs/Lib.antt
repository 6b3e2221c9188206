pub mod Text
pub mod Numerals
pub mod Forms
pub mod Lent
