pub mod Forms
pub mod Lent
