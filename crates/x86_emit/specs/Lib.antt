pub mod Wrote
pub mod Addresses
pub mod Lent
