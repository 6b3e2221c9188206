-- What the contracts of the crate cite.
pub mod Marks
pub mod Lent
