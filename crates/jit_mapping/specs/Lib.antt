pub mod Refusals
pub mod Room
pub mod Mapped
pub mod Walked
pub mod Rows
pub mod Passes
pub mod Lent
