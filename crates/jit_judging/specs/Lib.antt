pub mod Sizes
pub mod Judged
pub mod Lent
