pub mod Sentences
pub mod Lent
