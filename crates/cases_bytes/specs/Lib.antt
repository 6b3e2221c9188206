pub mod Limits
pub mod Stored
pub mod Answers
pub mod Cases
pub mod Lent
