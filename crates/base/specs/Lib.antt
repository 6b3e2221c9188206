pub mod Pick
pub mod Bytes
pub mod Cases
pub mod Lent
pub mod Widths
pub mod Lists
pub mod Table
