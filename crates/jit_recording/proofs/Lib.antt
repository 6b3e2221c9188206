pub mod Sixteen
pub mod EmitsLaws
pub mod RegisterMap
