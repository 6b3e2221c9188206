pub mod Masks
pub mod InsnLaws
pub mod NamedLaws
pub mod KindsLaws
