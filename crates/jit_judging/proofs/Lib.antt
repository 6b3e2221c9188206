pub mod SizesLaws
pub mod Judging
pub mod Useless
