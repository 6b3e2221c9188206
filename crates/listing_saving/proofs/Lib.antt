pub mod SavingLaws
pub mod Useless
