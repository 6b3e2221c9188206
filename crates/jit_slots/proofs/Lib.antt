pub mod Useless
pub mod SlotCodes
