pub mod Sofar
pub mod OperandsLaws
pub mod Entries
pub mod NumberedLaws
pub mod SlotReads
