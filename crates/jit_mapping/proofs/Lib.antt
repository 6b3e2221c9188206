pub mod RowsLaws
pub mod WalkedLaws
pub mod RoomLaws
pub mod JudgedLaws
pub mod MappedLaws
pub mod Useless
