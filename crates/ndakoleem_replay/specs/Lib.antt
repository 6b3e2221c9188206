pub mod ExportedRun
pub mod Lent
