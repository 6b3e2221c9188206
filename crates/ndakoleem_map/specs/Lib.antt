pub mod ExportedMap
pub mod Lent
