pub mod ExportedRunLaws
pub mod Useless
