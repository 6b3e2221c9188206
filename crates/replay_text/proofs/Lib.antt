pub mod ReportLaws
pub mod Worked
