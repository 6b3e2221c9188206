-- The laws of runs (RunLaws), of second halves, on which a run and the translator agree (SecondLaws), and of reports (ReportLaws); worked runs
-- (Worked) and reports (WorkedReports); wrong runs (Useless) and reports (UselessReports) refuted.
pub mod RunLaws
pub mod SecondLaws
pub mod ReportLaws
pub mod Worked
pub mod WorkedReports
pub mod Useless
pub mod UselessReports
