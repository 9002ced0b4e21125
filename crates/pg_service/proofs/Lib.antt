pub mod AnswersRise
pub mod Leading
pub mod Ran
pub mod Refreshed
pub mod ReportTexts
pub mod Untouched
