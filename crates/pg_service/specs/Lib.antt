pub mod Handed
pub mod Job
pub mod Kept
pub mod Led
pub mod Printed
pub mod ReportJson
pub mod Reported
pub mod Service
