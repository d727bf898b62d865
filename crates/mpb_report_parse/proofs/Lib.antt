pub mod Prefix
pub mod Runs
pub mod Places
pub mod ListLemmas
pub mod ReportLines
pub mod WholeLines
pub mod Unique
pub mod ShownLemmas
