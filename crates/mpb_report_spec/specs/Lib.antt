pub mod Numbered
pub mod EntryLines
pub mod LogLines
pub mod StateLines
pub mod Report
