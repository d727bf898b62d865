pub mod Wrong
pub mod Made
pub mod Differences
pub mod Lines
pub mod Verdict
pub mod Asked
