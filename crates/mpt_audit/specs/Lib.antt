pub mod Findings
pub mod Progress
