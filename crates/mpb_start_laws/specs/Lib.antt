pub mod Starts
pub mod Rest
pub mod Example
