pub mod Tally
pub mod Summary
