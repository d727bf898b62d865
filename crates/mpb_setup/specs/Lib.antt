pub mod Boot
pub mod Board
pub mod Faults
pub mod Answers
pub mod Steps
