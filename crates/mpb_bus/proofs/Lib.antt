pub mod Journals
pub mod Takes
pub mod Gives
pub mod Moves
pub mod Ends
pub mod Starts
pub mod Answered
pub mod Seated
