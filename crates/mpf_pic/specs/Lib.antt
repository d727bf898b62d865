pub mod Wiring
pub mod Play
