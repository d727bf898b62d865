pub mod Complete
pub mod Cuts
