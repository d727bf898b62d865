pub mod Complete
pub mod RightOps
pub mod Fitting
pub mod Outcomes
pub mod Reported
pub mod BoardOps
pub mod Lengths
