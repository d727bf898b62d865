pub mod Defaults
pub mod Platform
pub mod ByKind
pub mod Sense
pub mod Routes
pub mod Index
pub mod Pins
pub mod Reasons
