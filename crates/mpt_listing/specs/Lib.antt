pub mod Listing
pub mod Part
