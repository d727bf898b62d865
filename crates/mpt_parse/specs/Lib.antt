pub mod Listings
pub mod Languages
