pub mod PinSearch
pub mod Acknowledged
