pub mod Numerals
pub mod Lines
pub mod Values
pub mod Reading
pub mod Forms
