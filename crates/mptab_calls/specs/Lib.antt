pub mod Causes
pub mod TopCall
