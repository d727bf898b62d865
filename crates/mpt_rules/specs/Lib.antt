pub mod Places
pub mod Entries
pub mod Rules
pub mod Index
