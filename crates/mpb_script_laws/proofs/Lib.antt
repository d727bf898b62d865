pub mod FirstWord
pub mod Judgment
