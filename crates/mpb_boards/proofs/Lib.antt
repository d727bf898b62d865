pub mod LineLemmas
pub mod BoardLemmas
