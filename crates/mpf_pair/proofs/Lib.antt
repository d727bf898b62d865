pub mod LineLemmas
pub mod ByteLemmas
pub mod StateLemmas
