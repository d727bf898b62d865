pub mod MadeLemmas
pub mod WaitLemmas
pub mod EntryLemmas
pub mod LogLemmas
pub mod PlaceLemmas
pub mod HitLemmas
pub mod StateLemmas
