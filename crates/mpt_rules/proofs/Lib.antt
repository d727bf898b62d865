pub mod PlaceLemmas
pub mod SenseLemmas
pub mod MeetLemmas
pub mod IndexLemmas
