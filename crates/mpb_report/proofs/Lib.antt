pub mod LineLemmas
pub mod PartLemmas
pub mod FoundLemmas
pub mod MemberLemmas
pub mod DigitLemmas
