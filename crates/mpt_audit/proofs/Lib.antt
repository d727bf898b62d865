pub mod OtherLemmas
pub mod FindingLemmas
pub mod SizeLemmas
pub mod OneLemmas
