pub mod GivenLemmas
pub mod DigitLemmas
