pub mod DeliveryLemmas
pub mod AnswerLemmas
pub mod FileLemmas
pub mod BoardLemmas
pub mod FormReading
pub mod SecondLemmas
pub mod LimitedLemmas
pub mod MadeLemmas
