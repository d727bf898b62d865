pub mod TreeLemmas
pub mod ProgramLemmas
pub mod TableLemmas
pub mod WordLemmas
pub mod FaultLemmas
pub mod AnswerLemmas
pub mod ValueLemmas
