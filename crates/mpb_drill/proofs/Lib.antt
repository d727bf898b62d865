pub mod ListLemmas
pub mod SoundLemmas
pub mod ValueLemmas
pub mod DrillLemmas
