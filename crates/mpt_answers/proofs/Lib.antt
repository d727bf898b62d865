pub mod ElcrLemmas
