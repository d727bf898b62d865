pub mod RowLemmas
pub mod OneLemmas
pub mod RaisedLaws
