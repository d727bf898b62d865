mod RowLemmas
mod ListLemmas
mod StatusLemmas
