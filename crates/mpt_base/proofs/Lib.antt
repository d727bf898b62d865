pub mod AppendLemmas
pub mod Digits
pub mod FilesByName
pub mod SealLemmas
pub mod WrittenBack
