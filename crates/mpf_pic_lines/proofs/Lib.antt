pub mod Parts
pub mod OpForms
pub mod TextLemmas
