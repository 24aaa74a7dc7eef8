pub mod NameLemmas
pub mod PlainForms
