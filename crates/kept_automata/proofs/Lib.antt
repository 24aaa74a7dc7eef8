pub mod TextLemmas
