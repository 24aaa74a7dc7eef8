pub mod EntryLemmas
pub mod LayerLemmas
pub mod RowLemmas
pub mod StepLemmas
pub mod SweepLemmas
