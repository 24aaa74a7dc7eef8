pub mod LoopLemmas
pub mod FieldLaws
pub mod ManyLaws
pub mod RecordLaws
pub mod WholeLaws
pub mod CauseLaws
