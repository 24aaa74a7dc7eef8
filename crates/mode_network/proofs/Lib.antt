pub mod RuleLemmas
pub mod KeyLemmas
pub mod IndexLemmas
pub mod FindLemmas
pub mod CopyLemmas
pub mod NearLemmas
pub mod LayerLemmas
