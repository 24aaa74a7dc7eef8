pub mod Steps
pub mod NumberLaws
pub mod RowLaws
