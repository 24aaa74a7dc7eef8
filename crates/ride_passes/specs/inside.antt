-- What single steps of a pass do; types and the clauses of private calls name it.
pub mod Earliest
pub use Earliest.{IsNoLater, IsEarliestOf, IsFirstOf, IsBoardedOr}
