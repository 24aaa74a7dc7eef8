pub mod Fields
pub mod Sorting
pub use Fields.{lists_of}
pub use Sorting.{runs_below, runs_from, weight_on, sum_all, IsPattern, AreHeads, HaveSameHead, IsFirstFrom, MayJoinPattern, AreCallsBehind, IsBehindNoted, nothing_put, AreLastPuts}
