pub mod Firsts
pub mod Letters
pub mod Times
pub mod GraphLaws
pub mod LabelLaws
pub mod Walks
pub mod Collapse
pub mod Ways
pub mod Fresh
pub use Firsts.{HoldsBelow, FailsFirstAt}
pub use Letters.{letter_count, every_letter, transit_letters, IsLetter, IsLetterSet}
pub use Times.{time_bound}
pub use GraphLaws.{GraphArc, GraphMeaning, HasArc, IsLawfulGraph}
pub use LabelLaws.{Move, LabelsMeaning, IsLawfulLabels, IsMove, HasMove, IsRoadLabels, Reads, Accepts, Follows, AllAfter}
pub use Walks.{WalkStep, IsWalk, word_from, ArrivesAt, IsLeast, wait, arc}
pub use Collapse.{collapse}
pub use Ways.{Leg, Way, is_open, moving_letters, way_if, open_way, way_at, ways_from, ways_of, ways_past, IsWay, IsLeg}
pub use Fresh.{Visit, GivenRun, GivenRuns, HoldsRun, KnowsBy, IsRunNoted, IsAsGood, HasAsGood, RunRides, WasGiven, HasAsGoodOrGiven, AreFresh, AddsFresh, StandsStill, AreMoving, visit_by, AddsMoving}
