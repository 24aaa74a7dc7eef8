pub mod HopLemmas
pub mod LabelLemmas
mod QueueLemmas
mod FrontierLemmas
mod OfferLemmas
mod GivenLemmas
mod LegLemmas
mod TakenLemmas
mod StepLemmas
pub mod ReachLemmas
mod EndLemmas
mod NotingLemmas
mod TrailLemmas
mod ListLemmas
mod ListingLemmas
mod LimitLemmas
mod CheckLemmas
mod StartLemmas
pub mod BoundLemmas
pub mod ClosureLemmas
mod LetterLemmas
mod MoveLemmas
mod SortLemmas
