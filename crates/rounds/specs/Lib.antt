pub mod Layers
pub mod Crossings
pub mod Lines
pub mod Rounds
pub mod Reached
pub mod inside
pub use Layers.{CoreLeads, IsCoreIn, HasCoreHops, IsCoreLayer, IsGate, AreGates, Gate, CoreLayer}
pub use Crossings.{AreStanding, IsQuiet}
pub use Lines.{Line, IsLine, AreLines}
pub use Rounds.{AreRounds, AreStartsIn, AreStarts}
pub use Reached.{AreReachedLabels}
