pub mod Cores
pub mod inside
pub use Cores.{is_core_entry, core_arc, core_arcs, IsCoreOf, HasLongEntry, HasNoNetwork, IsSoundOnCore}
