pub mod Commands
pub mod Complete
pub mod Working
pub use Commands.{IsUnsound, OnSound, OnHierarchy, OnHierarchyIfNamed, SaysCheck, IsContraction, SaysContract}
pub use Complete.{SpellsSound, IsSoundIfNamed, CanCheck, CanContract, CheckCompletes, ContractCompletes}
pub use Working.{AreUnsound, HasSound, HasUnsound, IsHierarchyOutcome, IsFoundSound, IsNamedOutcome}
