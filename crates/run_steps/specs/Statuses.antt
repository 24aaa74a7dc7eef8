-- The exit status of each outcome.
use Rattle.std.specs.Prelude.{ℕ}
use Rattle.run_steps.specs.{declared.outcome.Outcome.Outcome, declared.outcome.Outcome.TheVariants.Done, declared.outcome.Outcome.TheVariants.Missing, declared.outcome.Outcome.TheVariants.ReadFault, declared.outcome.Outcome.TheVariants.TooLong, declared.outcome.Outcome.TheVariants.WriteFault, declared.outcome.Outcome.TheVariants.BadRegion, declared.outcome.Outcome.TheVariants.Invalid, declared.outcome.Outcome.TheVariants.BadCertificate, declared.outcome.Outcome.TheVariants.OutOfMemory}
pub use Rattle.run_steps.specs.declared.outcome.Outcome.TheVariants.{Usage, BadFeed, BadHierarchy, Unsound}

abbrev pub status_of : Outcome → ℕ
status_of Done = 0
status_of Usage = 2
status_of (Missing file) = 3
status_of (ReadFault file) = 4
status_of (TooLong file) = 5
status_of WriteFault = 6
status_of (BadRegion fault) = 7
status_of (BadFeed fault) = 8
status_of (BadHierarchy fault) = 9
status_of (Unsound clause at by) = 10
status_of (Invalid clause at) = 11
status_of (BadCertificate line) = 12
status_of OutOfMemory = 13
