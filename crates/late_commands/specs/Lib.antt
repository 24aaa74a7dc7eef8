pub mod Outputs
pub mod Commands
pub mod Complete
pub use Outputs.{IsLateCertificateFor, IsLateCertifiedWithin, IsLateCertified, IsLateShown, late_certificates}
pub use Commands.{IsLatestBlock, SaysFew, SaysLatest, SaysProfile, SaysCertifyLatest, SaysVerifyLatest}
pub use Complete.{SpellsValidLate, CanFew, CanLatest, CanProfile, CanCertifyLatest, CanVerifyLatest, FewCompletes, LatestCompletes, ProfileCompletes, CertifyLatestCompletes, VerifyLatestCompletes}
