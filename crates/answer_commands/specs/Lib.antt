pub mod Answers
pub mod Outputs
pub mod Commands
pub mod Complete
pub mod Working
pub use Answers.{IsAnswer, IsAnswerCount, settled_line, IsSettledLine, WritesSettled}
pub use Outputs.{IsCertificateFor, IsCertifiedWithin, IsCertified, body_of, IsShown, best_certificates}
pub use Commands.{SaysAnswer, SaysCertify, SaysVerify}
pub use Complete.{SpellsValid, CanAnswer, CanCertify, CanVerify, AnswerCompletes, CertifyCompletes, VerifyCompletes}
pub use Working.{HasBoth, IsBothOutcome}
