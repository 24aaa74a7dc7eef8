-- Why the bytes of a certificate were not verified.
use Rattle.std.specs.Prelude.{ℕ, List}
use Rattle.run_steps.specs.{declared.outcome.Outcome.Outcome, declared.outcome.Outcome.TheVariants.Invalid, declared.outcome.Outcome.TheVariants.BadCertificate, declared.outcome.Outcome.TheVariants.OutOfMemory, Certificates.CertificateKind}

abbrev pub IsUnverified : CertificateKind → List ℕ → Outcome → Type 0
IsUnverified kind bytes (BadCertificate line) = kind.IsBadLine bytes line
IsUnverified kind bytes (Invalid clause at) = kind.Fails bytes clause at
IsUnverified kind bytes OutOfMemory = Unit {0}
IsUnverified kind bytes _ = ⊥
