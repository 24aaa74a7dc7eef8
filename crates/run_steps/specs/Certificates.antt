-- Kinds of certificates, and what a run says that verifies one.
use Rattle.std.specs.Prelude.{◌≡◌, ℕ, ◌⊎◌, List, ◌++◌, codes}
use Rattle.plain_texts.specs.{with_feed}
pub use Rattle.run_steps.specs.{declared.outcome.FileRole.TheVariants.Certificate, declared.outcome.Outcome.TheVariants.Invalid, declared.outcome.Outcome.TheVariants.BadCertificate}
use Rattle.run_steps.specs.Sayings.{Saying, Ends, OnFile, WritesText}

-- what bytes are as a certificate of some kind
pub record CertificateKind : Type 1 where
  -- this line of the bytes, from 1, is the first that may not stand where it does
  pub IsBadLine : List ℕ → ℕ → Type 0
  -- the bytes spell a certificate that is not valid: this is the first clause that fails, at its least place
  pub Fails : List ℕ → ℕ → ℕ → Type 0
  -- the bytes spell a valid certificate, which shows this block
  pub Shows : List ℕ → List ℕ → Type 0

abbrev pub IsBadCertificate : CertificateKind → List ℕ → Saying
IsBadCertificate kind bytes old new outcome = (line : ℕ) × kind.IsBadLine bytes line × Ends (BadCertificate line) old new outcome

abbrev pub IsInvalid : CertificateKind → List ℕ → Saying
IsInvalid kind bytes old new outcome = (clause : ℕ) × (at : ℕ) × kind.Fails bytes clause at × Ends (Invalid clause at) old new outcome

-- the bytes of a certificate are read and verified
abbrev pub OnCertificate : CertificateKind → List ℕ → Saying → Saying
OnCertificate kind bytes rest old new outcome =
    IsBadCertificate kind bytes old new outcome ⊎ (IsInvalid kind bytes old new outcome ⊎ rest old new outcome)

-- `valid`, and a block that is so
pub record TellsValid (IsShown : List ℕ → Type 0) (out : List ℕ) : Type 0 where
  pub block : List ℕ
  pub shown : IsShown block
  pub out_is : out ≡ with_feed (codes "valid") ++ block

-- the certificate of a file is verified, and `valid` and a block that it shows are written
abbrev pub SaysVerified : CertificateKind → List ℕ → Saying
SaysVerified kind name = OnFile Certificate name (λ bytes. OnCertificate kind bytes (WritesText (TellsValid (kind.Shows bytes))))
