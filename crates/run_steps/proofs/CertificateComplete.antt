-- A certificate's file that is there, of a certificate that is valid, is verified.
use Rattle.plan_base.proofs.Common.{ℕ, inl, inr, List}
use Rattle.run_steps.specs.{Certificate, Files, IsHeld, Completes, CertificateKind, OnCertificate, SaysVerified, TellsValid, WritesText}
use Rattle.run_steps.proofs.CompleteSteps.{file_completes, writes_completes}

module _ (files : Files) (kind : CertificateKind) (IsValid : List ℕ → Type 0)
    (spells : (bytes : List ℕ) → IsValid bytes → (line : ℕ) → kind.IsBadLine bytes line → ⊥)
    (holds : (bytes : List ℕ) → IsValid bytes → (clause at : ℕ) → kind.Fails bytes clause at → ⊥) where
  valid_completes : (bytes : List ℕ) → Completes files (IsValid bytes) (OnCertificate kind bytes (WritesText (TellsValid (kind.Shows bytes))))
  valid_completes bytes valid old new outcome tells quiet (inl (line, bad, ends)) = absurd (spells bytes valid line bad)
  valid_completes bytes valid old new outcome tells quiet (inr (inl (clause, at, fails, ends))) = absurd (holds bytes valid clause at fails)
  valid_completes bytes valid old new outcome tells quiet (inr (inr wrote)) = writes_completes files _ _ tt old new outcome tells quiet wrote

  -- it can be verified, and is, unless memory runs out
  pub verified_completes : (name : List ℕ) → Completes files (IsHeld Certificate files name IsValid) (SaysVerified kind name)
  verified_completes name = file_completes files _ name _ _ valid_completes
