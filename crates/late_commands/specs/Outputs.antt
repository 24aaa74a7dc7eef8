-- What `certify-latest` and `verify-latest` write.
use Rattle.std.specs.Prelude.{◌≡◌, ℕ, ◌⊎◌, List, Option}
use Rattle.mode_network.specs.NetworkLists.{NetworkLists}
use Rattle.certificate.specs.{BadLine}
use Rattle.certificate.specs.declared.verdict.CertVerdict.TheVariants as verdict
use Rattle.journey.specs.{IsRefusedBlock, IsBlockUnder, stopped_block}
use Rattle.latest_departure.specs.{IsAnswerBlock, IsShownBlock, IsWithinLateLabels, LateClaim, IsValidLate}
use Rattle.late_certificate.specs.{IsLateText, HasCause, IsLateVerdict, IsLateCertificateOf}
use Rattle.run_steps.specs.{declared.limits.Limits.Limits, CertificateKind}

-- the text of a valid certificate for the line, whose labels are those of the search; it proves what it claims
pub record IsLateCertificateFor (n : NetworkLists) (line out : List ℕ) : Type 0 where
  pub claim : LateClaim
  pub text : IsLateText out claim
  pub of : IsLateCertificateOf n line claim

-- the block of a line that is refused, or a late certificate; where the search may have so many labels
abbrev pub IsLateCertifiedWithin : NetworkLists → Option ℕ → List ℕ → List ℕ → Type 0
IsLateCertifiedWithin n labels line out =
    IsWithinLateLabels n labels line (λ most. out ≡ stopped_block line most) (IsRefusedBlock n line out ⊎ IsLateCertificateFor n line out)

-- and the expression may have so many places
abbrev pub IsLateCertified : NetworkLists → Limits → List ℕ → List ℕ → Type 0
IsLateCertified n limits line out = IsBlockUnder n limits.places (IsLateCertifiedWithin n limits.labels) line out

-- the bytes are the text of a valid late certificate, and the block is that of its line and its result, of which the certificate proves what it tells
pub record IsLateShown (n : NetworkLists) (bytes block : List ℕ) : Type 0 where
  pub claim : LateClaim
  pub text : IsLateText bytes claim
  pub valid : IsValidLate n claim
  pub tells : IsAnswerBlock n claim.line claim.result block
  pub right : IsShownBlock n claim.line block

-- certificates of the latest departure
abbrev pub late_certificates : NetworkLists → CertificateKind
late_certificates n = record {
  IsBadLine = λ bytes line. HasCause bytes (BadLine line);
  Fails = λ bytes clause at. (claim : LateClaim) × IsLateText bytes claim × IsLateVerdict n claim (verdict.Invalid clause at);
  Shows = IsLateShown n;
}
