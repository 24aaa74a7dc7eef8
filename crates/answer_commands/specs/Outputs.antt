-- What `certify` and `verify` write.
use Rattle.std.specs.Prelude.{◌≡◌, ℕ, ◌⊎◌, List, Option, Some, None}
use Rattle.mode_network.specs.{NetworkLists.NetworkLists, Route}
use Rattle.journey.specs.{BlockBody, Journey, Nothing, IsBlockText, IsBlock, IsRefusedBlock, IsBlockUnder, stopped_block}
use Rattle.certificate.specs.{BadLine, Claim, IsCertText, HasCause, IsValid, Proves, IsCertVerdict}
use Rattle.certificate.specs.declared.verdict.CertVerdict.TheVariants as verdict
use Rattle.run_steps.specs.{declared.limits.Limits.Limits, CertificateKind}
use Rattle.hierarchy.specs.{HierarchyLists}
use Rattle.planning.specs.{AreTheLabels, IsWithinLabels}

-- the text of a valid certificate for the line, whose labels are those of the search over the graph in use; it proves what it claims
pub record IsCertificateFor (n : NetworkLists) (h : Option HierarchyLists) (line out : List ℕ) : Type 0 where
  pub claim : Claim
  pub text : IsCertText out claim
  pub line_is : claim.line ≡ line
  pub valid : IsValid n h claim
  pub labelled : AreTheLabels n h valid.setting.asked claim.labels
  pub proves : Proves n claim

-- the block of a line that is refused, or a certificate; where the search may have so many labels
abbrev pub IsCertifiedWithin : NetworkLists → Option HierarchyLists → Option ℕ → List ℕ → List ℕ → Type 0
IsCertifiedWithin n h labels line out =
    IsWithinLabels n h labels line (λ most. out ≡ stopped_block line most) (IsRefusedBlock n line out ⊎ IsCertificateFor n h line out)

-- and the expression may have so many places
abbrev pub IsCertified : NetworkLists → Option HierarchyLists → Limits → List ℕ → List ℕ → Type 0
IsCertified n h limits line out = IsBlockUnder n limits.places (IsCertifiedWithin n h limits.labels) line out

-- what a certificate claims, as the body of a block
abbrev pub body_of : Option (ℕ × Route) → BlockBody
body_of (Some claimed) = Journey claimed.1
body_of None = Nothing

-- the bytes are the text of a valid certificate, and the block is that of its line and its result, which is a right block
pub record IsShown (n : NetworkLists) (h : Option HierarchyLists) (bytes block : List ℕ) : Type 0 where
  pub claim : Claim
  pub text : IsCertText bytes claim
  pub valid : IsValid n h claim
  pub tells : IsBlockText n claim.line (body_of claim.result) block
  pub right : IsBlock n claim.line block

-- certificates of earliest arrival, whose labels are over the graph in use
abbrev pub best_certificates : NetworkLists → Option HierarchyLists → CertificateKind
best_certificates n h = record {
  IsBadLine = λ bytes line. HasCause bytes (BadLine line);
  Fails = λ bytes clause at. (claim : Claim) × IsCertText bytes claim × IsCertVerdict n h claim (verdict.Invalid clause at);
  Shows = IsShown n h;
}
