-- What a late certificate of a query line is.
use Rattle.std.specs.Prelude.{◌≡◌, ℕ, List}
use Rattle.mode_network.specs.NetworkLists.{NetworkLists}
use Rattle.latest_departure.specs.{AreLateLabels, LateClaim, IsValidLate, ProvesLate}
use Rattle.late_certificate.specs.Texts.{FitsLate}

-- a valid certificate for the line, whose labels are those of the search; the format can hold it, and it proves what it claims
pub record IsLateCertificateOf (n : NetworkLists) (line : List ℕ) (c : LateClaim) : Type 0 where
  pub line_is : c.line ≡ line
  pub valid : IsValidLate n c
  pub labelled : AreLateLabels n valid.setting.asked c.labels
  pub fits : FitsLate c
  pub proves : ProvesLate n c
