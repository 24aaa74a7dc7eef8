-- When a late certificate is valid, and what it then proves.
use Rattle.std.specs.Prelude.{ℕ, ◌+◌, ◌-◌, List, Option, Some, None}
use Rattle.product_search.specs.{Label, IsClosed}
use Rattle.mode_network.specs.{NetworkLists.NetworkLists, Route}
use Rattle.journey.specs.{KeepsRules, Asked, Asks}
use Rattle.latest_departure.specs.{Late.deadline, Late.IsInTime, Late.IsLateResult, Latest.span, Latest.Mirroring, Latest.graph_of, Latest.labels_of}

-- what is claimed of a query line: a journey that starts at the latest departure, or that none is in time; and labels in mirrored time
pub record LateClaim : Type 0 where
  pub line : List ℕ
  pub result : Option Route
  pub labels : List Label

-- what a line asks of a network, and what its labels are read over
pub record LateSetting (n : NetworkLists) (line : List ℕ) : Type 0 where
  pub asked : Asked
  pub asks : Asks n line asked
  pub over : Mirroring n asked

-- the journey that is claimed, if one is, is in time
abbrev pub LateHolds : NetworkLists → Asked → Option Route → Type 0
LateHolds n asked (Some claimed) = IsInTime n asked claimed
LateHolds n asked None = Unit {0}

-- before which mirrored moment the labels are to tell all: that of the departure, or one past the region's first date
abbrev pub late_bound : NetworkLists → Asked → Option Route → ℕ
late_bound n asked (Some claimed) = deadline asked - claimed.at
late_bound n asked None = span n asked + 1

-- the labels are closed below the bound, from the destination's copies at 0 back to those of the origin
abbrev pub LateLabelsAreClosed : (n : NetworkLists) → (c : LateClaim) → LateSetting n c.line → Type 0
LateLabelsAreClosed n c s =
    IsClosed (graph_of n s.asked s.over) (labels_of n s.asked s.over) s.over.starts s.over.targets 0 (Some (late_bound n s.asked c.result)) c.labels

-- The line is a query, the journey that is claimed is in time, and the labels are closed.
pub record IsValidLate (n : NetworkLists) (c : LateClaim) : Type 0 where
  pub setting : LateSetting n c.line
  pub holds : LateHolds n setting.asked c.result
  pub closed : LateLabelsAreClosed n c setting

-- the line asks this, and the result is right
pub record ProvesLate (n : NetworkLists) (c : LateClaim) : Type 0 where
  pub asked : Asked
  pub asks : Asks n c.line asked
  pub right : IsLateResult n asked c.result

-- a late certificate that is valid proves what it claims
abbrev pub ValidLateProves : Type 0
ValidLateProves = (n : NetworkLists) → KeepsRules n → (c : LateClaim) → IsValidLate n c → ProvesLate n c
