-- What is right of a query line whose search for the latest departure may have so many labels, and no more.
use Rattle.std.specs.Prelude.{◌≡◌, ℕ, ◌≤◌, ◌⊎◌, List, length, Option, Some, None}
use Rattle.product_search.specs.{Label, HasMoreLabels}
use Rattle.mode_network.specs.NetworkLists.{NetworkLists}
use Rattle.journey.specs.{QueryFault, IsRefused, Asked, Asks, stopped_block}
use Rattle.latest_departure.specs.{Blocks.IsLateBlock, Latest.AreLateLabels, Latest.Mirroring, Latest.graph_of, Latest.labels_of, Latest.span}

-- the search through mirrored time has more labels than so many
pub record LateSearchHasMore (n : NetworkLists) (q : Asked) (limit : ℕ) : Type 0 where
  pub over : Mirroring n q
  pub more : HasMoreLabels (graph_of n q over) (labels_of n q over) over.starts over.targets 0 (Some (span n q)) limit

-- it has at most so many
abbrev pub LateSearchHasAtMost : NetworkLists → Asked → ℕ → Type 0
LateSearchHasAtMost n q limit = (labels : List Label) × AreLateLabels n q labels × (length labels ≤ limit)

-- the line asks something whose search has more labels than the limit
abbrev pub IsStoppedLateLine : NetworkLists → ℕ → List ℕ → Type 0
IsStoppedLateLine n limit line = (asked : Asked) × Asks n line asked × LateSearchHasMore n asked limit

-- the line is refused, or asks something whose search has no more
abbrev pub IsLateLineWithin : NetworkLists → ℕ → List ℕ → Type 0
IsLateLineWithin n limit line = ((fault : QueryFault) × IsRefused n line fault) ⊎ ((asked : Asked) × Asks n line asked × LateSearchHasAtMost n asked limit)

-- what is right of a line whose search may have so many labels: one thing where it has more, and what is right anyway where it has not
abbrev pub IsWithinLateLabels : NetworkLists → Option ℕ → List ℕ → (ℕ → Type 0) → Type 0 → Type 0
IsWithinLateLabels n None line IsStopped Is = Is
IsWithinLateLabels n (Some limit) line IsStopped Is = (IsStoppedLateLine n limit line × IsStopped limit) ⊎ (IsLateLineWithin n limit line × Is)

-- the right late block of a query line
abbrev pub IsLateBlockWithin : NetworkLists → Option ℕ → List ℕ → List ℕ → Type 0
IsLateBlockWithin n limit line block = IsWithinLateLabels n limit line (λ most. block ≡ stopped_block line most) (IsLateBlock n line block)
