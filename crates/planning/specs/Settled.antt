-- How many labels the searches for query lines have.
use Rattle.std.specs.Prelude.{◌≡◌, ℕ, ◌+◌, ◌⊎◌, List, [], ◌∷◌, length, Option, Some, None}
use Rattle.product_search.specs.{Label}
use Rattle.hierarchy.specs.{HierarchyLists}
use Rattle.mode_network.specs.NetworkLists.{NetworkLists}
use Rattle.journey.specs.{QueryFault, IsRefused, Asked, Asks}
use Rattle.planning.specs.Plans.{AreTheLabels}

-- how many labels the search has
abbrev pub HasLabelCount : NetworkLists → Option HierarchyLists → Asked → ℕ → Type 0
HasLabelCount n h q count = (labels : List Label) × AreTheLabels n h q labels × (count ≡ length labels)

-- that is told of one over a hierarchy's phase graph, and 0 of one without a hierarchy
abbrev pub IsLabelCount : NetworkLists → Option HierarchyLists → Asked → ℕ → Type 0
IsLabelCount n None q count = count ≡ 0
IsLabelCount n (Some h) q count = HasLabelCount n (Some h) q count

abbrev pub told_count : Option HierarchyLists → ℕ → ℕ
told_count None labels = 0
told_count (Some h) labels = labels

-- that of the query of a line; none where the line is refused
abbrev pub IsSettledCount : NetworkLists → Option HierarchyLists → List ℕ → ℕ → Type 0
IsSettledCount n h line count =
    ((fault : QueryFault) × IsRefused n line fault × (count ≡ 0)) ⊎ ((asked : Asked) × Asks n line asked × IsLabelCount n h asked count)

-- and the sum of these over some lines
abbrev pub Settled : NetworkLists → Option HierarchyLists → List (List ℕ) → ℕ → Type 0
Settled n h [] sum = sum ≡ 0
Settled n h (line ∷ lines) sum = (count : ℕ) × (rest : ℕ) × IsSettledCount n h line count × Settled n h lines rest × (sum ≡ count + rest)
